-- An ack that is written is read again, as its norm.
use Rattle.std.proofs.Common.{◌&&◌, ◌≡◌, ℕ, ◌/◌, ◌<◌, Bool, true, false, eqb, List, [], ◌++◌, length, Option, Some, None, option_map, is_none, Ok, refl, sym, ap, ◌∙◌, arith, length-append}
use Rattle.std.proofs.lemmas.Bool.{lt-ltb, eqb-true, false≢true}
use Rattle.mqtt5_base.specs.Grammar.{number, Entry, Found, Test, Content, entry_of}
use Rattle.mqtt5_base.specs.Frames.{Rows}
use Rattle.mqtt5_base.specs.Reading.{frame_at}
use Rattle.mqtt5_base.specs.Layout.{block_bytes, is_short, writing, content_of_packet}
use Rattle.mqtt5_base.specs.Sets.{IsBlockOf, apart}
use Rattle.mqtt5_base.specs.Tidy.{tidy}
use Rattle.mqtt5_base.proofs.KindsAgain.{both_hold}
use Rattle.mqtt5_base.proofs.BlocksAgain.{some_block, tidy_found, tidy_values, tidy_twice}
use Rattle.mqtt5_base.proofs.FramesAgain.{has_body, body_of, IsReadable, content_read, written_again}
use Rattle.mqtt5_base.specs.AckSets.{ack_table, ack_found}
use Rattle.mqtt5_publish.specs.Rows.{ack_row, puback_codes, pubrel_codes, puback_row, pubrel_row}
use Rattle.mqtt5_base.specs.declared.ack_properties.AckProperties.{AckProperties}
use Rattle.mqtt5_publish.specs.declared.puback.PubAck.{PubAck}
use Rattle.mqtt5_publish.specs.declared.pubrec.PubRec.{PubRec}
use Rattle.mqtt5_publish.specs.declared.pubrel.PubRel.{PubRel}
use Rattle.mqtt5_publish.specs.declared.pubcomp.PubComp.{PubComp}
use Rattle.mqtt5_publish.specs.Acks.{ack_packet, puback_code, pubrel_code, puback_packet, pubrec_packet, pubrel_packet, pubcomp_packet}
use Rattle.mqtt5_publish.specs.Norms.{puback_norm, pubrec_norm, pubrel_norm, pubcomp_norm}

-- ---- each ack

-- what is none
is_nothing : {A : Type 0} (o : Option A) → (is_none o && true) ≡ true → o ≡ None
is_nothing None h = refl
is_nothing (Some a) h = absurd cc

-- the values of an ack as they are read again
abbrev ack_content : ℕ → ℕ → Option Found → Content
ack_content id code p = content_of_packet (ack_packet 0 id code p)

-- the row of an ack reads it, short or not
ack_readable : (rows : Rows) (codes : Test) (table : List Entry) (first : ℕ) (short : Bool) (id code : ℕ) (p : Option Found) → is_short (ack_row codes table) (ack_packet first id code p) ≡ short → entry_of rows (first / 16) ≡ Some (ack_row codes table)
    → apart [] table ≡ true → id < 65536 → IsBlockOf table p → IsReadable rows (ack_row codes table) (ack_packet first id code p) short (ack_content id code (tidy_found p))
ack_readable rows codes table first true id code p is among once small set =
    let s = both_hold (eqb code 0) (is_none p && true) is in
    let zero : code ≡ 0 = eqb-true code 0 s.0 in
    let none : p ≡ None = is_nothing p s.1 in
    record {
      brief = is;
      among = among;
      whole = has_body (ack_row codes table) (body_of true (ack_row codes table) (ack_packet first id code p)) (omega arith);
      suits = (refl, λ _. small, (refl, λ h. absurd (false≢true h), (refl, λ h. absurd (false≢true h), (λ _. (refl, ap (λ n. number n) zero), tt))));
      parts = tt;
      kept = rw (zero, none) refl;
    }
ack_readable rows codes table first false id code p is among once small set =
    let block = block_bytes table p in
    let some : 0 < length ((block ++ []) ++ []) = omega (arith, some_block table p, length-append block [], length-append (block ++ []) []) in
    record {
      brief = is;
      among = among;
      whole = has_body (ack_row codes table) (body_of false (ack_row codes table) (ack_packet first id code p)) (omega arith);
      suits = (refl, λ _. small, (sym (lt-ltb _ _ (omega (arith, some))), λ _. tt, (sym (lt-ltb _ _ (omega (arith, some))), λ _. (once, set), (λ _. (refl, refl), tt))));
      parts = tt;
      kept = refl;
    }

-- An ack that was written is read again as its values, of a tidy set.
ack_again : (rows : Rows) (codes : Test) (first id code : ℕ) (p : Option AckProperties) (bs : List ℕ) → entry_of rows (first / 16) ≡ Some (ack_row codes ack_table) → id < 65536 → IsBlockOf ack_table (option_map ack_found p)
    → writing (ack_row codes ack_table) (ack_packet first id code (option_map ack_found p)) ≡ Ok bs → frame_at rows bs ≡ content_read (ack_content id code (option_map ack_found (tidy ack_found p)))
ack_again rows codes first id code p bs among small set h =
    let row = ack_row codes ack_table in
    let w = ack_packet first id code (option_map ack_found p) in
    let short = is_short row w in
    written_again rows row w short (ack_content id code (tidy_found (option_map ack_found p))) bs h (ack_readable rows codes ack_table first short id code (option_map ack_found p) refl among refl small set)
    ∙ ap (λ (b : Option Found). content_read (ack_content id code b)) (tidy_values ack_found p)

-- ---- the packets

-- A PubAck that was written is read again as its norm's values.
pub puback_again : (rows : Rows) (p : PubAck) (bs : List ℕ) → entry_of rows 4 ≡ Some puback_row → p.pkid < 65536 → IsBlockOf ack_table (option_map ack_found p.properties)
    → writing puback_row (puback_packet p) ≡ Ok bs → frame_at rows bs ≡ content_read (content_of_packet (puback_packet (puback_norm p)))
puback_again rows p = ack_again rows puback_codes 64 p.pkid (puback_code p.reason) p.properties

-- The norm's norm is itself.
pub puback_norm_twice : (p : PubAck) → puback_norm (puback_norm p) ≡ puback_norm p
puback_norm_twice p = λ i. record { pkid = p.pkid; reason = p.reason; properties = tidy_twice ack_found p.properties i }

-- A PubRec that was written is read again as its norm's values.
pub pubrec_again : (rows : Rows) (p : PubRec) (bs : List ℕ) → entry_of rows 5 ≡ Some puback_row → p.pkid < 65536 → IsBlockOf ack_table (option_map ack_found p.properties)
    → writing puback_row (pubrec_packet p) ≡ Ok bs → frame_at rows bs ≡ content_read (content_of_packet (pubrec_packet (pubrec_norm p)))
pubrec_again rows p = ack_again rows puback_codes 80 p.pkid (puback_code p.reason) p.properties

-- The norm's norm is itself.
pub pubrec_norm_twice : (p : PubRec) → pubrec_norm (pubrec_norm p) ≡ pubrec_norm p
pubrec_norm_twice p = λ i. record { pkid = p.pkid; reason = p.reason; properties = tidy_twice ack_found p.properties i }

-- A PubRel that was written is read again as its norm's values.
pub pubrel_again : (rows : Rows) (p : PubRel) (bs : List ℕ) → entry_of rows 6 ≡ Some pubrel_row → p.pkid < 65536 → IsBlockOf ack_table (option_map ack_found p.properties)
    → writing pubrel_row (pubrel_packet p) ≡ Ok bs → frame_at rows bs ≡ content_read (content_of_packet (pubrel_packet (pubrel_norm p)))
pubrel_again rows p = ack_again rows pubrel_codes 98 p.pkid (pubrel_code p.reason) p.properties

-- The norm's norm is itself.
pub pubrel_norm_twice : (p : PubRel) → pubrel_norm (pubrel_norm p) ≡ pubrel_norm p
pubrel_norm_twice p = λ i. record { pkid = p.pkid; reason = p.reason; properties = tidy_twice ack_found p.properties i }

-- A PubComp that was written is read again as its norm's values.
pub pubcomp_again : (rows : Rows) (p : PubComp) (bs : List ℕ) → entry_of rows 7 ≡ Some pubrel_row → p.pkid < 65536 → IsBlockOf ack_table (option_map ack_found p.properties)
    → writing pubrel_row (pubcomp_packet p) ≡ Ok bs → frame_at rows bs ≡ content_read (content_of_packet (pubcomp_packet (pubcomp_norm p)))
pubcomp_again rows p = ack_again rows pubrel_codes 112 p.pkid (pubrel_code p.reason) p.properties

-- The norm's norm is itself.
pub pubcomp_norm_twice : (p : PubComp) → pubcomp_norm (pubcomp_norm p) ≡ pubcomp_norm p
pubcomp_norm_twice p = λ i. record { pkid = p.pkid; reason = p.reason; properties = tidy_twice ack_found p.properties i }
