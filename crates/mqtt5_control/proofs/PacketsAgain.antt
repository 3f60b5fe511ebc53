-- A ConnAck, a Disconnect and an Auth that are written are read again, each as its norm.
use Rattle.std.proofs.Common.{◌&&◌, ◌≡◌, ℕ, ◌/◌, ◌%◌, ◌<◌, Bool, true, false, cond, eqb, List, [], ◌∷◌, ◌++◌, length, Option, Some, None, option_map, is_none, Ok, refl, sym, ap, ◌∙◌, arith, rules, length-append}
use Rattle.std.proofs.lemmas.Bool.{lt-ltb, eqb-true}
use Rattle.mqtt5_base.specs.Grammar.{number, Entry, Found, Test, passes, plain, properties, Content, entry_of}
use Rattle.mqtt5_base.specs.Views.{bit}
use Rattle.mqtt5_base.specs.Frames.{Rows}
use Rattle.mqtt5_base.specs.Reading.{frame_at}
use Rattle.mqtt5_base.specs.Layout.{WrittenPacket, plainly, block_bytes, is_short, writing, content_of_packet}
use Rattle.mqtt5_base.specs.Sets.{IsBlockOf}
use Rattle.mqtt5_base.proofs.ViewsBack.{bit_small}
use Rattle.mqtt5_base.proofs.KindsAgain.{both_hold}
use Rattle.mqtt5_base.proofs.BlocksAgain.{some_block, tidy_found, tidy_values, tidy_twice}
use Rattle.mqtt5_base.proofs.FramesAgain.{has_body, body_of, IsReadable, content_read, written_again}
use Rattle.mqtt5_control.specs.Rows.{connack_table, connack_row, disconnect_table, disconnect_codes, disconnect_row, auth_table, auth_codes, auth_row}
use Rattle.mqtt5_control.specs.declared.connack.ConnAck.{ConnAck}
use Rattle.mqtt5_control.specs.declared.disconnect.DisconnectReasonCode.{DisconnectReasonCode}
use Rattle.mqtt5_control.specs.declared.disconnect.Disconnect.{Disconnect}
use Rattle.mqtt5_control.specs.declared.auth.AuthReasonCode.{AuthReasonCode}
use Rattle.mqtt5_control.specs.declared.auth.Auth.{Auth}
use Rattle.mqtt5_control.specs.ConnAcks.{connack_code, connack_found, connack_packet}
use Rattle.mqtt5_control.specs.Disconnects.{disconnect_code, disconnect_found, disconnect_packet}
use Rattle.mqtt5_control.specs.Auths.{auth_code, auth_found, auth_packet}
use Rattle.mqtt5_control.specs.Norms.{connack_norm, disconnect_norm, auth_norm}

-- a code and properties as they are read again
abbrev reason_content : ℕ → Option Found → Content
reason_content code p = (plain (number code) ∷ properties p ∷ [], [])

-- such a body has two bytes at least
reason_and_block : (codes : Test) (table : List Entry) (code : ℕ) (p : Option Found) → passes codes (number code) ≡ true → 1 < length ((cond (passes codes (number code)) (code ∷ []) [] ++ (block_bytes table p ++ [])) ++ [])
reason_and_block codes table code p known =
    let block = block_bytes table p in
    rw known (omega (arith, some_block table p, length-append block [], length-append (block ++ []) []))

-- ---- Disconnect

-- one of that code and those properties
abbrev disconnect_written : ℕ → Option Found → WrittenPacket
disconnect_written code p = plainly 224 (plain (number code) ∷ properties p ∷ [])

-- each reason's code is one of them
disconnect_known : (r : DisconnectReasonCode) → passes disconnect_codes (number (disconnect_code r)) ≡ true
disconnect_known = search rules

-- what is none
is_nothing : {A : Type 0} (o : Option A) → (is_none o && true) ≡ true → o ≡ None
is_nothing None h = refl
is_nothing (Some a) h = absurd cc

-- the row of a Disconnect reads it, with a body or without
disconnect_readable : (rows : Rows) (short : Bool) (code : ℕ) (p : Option Found) → is_short disconnect_row (disconnect_written code p) ≡ short → entry_of rows 14 ≡ Some disconnect_row → passes disconnect_codes (number code) ≡ true → IsBlockOf disconnect_table p
    → IsReadable rows disconnect_row (disconnect_written code p) short (reason_content code (tidy_found p))
disconnect_readable rows true code p is among known set =
    let s = both_hold (eqb code 0) (is_none p && true) is in
    let zero : code ≡ 0 = eqb-true code 0 s.0 in
    let none : p ≡ None = is_nothing p s.1 in
    record {
      brief = is;
      among = among;
      whole = refl;
      suits = (λ _. (refl, refl), (λ _. (refl, refl), (refl, λ _. tt, (refl, λ _. (refl, set), tt))));
      parts = tt;
      kept = rw (zero, none) refl;
    }
disconnect_readable rows false code p is among known set =
    let long = reason_and_block disconnect_codes disconnect_table code p known in
    record {
      brief = is;
      among = among;
      whole = has_body disconnect_row (body_of false disconnect_row (disconnect_written code p)) (omega (arith, long));
      suits = (
        λ _. (refl, refl),
        (
          λ _. (refl, refl),
          (sym (lt-ltb _ _ (omega (arith, long))), λ _. tt, (sym (lt-ltb _ _ long), λ _. (refl, set), tt)),
        ),
      );
      parts = tt;
      kept = refl;
    }

-- A Disconnect that was written is read again as its norm's values.
pub disconnect_again : (rows : Rows) (d : Disconnect) (bs : List ℕ) → entry_of rows 14 ≡ Some disconnect_row → IsBlockOf disconnect_table (option_map disconnect_found d.properties)
    → writing disconnect_row (disconnect_packet d) ≡ Ok bs → frame_at rows bs ≡ content_read (content_of_packet (disconnect_packet (disconnect_norm d)))
disconnect_again rows d bs among set h =
    let code = disconnect_code d.reason_code in
    let p = option_map disconnect_found d.properties in
    let short = is_short disconnect_row (disconnect_written code p) in
    written_again rows disconnect_row (disconnect_packet d) short (reason_content code (tidy_found p)) bs h (disconnect_readable rows short code p refl among (disconnect_known d.reason_code) set)
    ∙ ap (λ (b : Option Found). content_read (reason_content code b)) (tidy_values disconnect_found d.properties)

-- The norm's norm is itself.
pub disconnect_norm_twice : (d : Disconnect) → disconnect_norm (disconnect_norm d) ≡ disconnect_norm d
disconnect_norm_twice d = λ i. record { reason_code = d.reason_code; properties = tidy_twice disconnect_found d.properties i }

-- ---- Auth

-- one of that code and those properties
abbrev auth_written : ℕ → Option Found → WrittenPacket
auth_written code p = plainly 240 (plain (number code) ∷ properties p ∷ [])

-- each reason's code is one of them
auth_known : (r : AuthReasonCode) → passes auth_codes (number (auth_code r)) ≡ true
auth_known = search rules

-- the row of an Auth reads it
auth_readable : (rows : Rows) (code : ℕ) (p : Option Found) → entry_of rows 15 ≡ Some auth_row → passes auth_codes (number code) ≡ true → IsBlockOf auth_table p → IsReadable rows auth_row (auth_written code p) false (reason_content code (tidy_found p))
auth_readable rows code p among known set =
    let long = reason_and_block auth_codes auth_table code p known in
    record {
      brief = refl;
      among = among;
      whole = has_body auth_row (body_of false auth_row (auth_written code p)) (omega (arith, long));
      suits = (sym (lt-ltb _ _ (omega (arith, long))), λ _. tt, (sym (lt-ltb _ _ (omega (arith, long))), λ _. (refl, set), tt));
      parts = tt;
      kept = refl;
    }

-- An Auth that was written is read again as its norm's values.
pub auth_again : (rows : Rows) (a : Auth) (bs : List ℕ) → entry_of rows 15 ≡ Some auth_row → IsBlockOf auth_table (option_map auth_found a.properties)
    → writing auth_row (auth_packet a) ≡ Ok bs → frame_at rows bs ≡ content_read (content_of_packet (auth_packet (auth_norm a)))
auth_again rows a bs among set h =
    let code = auth_code a.code in
    let p = option_map auth_found a.properties in
    written_again rows auth_row (auth_packet a) false (reason_content code (tidy_found p)) bs h (auth_readable rows code p among (auth_known a.code) set)
    ∙ ap (λ (b : Option Found). content_read (reason_content code b)) (tidy_values auth_found a.properties)

-- The norm's norm is itself.
pub auth_norm_twice : (a : Auth) → auth_norm (auth_norm a) ≡ auth_norm a
auth_norm_twice a = λ i. record { code = a.code; properties = tidy_twice auth_found a.properties i }

-- ---- ConnAck

-- one of that flag, that code and those properties
abbrev connack_written : ℕ → ℕ → Option Found → WrittenPacket
connack_written present code p = record { first = 32; head = record { raws = plain (number present) ∷ []; kept = plain (number present) ∷ plain (number code) ∷ properties p ∷ [] }; groups = [] }

-- the values of a ConnAck as they are read again
abbrev connack_content : ℕ → ℕ → Option Found → Content
connack_content present code p = (plain (number present) ∷ plain (number code) ∷ properties p ∷ [], [])

-- the row of a ConnAck reads it
connack_readable : (rows : Rows) (present : Bool) (code : ℕ) (p : Option Found) → entry_of rows 2 ≡ Some connack_row → IsBlockOf connack_table p
    → IsReadable rows connack_row (connack_written (bit present) code p) false (connack_content (bit present) code (tidy_found p))
connack_readable rows present code p among set =
    let flag : bit present ≡ bit present / 1 % 2 = omega (arith, bit_small present) in
    record {
      brief = refl;
      among = among;
      whole = has_body connack_row (body_of false connack_row (connack_written (bit present) code p)) (omega arith);
      suits = (tt, (ap (λ n. plain (number n)) flag, (refl, λ _. tt, (refl, λ _. (refl, set), (λ _. (refl, refl), tt)))));
      parts = tt;
      kept = refl;
    }

-- A ConnAck that was written is read again as its norm's values.
pub connack_again : (rows : Rows) (a : ConnAck) (bs : List ℕ) → entry_of rows 2 ≡ Some connack_row → IsBlockOf connack_table (option_map connack_found a.properties)
    → writing connack_row (connack_packet a) ≡ Ok bs → frame_at rows bs ≡ content_read (content_of_packet (connack_packet (connack_norm a)))
connack_again rows a bs among set h =
    let present = bit a.session_present in
    let code = connack_code a.code in
    let p = option_map connack_found a.properties in
    written_again rows connack_row (connack_packet a) false (connack_content present code (tidy_found p)) bs h (connack_readable rows a.session_present code p among set)
    ∙ ap (λ (b : Option Found). content_read (connack_content present code b)) (tidy_values connack_found a.properties)

-- The norm's norm is itself.
pub connack_norm_twice : (a : ConnAck) → connack_norm (connack_norm a) ≡ connack_norm a
connack_norm_twice a = λ i. record { session_present = a.session_present; code = a.code; properties = tidy_twice connack_found a.properties i }
