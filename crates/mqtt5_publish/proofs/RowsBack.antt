-- What the rows of Publish and of the acks give comes back from the packets that are made of it.
use Rattle.std.specs.Prelude.{nat_lt}
use Rattle.std.proofs.Common.{◌≡◌, ℕ, ◌/◌, ◌%◌, true, List, [], ◌∷◌, Option, option_map, refl, sym, ap, ◌∙◌}
use Rattle.mqtt5_base.specs.declared.error.Error.TheVariants.{PacketIdZero}
use Rattle.mqtt5_base.specs.Grammar.{u8, u16, bytes, Atom, number, number_of, Entry, Found, Test, not_zero, passes, plain, properties, atom_of, Content, number_in}
use Rattle.mqtt5_base.specs.Fields.{props, IsRow}
use Rattle.mqtt5_base.specs.FromValues.{found_in}
use Rattle.mqtt5_base.specs.Layout.{content_of_packet}
use Rattle.mqtt5_base.proofs.SetShapes.{kept_by, ComeBack, IsBack, numbers_again, contents_again, texts_again, pairs_again, identifiers_again, set_again}
use Rattle.mqtt5_base.proofs.FieldShapes.{one_back, remainder_back, properties_back, maybe_one, maybe_checked, maybe_properties, among_each, qos_again}
use Rattle.mqtt5_base.specs.AckSets.{ack_table, ack_found}
use Rattle.mqtt5_base.specs.FromValues.{ack_set}
use Rattle.mqtt5_base.proofs.AckSets.{ack_set_again}
use Rattle.mqtt5_publish.specs.Rows.{publish_table, publish_row, ack_row, puback_codes, pubrel_codes, puback_row, pubrel_row, ping_row}
use Rattle.mqtt5_publish.specs.Acks.{puback_code, pubrel_code, puback_packet, pubrec_packet, pubrel_packet, pubcomp_packet}
use Rattle.mqtt5_publish.specs.FromValues.{puback_reason, pubrel_reason, puback_of, pubrec_of, pubrel_of, pubcomp_of, publish_set, publish_of}
use Rattle.mqtt5_publish.specs.Publishes.{publish_found, publish_packet}
use Rattle.mqtt5_base.proofs.Bits.{bit_of_mod}

-- ---- Publish

-- the properties of a Publish
publish_set_again : (items : List (ℕ × Atom)) → ComeBack items → publish_found (publish_set (props publish_table items)) ≡ props publish_table items
publish_set_again items l = λ i.
    numbers_again _ (l 1) i
    ∷ numbers_again _ (l 2) i
    ∷ numbers_again _ (l 35) i
    ∷ texts_again _ (l 8) i
    ∷ contents_again _ (l 9) i
    ∷ pairs_again _ (l 38) i
    ∷ identifiers_again _ (l 11) i
    ∷ texts_again _ (l 3) i
    ∷ []

-- the values of a Publish
abbrev publish_content : ℕ → ℕ → ℕ → Atom → Atom → Option Found → Atom → Content
publish_content dup qos retain topic id p payload = (plain (number dup) ∷ plain (number qos) ∷ plain (number retain) ∷ plain topic ∷ plain id ∷ properties p ∷ plain payload ∷ [], [])

-- What the row of a Publish gives comes back.
pub publish_row_again : (first len : ℕ) (body : List ℕ) (c : Content) (rest : List ℕ) → IsRow publish_row first len body c rest → content_of_packet (publish_packet (publish_of c)) ≡ c
publish_row_again first len body c rest h =
    let f = h.2.1 in
    let topic = one_back bytes body f.0 f.1 f.2 in
    let g = f.3 in
    let id = maybe_checked (nat_lt 0 (first / 2 % 4)) u16 not_zero (λ _. PacketIdZero) (number 0) f.1 g.0 g.1 refl g.2 in
    let b = g.3 in
    let p = properties_back publish_table g.1 b.0 b.1 b.2 in
    let r = b.3 in
    let payload = remainder_back b.1 r.0 r.1 r.2 in
    let dup = bit_of_mod (first / 8) in
    let retain = bit_of_mod (first / 1) in
    let qos = qos_again (first / 2 % 4) (h.2.0 refl) in
    let set = set_again publish_table publish_found publish_set publish_set_again p.0 p.2 in
    let found : Content = publish_content (first / 8 % 2) (first / 2 % 4) (first / 1 % 2) topic.0 id.0 p.0 payload.0 in
    let kept : h.0.kept ≡ found.0 = ap (λ k. k.kept) r.3.0 ∙ (λ i. plain (number (first / 8 % 2)) ∷ plain (number (first / 2 % 4)) ∷ plain (number (first / 1 % 2)) ∷ topic.1 i ∷ id.1 i ∷ p.1 i ∷ payload.1 i ∷ []) in
    let is : c ≡ found = h.5 ∙ (λ i. (kept i, h.4.0 i)) in
    ap (λ z. content_of_packet (publish_packet (publish_of z))) is
    ∙ (λ i. (plain (number (sym dup i)) ∷ plain (number (qos i)) ∷ plain (number (sym retain i)) ∷ plain (topic.2 i) ∷ plain (id.2 i) ∷ properties (set i) ∷ plain (payload.2 i) ∷ [], []))
    ∙ sym is

-- ---- acks

-- the values of an ack, which come back, and whose code is among those
abbrev pub IsAck : Test → List Entry → Content → Type 0
IsAck codes table c =
    (id code : Atom) × (p : Option Found) × (c ≡ (plain id ∷ plain code ∷ properties p ∷ [], [])) × (kept_by u16 id ≡ id) × (kept_by u8 code ≡ code) × (passes codes code ≡ true) × IsBack table p

-- The row of an ack gives such values.
pub ack_row_again : (codes : Test) (table : List Entry) (first len : ℕ) (body : List ℕ) (c : Content) (rest : List ℕ) → IsRow (ack_row codes table) first len body c rest → IsAck codes table c
ack_row_again codes table first len body c rest h =
    let f = h.2 in
    let id = one_back u16 body f.0 f.1 f.2 in
    let g = f.3 in
    let code = maybe_one (nat_lt 2 len) u8 (number 0) f.1 g.0 g.1 refl g.2 in
    let b = g.3 in
    let p = maybe_properties (nat_lt 3 len) table g.1 b.0 b.1 b.2 in
    let j = b.3 in
    let kept : h.0.kept ≡ (plain id.0 ∷ plain code.0 ∷ properties p.0 ∷ []) = ap (λ k. k.kept) j.1.0 ∙ (λ i. id.1 i ∷ code.1 i ∷ p.1 i ∷ []) in
    (id.0, code.0, p.0, h.5 ∙ (λ i. (kept i, h.4.0 i)), id.2, code.2, ap (λ v. passes codes (atom_of v)) (sym code.1) ∙ j.0 refl, p.2)

-- What the row of an ack gives comes back, where each code does.
ack_comes_back : (codes : Test) (back : ℕ → ℕ) → ((n : ℕ) → passes codes (number n) ≡ true → back n ≡ n) → (first len : ℕ) (body : List ℕ) (c : Content) (rest : List ℕ) → IsRow (ack_row codes ack_table) first len body c rest
    → (plain (number (number_in c.0 0)) ∷ plain (number (back (number_in c.0 1))) ∷ properties (option_map ack_found (option_map ack_set (found_in c.0 2))) ∷ [], []) ≡ c
ack_comes_back codes back each first len body c rest h =
    let a = ack_row_again codes ack_table first len body c rest h in
    let code = ap number (each (number_of a.1) (ap (passes codes) a.5 ∙ a.6)) ∙ a.5 in
    let set = set_again ack_table ack_found ack_set ack_set_again a.2 a.7 in
    ap (λ (z : Content). (plain (number (number_in z.0 0)) ∷ plain (number (back (number_in z.0 1))) ∷ properties (option_map ack_found (option_map ack_set (found_in z.0 2))) ∷ [], [])) a.3
    ∙ (λ i. (plain (a.4 i) ∷ plain (code i) ∷ properties (set i) ∷ [], []))
    ∙ sym a.3

-- the reason of a PubAck or a PubRec
puback_code_again : (n : ℕ) → passes puback_codes (number n) ≡ true → puback_code (puback_reason n) ≡ n
puback_code_again n h = among_each (λ m. puback_code (puback_reason m) ≡ m) (0 ∷ 16 ∷ 128 ∷ 131 ∷ 135 ∷ 144 ∷ 145 ∷ 151 ∷ 153 ∷ []) (refl, (refl, (refl, (refl, (refl, (refl, (refl, (refl, (refl, tt))))))))) n h

-- the reason of a PubRel or a PubComp
pubrel_code_again : (n : ℕ) → passes pubrel_codes (number n) ≡ true → pubrel_code (pubrel_reason n) ≡ n
pubrel_code_again n h = among_each (λ m. pubrel_code (pubrel_reason m) ≡ m) (0 ∷ 146 ∷ []) (refl, (refl, tt)) n h

-- What the row of a PubAck gives comes back.
pub puback_row_again : (first len : ℕ) (body : List ℕ) (c : Content) (rest : List ℕ) → IsRow puback_row first len body c rest → content_of_packet (puback_packet (puback_of c)) ≡ c
puback_row_again = ack_comes_back puback_codes (λ n. puback_code (puback_reason n)) puback_code_again

-- What the row of a PubRec gives comes back.
pub pubrec_row_again : (first len : ℕ) (body : List ℕ) (c : Content) (rest : List ℕ) → IsRow puback_row first len body c rest → content_of_packet (pubrec_packet (pubrec_of c)) ≡ c
pubrec_row_again = ack_comes_back puback_codes (λ n. puback_code (puback_reason n)) puback_code_again

-- What the row of a PubRel gives comes back.
pub pubrel_row_again : (first len : ℕ) (body : List ℕ) (c : Content) (rest : List ℕ) → IsRow pubrel_row first len body c rest → content_of_packet (pubrel_packet (pubrel_of c)) ≡ c
pubrel_row_again = ack_comes_back pubrel_codes (λ n. pubrel_code (pubrel_reason n)) pubrel_code_again

-- What the row of a PubComp gives comes back.
pub pubcomp_row_again : (first len : ℕ) (body : List ℕ) (c : Content) (rest : List ℕ) → IsRow pubrel_row first len body c rest → content_of_packet (pubcomp_packet (pubcomp_of c)) ≡ c
pubcomp_row_again = ack_comes_back pubrel_codes (λ n. pubrel_code (pubrel_reason n)) pubrel_code_again

-- ---- pings

-- What the row of a ping gives is nothing.
pub ping_row_again : (first len : ℕ) (body : List ℕ) (c : Content) (rest : List ℕ) → IsRow ping_row first len body c rest → ([], []) ≡ c
ping_row_again first len body c rest h = sym (h.5 ∙ (λ i. ((h.2.0 i).kept, h.4.0 i)))
