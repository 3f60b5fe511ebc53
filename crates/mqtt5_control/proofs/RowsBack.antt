-- What the rows of ConnAck, Disconnect and Auth give comes back from the packets that are made of it.
use Rattle.std.specs.Prelude.{nat_lt}
use Rattle.std.proofs.Common.{◌≡◌, ℕ, ◌/◌, ◌%◌, Bool, true, false, List, [], ◌∷◌, refl, sym, ap, ◌∙◌, rules}
use Rattle.mqtt5_base.specs.declared.error.Error.{Error}
use Rattle.mqtt5_base.specs.declared.error.Error.TheVariants.{InvalidConnectReturnCode, MalformedPacket}
use Rattle.mqtt5_base.specs.Grammar.{Kind, u8, Atom, number, number_of, Test, any_of, not_zero, spells, passes, Value, plain, properties, checked, atom_of, Content}
use Rattle.mqtt5_base.specs.Fields.{props, TakesField, IsRow}
use Rattle.mqtt5_base.specs.Layout.{content_of_packet}
use Rattle.mqtt5_base.proofs.SetShapes.{kept_by, ComeBack, numbers_again, contents_again, texts_again, pairs_again, set_again}
use Rattle.mqtt5_base.proofs.FieldShapes.{IsTested, one_back, checked_back, properties_back, maybe_properties, Each, among_each}
use Rattle.mqtt5_control.specs.Rows.{connack_table, connack_codes, connack_row, disconnect_table, disconnect_codes, disconnect_row, auth_table, auth_codes, auth_row}
use Rattle.mqtt5_control.specs.ConnAcks.{connack_code, connack_found, connack_packet}
use Rattle.mqtt5_control.specs.Disconnects.{disconnect_code, disconnect_found, disconnect_packet}
use Rattle.mqtt5_control.specs.Auths.{auth_code, auth_found, auth_packet}
use Rattle.mqtt5_control.specs.FromValues.{connack_reason, connack_set, connack_of, disconnect_reason, disconnect_set, disconnect_of, auth_reason, auth_set, auth_of}
use Rattle.mqtt5_base.proofs.Bits.{bit_of_mod}

-- a value that is judged, or the one that stands for it, which passes too
maybe_tested : (b : Bool) (k : Kind) (t : Test) (w : ℕ → Error) (d : Atom) (body : List ℕ) (v : Value) (after : List ℕ) → kept_by k d ≡ d → passes t d ≡ true → TakesField b (checked k t w) (plain d) body v after → IsTested k t v
maybe_tested true k t w d body v after e p h = checked_back k t w body v after h
maybe_tested false k t w d body v after e p h = (d, h.0, e, p)

-- the numbers of a test
abbrev numbers_of : Test → List ℕ
numbers_of (any_of ns) = ns
numbers_of not_zero = []
numbers_of (spells t) = []

-- ---- ConnAck

-- the properties of a ConnAck
connack_set_again : (items : List (ℕ × Atom)) → ComeBack items → connack_found (connack_set (props connack_table items)) ≡ props connack_table items
connack_set_again items l = λ i.
    numbers_again _ (l 17) i
    ∷ numbers_again _ (l 33) i
    ∷ numbers_again _ (l 36) i
    ∷ numbers_again _ (l 37) i
    ∷ numbers_again _ (l 39) i
    ∷ texts_again _ (l 18) i
    ∷ numbers_again _ (l 34) i
    ∷ texts_again _ (l 31) i
    ∷ pairs_again _ (l 38) i
    ∷ numbers_again _ (l 40) i
    ∷ numbers_again _ (l 41) i
    ∷ numbers_again _ (l 42) i
    ∷ numbers_again _ (l 19) i
    ∷ texts_again _ (l 26) i
    ∷ texts_again _ (l 28) i
    ∷ texts_again _ (l 21) i
    ∷ contents_again _ (l 22) i
    ∷ []

-- each reason code comes back
connack_codes_again : Each (λ m. connack_code (connack_reason m) ≡ m) (numbers_of connack_codes)
connack_codes_again = search rules

-- a reason code comes back
connack_code_again : (a : Atom) → kept_by u8 a ≡ a → passes connack_codes a ≡ true → number (connack_code (connack_reason (number_of a))) ≡ a
connack_code_again a same passed = ap (λ n. number n) (among_each (λ m. connack_code (connack_reason m) ≡ m) (numbers_of connack_codes) connack_codes_again (number_of a) passed) ∙ same

-- What the row of a ConnAck gives comes back.
pub connack_row_again : (first len : ℕ) (body : List ℕ) (c : Content) (rest : List ℕ) → IsRow connack_row first len body c rest → content_of_packet (connack_packet (connack_of c)) ≡ c
connack_row_again first len body c rest h =
    let f = h.2 in
    let flags = number_of f.0 in
    let g = f.3 in
    let code = one_back u8 f.1 g.0 g.1 g.2 in
    let b = g.3 in
    let p = properties_back connack_table g.1 b.0 b.1 b.2 in
    let j = b.3 in
    let present = bit_of_mod (flags / 1) in
    let passed : passes connack_codes code.0 ≡ true = ap (λ v. passes connack_codes (atom_of v)) (sym code.1) ∙ j.0 refl in
    let back = connack_code_again code.0 code.2 passed in
    let set = set_again connack_table connack_found connack_set connack_set_again p.0 p.2 in
    let found : Content = (plain (number (flags / 1 % 2)) ∷ plain code.0 ∷ properties p.0 ∷ [], []) in
    let kept : h.0.kept ≡ found.0 = ap (λ k. k.kept) j.1.0 ∙ (λ i. plain (number (flags / 1 % 2)) ∷ code.1 i ∷ p.1 i ∷ []) in
    let is : c ≡ found = h.5 ∙ (λ i. (kept i, h.4.0 i)) in
    ap (λ z. content_of_packet (connack_packet (connack_of z))) is
    ∙ (λ i. (plain (number (sym present i)) ∷ plain (back i) ∷ properties (set i) ∷ [], []))
    ∙ sym is

-- ---- Disconnect

-- the properties of a Disconnect
disconnect_set_again : (items : List (ℕ × Atom)) → ComeBack items → disconnect_found (disconnect_set (props disconnect_table items)) ≡ props disconnect_table items
disconnect_set_again items l = λ i. numbers_again _ (l 17) i ∷ texts_again _ (l 31) i ∷ pairs_again _ (l 38) i ∷ texts_again _ (l 28) i ∷ []

-- each reason code comes back
disconnect_codes_again : Each (λ m. disconnect_code (disconnect_reason m) ≡ m) (numbers_of disconnect_codes)
disconnect_codes_again = search rules

-- a reason code comes back
disconnect_code_again : (a : Atom) → kept_by u8 a ≡ a → passes disconnect_codes a ≡ true → number (disconnect_code (disconnect_reason (number_of a))) ≡ a
disconnect_code_again a same passed = ap (λ n. number n) (among_each (λ m. disconnect_code (disconnect_reason m) ≡ m) (numbers_of disconnect_codes) disconnect_codes_again (number_of a) passed) ∙ same

-- What the row of a Disconnect gives comes back.
pub disconnect_row_again : (first len : ℕ) (body : List ℕ) (c : Content) (rest : List ℕ) → IsRow disconnect_row first len body c rest → content_of_packet (disconnect_packet (disconnect_of c)) ≡ c
disconnect_row_again first len body c rest h =
    let f = h.2.1.1 in
    let code = maybe_tested (nat_lt 0 len) u8 disconnect_codes InvalidConnectReturnCode (number 0) body f.0 f.1 refl refl f.2 in
    let g = f.3 in
    let p = maybe_properties (nat_lt 1 len) disconnect_table f.1 g.0 g.1 g.2 in
    let back = disconnect_code_again code.0 code.2 code.3 in
    let set = set_again disconnect_table disconnect_found disconnect_set disconnect_set_again p.0 p.2 in
    let found : Content = (plain code.0 ∷ properties p.0 ∷ [], []) in
    let kept : h.0.kept ≡ found.0 = ap (λ k. k.kept) g.3.0 ∙ (λ i. code.1 i ∷ p.1 i ∷ []) in
    let is : c ≡ found = h.5 ∙ (λ i. (kept i, h.4.0 i)) in
    ap (λ z. content_of_packet (disconnect_packet (disconnect_of z))) is ∙ (λ i. (plain (back i) ∷ properties (set i) ∷ [], [])) ∙ sym is

-- ---- Auth

-- the properties of an Auth
auth_set_again : (items : List (ℕ × Atom)) → ComeBack items → auth_found (auth_set (props auth_table items)) ≡ props auth_table items
auth_set_again items l = λ i. texts_again _ (l 21) i ∷ contents_again _ (l 22) i ∷ texts_again _ (l 31) i ∷ pairs_again _ (l 38) i ∷ []

-- each reason code comes back
auth_codes_again : Each (λ m. auth_code (auth_reason m) ≡ m) (numbers_of auth_codes)
auth_codes_again = search rules

-- a reason code comes back
auth_code_again : (a : Atom) → kept_by u8 a ≡ a → passes auth_codes a ≡ true → number (auth_code (auth_reason (number_of a))) ≡ a
auth_code_again a same passed = ap (λ n. number n) (among_each (λ m. auth_code (auth_reason m) ≡ m) (numbers_of auth_codes) auth_codes_again (number_of a) passed) ∙ same

-- What the row of an Auth gives comes back.
pub auth_row_again : (first len : ℕ) (body : List ℕ) (c : Content) (rest : List ℕ) → IsRow auth_row first len body c rest → content_of_packet (auth_packet (auth_of c)) ≡ c
auth_row_again first len body c rest h =
    let f = h.2 in
    let code = maybe_tested (nat_lt 0 len) u8 auth_codes (λ _. MalformedPacket) (number 0) body f.0 f.1 refl refl f.2 in
    let g = f.3 in
    let p = maybe_properties (nat_lt 0 len) auth_table f.1 g.0 g.1 g.2 in
    let back = auth_code_again code.0 code.2 code.3 in
    let set = set_again auth_table auth_found auth_set auth_set_again p.0 p.2 in
    let found : Content = (plain code.0 ∷ properties p.0 ∷ [], []) in
    let kept : h.0.kept ≡ found.0 = ap (λ k. k.kept) g.3.0 ∙ (λ i. code.1 i ∷ p.1 i ∷ []) in
    let is : c ≡ found = h.5 ∙ (λ i. (kept i, h.4.0 i)) in
    ap (λ z. content_of_packet (auth_packet (auth_of z))) is ∙ (λ i. (plain (back i) ∷ properties (set i) ∷ [], [])) ∙ sym is
