-- What the row of a Connect gives comes back from the Connect, the will and the login that are made of it.
use Rattle.std.proofs.Common.{◌≡◌, ℕ, ◌/◌, ◌%◌, Bool, true, false, cond, List, [], ◌∷◌, Option, Some, None, option_map, refl, sym, ap, ◌∙◌}
use Rattle.std.proofs.lemmas.Str.{is_utf8-from_IsUtf8, IsUtf8-nil}
use Rattle.mqtt5_base.specs.Codes.{text_back}
use Rattle.mqtt5_base.specs.Grammar.{u16, bytes, text, Atom, number, content, number_of, Found, Value, plain, properties, Group, optional, Content, all_empty, unless_empty, number_in}
use Rattle.mqtt5_base.specs.Fields.{props, Kept, Choice, IsRow}
use Rattle.mqtt5_base.specs.Layout.{group_of, content_of_packet}
use Rattle.mqtt5_base.proofs.SetShapes.{kept_by, ComeBack, numbers_again, contents_again, texts_again, pairs_again, set_again}
use Rattle.mqtt5_base.proofs.FieldShapes.{one_back, properties_back, maybe_one, qos_again}
use Rattle.mqtt5_connect.specs.Rows.{connect_table, will_table, no_will, will_steps, login_steps, connect_row}
use Rattle.mqtt5_connect.specs.Connects.{connect_found, will_found, will_values, login_values, will_group, login_group, connect_packet}
use Rattle.mqtt5_connect.specs.FromValues.{connect_set, will_set, will_from, login_from, connect_of, connect_will, connect_login}
use Rattle.mqtt5_base.proofs.Bits.{bit_of_mod}

-- the properties of a Connect
connect_set_again : (items : List (ℕ × Atom)) → ComeBack items → connect_found (connect_set (props connect_table items)) ≡ props connect_table items
connect_set_again items l = λ i.
    numbers_again _ (l 17) i
    ∷ numbers_again _ (l 33) i
    ∷ numbers_again _ (l 39) i
    ∷ numbers_again _ (l 34) i
    ∷ numbers_again _ (l 25) i
    ∷ numbers_again _ (l 23) i
    ∷ pairs_again _ (l 38) i
    ∷ texts_again _ (l 21) i
    ∷ contents_again _ (l 22) i
    ∷ []

-- the properties of a will
will_set_again : (items : List (ℕ × Atom)) → ComeBack items → will_found (will_set (props will_table items)) ≡ props will_table items
will_set_again items l = λ i.
    numbers_again _ (l 24) i
    ∷ numbers_again _ (l 1) i
    ∷ numbers_again _ (l 2) i
    ∷ texts_again _ (l 3) i
    ∷ texts_again _ (l 8) i
    ∷ contents_again _ (l 9) i
    ∷ pairs_again _ (l 38) i
    ∷ []

-- ---- the will

-- the values of a will
abbrev will_content : Option Found → Atom → Atom → ℕ → ℕ → List Value
will_content p topic message qos retain = properties p ∷ plain topic ∷ plain message ∷ plain (number qos) ∷ plain (number retain) ∷ []

-- the values of a will that was read come back
will_again : (n : ℕ) (body : List ℕ) (vs : List Value) (rest : List ℕ) → Kept will_steps n body vs rest → will_values (will_from vs) ≡ vs
will_again n body vs rest h =
    let f = h.1 in
    let p = properties_back will_table body f.0 f.1 f.2 in
    let g = f.3 in
    let topic = one_back bytes f.1 g.0 g.1 g.2 in
    let m = g.3 in
    let message = one_back bytes g.1 m.0 m.1 m.2 in
    let j = m.3 in
    let qos = qos_again (n / 8 % 4) (j.0 refl) in
    let retain = bit_of_mod (n / 32) in
    let set = set_again will_table will_found will_set will_set_again p.0 p.2 in
    let is : vs ≡ will_content p.0 topic.0 message.0 (n / 8 % 4) (n / 32 % 2) =
    h.2 ∙ ap (λ k. k.kept) j.1.0 ∙ (λ i. p.1 i ∷ topic.1 i ∷ message.1 i ∷ plain (number (n / 8 % 4)) ∷ plain (number (n / 32 % 2)) ∷ []) in
    ap (λ z. will_values (will_from z)) is ∙ (λ i. properties (set i) ∷ plain (topic.2 i) ∷ plain (message.2 i) ∷ plain (number (qos i)) ∷ plain (number (sym retain i)) ∷ []) ∙ sym is

-- a will that may be absent comes back
choice_again : (b : Bool) (n : ℕ) (body : List ℕ) (o : Option (List Value)) (rest : List ℕ) → Choice b no_will will_steps n body o rest → group_of (will_group (option_map will_from o)) ≡ optional o
choice_again true n body o rest h = ap (λ z. group_of (will_group (option_map will_from z))) h.2 ∙ ap (λ vs. optional (Some vs)) (will_again n body h.0 rest h.1) ∙ ap (λ z. optional z) (sym h.2)
choice_again false n body o rest h = ap (λ z. group_of (will_group (option_map will_from z))) h.2 ∙ ap (λ z. optional z) (sym h.2)

-- ---- the login

-- an empty text comes back
empty_again : kept_by text (content []) ≡ content []
empty_again = ap (λ t. content t.bytes) (text_back (record { bytes = []; is_text = is_utf8-from_IsUtf8 [] IsUtf8-nil }))

-- the values of a login that was read come back
login_again : (n : ℕ) (body : List ℕ) (vs : List Value) (rest : List ℕ) → Kept login_steps n body vs rest → login_values (login_from vs) ≡ vs
login_again n body vs rest h =
    let f = h.1 in
    let username = maybe_one _ text (content []) body f.0 f.1 empty_again f.2 in
    let g = f.3 in
    let password = maybe_one _ text (content []) f.1 g.0 g.1 empty_again g.2 in
    let is : vs ≡ (plain username.0 ∷ plain password.0 ∷ []) = h.2 ∙ ap (λ k. k.kept) g.3.0 ∙ (λ i. username.1 i ∷ password.1 i ∷ []) in
    ap (λ z. login_values (login_from z)) is ∙ (λ i. plain (username.2 i) ∷ plain (password.2 i) ∷ []) ∙ sym is

-- a login of two empty texts is none
filled_again : (vs : List Value) → login_values (login_from vs) ≡ vs → group_of (login_group (option_map login_from (unless_empty vs))) ≡ optional (unless_empty vs)
filled_again vs h = by_test (all_empty vs)
  where
    by_test : (b : Bool) → group_of (login_group (option_map login_from (cond b None (Some vs)))) ≡ optional (cond b None (Some vs))
    by_test true = refl
    by_test false = ap (λ z. optional (Some z)) h

-- ---- the row

-- the values of a Connect
abbrev connect_content : ℕ → Atom → Option Found → Atom → Group → Group → Content
connect_content clean keep_alive p id will login = (plain (number clean) ∷ plain keep_alive ∷ properties p ∷ plain id ∷ [], will ∷ login ∷ [])

-- What the row of a Connect gives comes back.
pub connect_row_again : (first len : ℕ) (body : List ℕ) (c : Content) (rest : List ℕ) → IsRow connect_row first len body c rest → content_of_packet (connect_packet (connect_of c) (connect_will c) (connect_login c)) ≡ c
connect_row_again first len body c rest h =
    let name = h.2 in
    let level = name.3 in
    let flags = level.3.1.1 in
    let worth = number_of flags.0 / 2 in
    let f = flags.3 in
    let keep_alive = one_back u16 flags.1 f.0 f.1 f.2 in
    let g = f.3 in
    let p = properties_back connect_table f.1 g.0 g.1 g.2 in
    let t = g.3 in
    let id = one_back text g.1 t.0 t.1 t.2 in
    let set = set_again connect_table connect_found connect_set connect_set_again p.0 p.2 in
    let clean = bit_of_mod worth in
    let n = number_in h.0.values 2 in
    let part = h.4 in
    let w = part.2 in
    let l = part.4 in
    let login = l.2 in
    let will_is = choice_again _ n h.1 w.0 part.1 w.1 in
    let login_is = filled_again login.0 (login_again n part.1 login.0 l.1 login.1) in
    let kept : h.0.kept ≡ (plain (number (worth % 2)) ∷ plain keep_alive.0 ∷ properties p.0 ∷ plain id.0 ∷ []) = ap (λ k. k.kept) t.3.0 ∙ (λ i. plain (number (worth % 2)) ∷ keep_alive.1 i ∷ p.1 i ∷ id.1 i ∷ []) in
    let groups : h.3 ≡ (optional w.0 ∷ optional (unless_empty login.0) ∷ []) = part.5 ∙ (λ i. w.2 i ∷ (l.5 ∙ (λ j. login.2 j ∷ l.4.0 j)) i) in
    let is : c ≡ connect_content (worth % 2) keep_alive.0 p.0 id.0 (optional w.0) (optional (unless_empty login.0)) = h.5 ∙ (λ i. (kept i, groups i)) in
    ap (λ z. content_of_packet (connect_packet (connect_of z) (connect_will z) (connect_login z))) is
    ∙ (λ i. connect_content (sym clean i) (keep_alive.2 i) (set i) (id.2 i) (will_is i) (login_is i))
    ∙ sym is
