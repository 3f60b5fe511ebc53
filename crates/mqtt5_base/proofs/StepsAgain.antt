-- What is written by steps is read again by them.
use Rattle.std.proofs.Common.{◌≡◌, ℕ, ◌<◌, Bool, true, false, cond, List, [], ◌∷◌, ◌++◌, length, Result, Ok, Err, refl, sym, ap, ◌∙◌, append_assoc, arith}
use Rattle.std.proofs.lemmas.Bool.{false≢true}
use Rattle.std.proofs.lemmas.List.{append-nil}
use Rattle.mqtt5_base.specs.declared.error.Error.{Error}
use Rattle.mqtt5_base.specs.Grammar.{Atom, number_of, content, Value, plain, properties, atom_of, Test, passes, Field, one, checked, block, remainder, Condition, always, longer, set, Step, field, raw, note, judge, more, Known, cut_in, holds, with_value, with_raw}
use Rattle.mqtt5_base.specs.Reading.{◌>>=◌, field_at, optional_at, optional_judged, some_left, read_steps}
use Rattle.mqtt5_base.specs.Layout.{WrittenGroup, found_of, field_bytes, is_written, steps_bytes, atom_bytes, atom_fits, field_fits, steps_fit, is_listed, unless_wrong}
use Rattle.mqtt5_base.specs.Sets.{AtomIs, IsBlockOf, apart}
use Rattle.mqtt5_base.proofs.BlockLaws.{some_bytes}
use Rattle.mqtt5_base.proofs.KindsAgain.{both_hold, atom_again}
use Rattle.mqtt5_base.proofs.BlocksAgain.{tidy_found, block_again}

-- ---- one field

-- as what a value is read again
abbrev pub read_of : Field → Value → Value
read_of (one k) v = v
read_of (checked k t w) v = v
read_of (block table) v = properties (tidy_found (found_of v))
read_of remainder v = v

-- what types say of a field's value, before those bytes
abbrev pub FieldIs : Field → Value → List ℕ → Type 0
FieldIs (one k) (plain a) after = AtomIs k a
FieldIs (checked k t w) (plain a) after = AtomIs k a
FieldIs (block table) (properties p) after = (apart [] table ≡ true) × IsBlockOf table p
FieldIs remainder (plain (content c)) after = after ≡ []
FieldIs f v after = ⊥

-- a value passes its field's test
abbrev pub passing : Field → Value → Bool
passing (one k) v = true
passing (checked k t w) v = passes t (atom_of v)
passing (block table) v = true
passing remainder v = true

-- a value and the bytes after it
abbrev read_as : Value → List ℕ → Result (Value × List ℕ) Error
read_as v bs = Ok (v, bs)

-- A field is read again.
field_again : (f : Field) (v : Value) (after : List ℕ) → FieldIs f v after → field_fits f v ≡ true → passing f v ≡ true → field_at f (field_bytes f v ++ after) ≡ read_as (read_of f v) after
field_again (one k) (plain a) after is fit pass = rw (atom_again k a after is fit) refl
field_again (checked k t w) (plain a) after is fit pass = rw (pass, atom_again k a after is fit, pass) refl
field_again (block table) (properties p) after is fit pass = rw (block_again table p after is.0 is.1 fit) refl
field_again remainder (plain (content c)) after is fit pass = rw is (ap (λ (b : List ℕ). read_as (plain (content b)) []) (append-nil c))
field_again f v after is fit pass = absurd is

-- a field that may be left out is read again, or the value that stands for it
optional_again : (b : Bool) (f : Field) (d v : Value) (after : List ℕ) → (b ≡ true → FieldIs f v after) → field_fits f v ≡ true → (b ≡ true → passing f v ≡ true)
    → optional_at b f d (cond b (field_bytes f v) [] ++ after) ≡ read_as (cond b (read_of f v) d) after
optional_again true f d v after is fit pass = field_again f v after (is refl) fit (pass refl)
optional_again false f d v after is fit pass = refl

-- ---- what was written passed

-- a fault wasn't answered
pub chosen_ok : {A : Type 0} (b : Bool) (r : Result A Error) (e : Error) (y : A) → cond b r (Err e) ≡ Ok y → (b ≡ true) × (r ≡ Ok y)
chosen_ok true r e y h = (refl, h)
chosen_ok false r e y h = absurd cc

-- a judgement, where it was made, was passed
judged_ok : {A : Type 0} (b c : Bool) (r : Result A Error) (e : Error) (y : A) → cond b (cond c r (Err e)) r ≡ Ok y → (b ≡ true → c ≡ true) × (r ≡ Ok y)
judged_ok true true r e y h = (λ _. refl, h)
judged_ok true false r e y h = absurd cc
judged_ok false c r e y h = (λ z. absurd (false≢true z), h)

-- a field's value passed its test where it is there
field_ok : (c : Condition) (f : Field) (d : Value) (steps : List Step) (w : Known) (raws : List Value) (v : Value) (kept : List Value) (gs : List WrittenGroup) (next : Result (List ℕ) Error) (bs : List ℕ)
    → unless_wrong (field c f d ∷ steps) w raws (v ∷ kept) gs next ≡ Ok bs → (is_written false w c ≡ true → passing f v ≡ true) × (unless_wrong steps (with_value w v) raws kept gs next ≡ Ok bs)
field_ok c (one k) d steps w raws v kept gs next bs h = (λ _. refl, h)
field_ok c (checked k t e) d steps w raws v kept gs next bs h = judged_ok (is_written false w c) (passes t (atom_of v)) (unless_wrong steps (with_value w v) raws kept gs next) (e (number_of (atom_of v))) bs h
field_ok c (block table) d steps w raws v kept gs next bs h = (λ _. refl, h)
field_ok c remainder d steps w raws v kept gs next bs h = (λ _. refl, h)

-- What was written is what stands after the judgements.
pub next_written : (steps : List Step) (w : Known) (raws kept : List Value) (gs : List WrittenGroup) (next : Result (List ℕ) Error) (bs : List ℕ) → unless_wrong steps w raws kept gs next ≡ Ok bs → next ≡ Ok bs
next_written [] w raws kept gs next bs h = h
next_written (field c (one k) d ∷ steps) w raws [] gs next bs h = h
next_written (field c (checked k t e) d ∷ steps) w raws [] gs next bs h = h
next_written (field c (block table) d ∷ steps) w raws [] gs next bs h = h
next_written (field c remainder d ∷ steps) w raws [] gs next bs h = h
next_written (field c f d ∷ steps) w raws (v ∷ kept) gs next bs h = next_written steps (with_value w v) raws kept gs next bs (field_ok c f d steps w raws v kept gs next bs h).1
next_written (raw k ∷ steps) w [] kept gs next bs h = h
next_written (raw k ∷ steps) w (v ∷ raws) kept gs next bs h = next_written steps (with_raw w v) raws kept gs next bs h
next_written (note c ∷ steps) w raws [] gs next bs h = h
next_written (note c ∷ steps) w raws (v ∷ kept) gs next bs h = next_written steps (with_value w v) raws kept gs next bs h
next_written (judge c s t e ∷ steps) w raws kept gs next bs h =
    next_written steps w raws kept gs next bs (judged_ok (is_written false w c) (passes t (cut_in w s)) (unless_wrong steps w raws kept gs next) (e (number_of (cut_in w s))) bs h).1
next_written (more e ∷ steps) w raws kept gs next bs h = next_written steps w raws kept gs next bs (chosen_ok (is_listed gs) (unless_wrong steps w raws kept gs next) e bs h).1

-- what a short body has, a long one has
in_long : (short : Bool) (w : Known) (c : Condition) → is_written short w c ≡ true → is_written false w c ≡ true
in_long short w always h = refl
in_long short w (longer n) h = refl
in_long short w (set c) h = h

-- ---- steps

-- what one knows who read the steps again
abbrev pub known_again : Bool → List Step → Known → Known → List Value → List Value → Known
known_again short [] w r raws kept = r
known_again short (field c f d ∷ steps) w r raws [] = r
known_again short (field c f d ∷ steps) w r raws (v ∷ kept) = known_again short steps (with_value w v) (with_value r (cond (is_written short w c) (read_of f v) d)) raws kept
known_again short (raw k ∷ steps) w r [] kept = r
known_again short (raw k ∷ steps) w r (v ∷ raws) kept = known_again short steps (with_raw w v) (with_raw r (plain (atom_of v))) raws kept
known_again short (note c ∷ steps) w r raws [] = r
known_again short (note c ∷ steps) w r raws (v ∷ kept) = known_again short steps (with_value w v) (with_value r v) raws kept
known_again short (judge c s t e ∷ steps) w r raws kept = known_again short steps w r raws kept
known_again short (more e ∷ steps) w r raws kept = known_again short steps w r raws kept

-- The values suit the steps, before those bytes: who writes and who reads find the same fields and the same to judge,
-- types say of each value what its field needs, and a value that is noted is what is found.
abbrev pub Suits : Bool → List WrittenGroup → List Step → Known → Known → List Value → List Value → List ℕ → Type 0
Suits short gs [] w r raws kept rest = Unit {0}
Suits short gs (field c f d ∷ steps) w r raws [] rest = ⊥
Suits short gs (field c f d ∷ steps) w r raws (v ∷ kept) rest =
    (is_written short w c ≡ holds r c)
    × (is_written short w c ≡ true → FieldIs f v (steps_bytes short steps (with_value w v) raws kept ++ rest))
    × Suits short gs steps (with_value w v) (with_value r (cond (is_written short w c) (read_of f v) d)) raws kept rest
Suits short gs (raw k ∷ steps) w r [] kept rest = ⊥
Suits short gs (raw k ∷ steps) w r (v ∷ raws) kept rest = AtomIs k (atom_of v) × Suits short gs steps (with_raw w v) (with_raw r (plain (atom_of v))) raws kept rest
Suits short gs (note c ∷ steps) w r raws [] rest = ⊥
Suits short gs (note c ∷ steps) w r raws (v ∷ kept) rest = (v ≡ plain (cut_in r c)) × Suits short gs steps (with_value w v) (with_value r v) raws kept rest
Suits short gs (judge c s t e ∷ steps) w r raws kept rest = (holds r c ≡ true → (is_written false w c ≡ true) × (cut_in w s ≡ cut_in r s)) × Suits short gs steps w r raws kept rest
Suits short gs (more e ∷ steps) w r raws kept rest = (is_listed gs ≡ true → 0 < length (steps_bytes short steps w raws kept ++ rest)) × Suits short gs steps w r raws kept rest

-- what is known, and the bytes after it
abbrev pub after_steps : Known → List ℕ → Result (Known × List ℕ) Error
after_steps k bs = Ok (k, bs)

-- a judgement that was passed in writing is passed in reading
judge_again : (b : Bool) (t : Test) (e : ℕ → Error) (a : Atom) → (b ≡ true → passes t a ≡ true) → optional_judged b t e a ≡ Ok a
judge_again true t e a pass = rw (pass refl) refl
judge_again false t e a pass = refl

-- bytes that are left are
left_again : (e : Error) (bs : List ℕ) → 0 < length bs → some_left e bs ≡ Ok bs
left_again e [] lt = absurd (omega arith)
left_again e (b ∷ bs) lt = rw (some_bytes b bs) refl

-- Steps whose values fit, pass and suit them are read again.
pub steps_again : (short : Bool) (gs : List WrittenGroup) (steps : List Step) (w r : Known) (raws kept : List Value) (rest : List ℕ) (next : Result (List ℕ) Error) (bs : List ℕ)
    → steps_fit steps raws kept ≡ true → unless_wrong steps w raws kept gs next ≡ Ok bs → Suits short gs steps w r raws kept rest
    → read_steps steps r (steps_bytes short steps w raws kept ++ rest) ≡ after_steps (known_again short steps w r raws kept) rest
steps_again short gs [] w r raws kept rest next bs fit pass suits = refl
steps_again short gs (field c f d ∷ steps) w r raws [] rest next bs fit pass suits = absurd suits
steps_again short gs (field c f d ∷ steps) w r raws (v ∷ kept) rest next bs fit pass suits =
    let tail = steps_bytes short steps (with_value w v) raws kept in
    let after = tail ++ rest in
    let b = is_written short w c in
    let x = cond b (read_of f v) d in
    let fits = both_hold (field_fits f v) (steps_fit steps raws kept) fit in
    let ok = field_ok c f d steps w raws v kept gs next bs pass in
    let here : optional_at (holds r c) f d (cond b (field_bytes f v) [] ++ after) ≡ read_as x after =
    ap (λ (h : Bool). optional_at h f d (cond b (field_bytes f v) [] ++ after)) (sym suits.0) ∙ optional_again b f d v after suits.1 fits.0 (λ z. ok.0 (in_long short w c z)) in
    ap (read_steps (field c f d ∷ steps) r) (append_assoc (cond b (field_bytes f v) []) tail rest)
    ∙ ap (λ (y : Result (Value × List ℕ) Error). y >>= λ z. read_steps steps (with_value r z.0) z.1) here
    ∙ steps_again short gs steps (with_value w v) (with_value r x) raws kept rest next bs fits.1 ok.1 suits.2
steps_again short gs (raw k ∷ steps) w r [] kept rest next bs fit pass suits = absurd suits
steps_again short gs (raw k ∷ steps) w r (v ∷ raws) kept rest next bs fit pass suits =
    let tail = steps_bytes short steps (with_raw w v) raws kept in
    let fits = both_hold (atom_fits k (atom_of v)) (steps_fit steps raws kept) fit in
    ap (read_steps (raw k ∷ steps) r) (append_assoc (atom_bytes k (atom_of v)) tail rest)
    ∙ ap (λ (y : Result (Atom × List ℕ) Error). y >>= λ a. read_steps steps (with_raw r (plain a.0)) a.1) (atom_again k (atom_of v) (tail ++ rest) suits.0 fits.0)
    ∙ steps_again short gs steps (with_raw w v) (with_raw r (plain (atom_of v))) raws kept rest next bs fits.1 pass suits.1
steps_again short gs (note c ∷ steps) w r raws [] rest next bs fit pass suits = absurd suits
steps_again short gs (note c ∷ steps) w r raws (v ∷ kept) rest next bs fit pass suits =
    let body = steps_bytes short steps (with_value w v) raws kept ++ rest in
    ap (λ (x : Value). read_steps steps (with_value r x) body) (sym suits.0) ∙ steps_again short gs steps (with_value w v) (with_value r v) raws kept rest next bs fit pass suits.1
steps_again short gs (judge c s t e ∷ steps) w r raws kept rest next bs fit pass suits =
    let ok = judged_ok (is_written false w c) (passes t (cut_in w s)) (unless_wrong steps w raws kept gs next) (e (number_of (cut_in w s))) bs pass in
    let here : optional_judged (holds r c) t e (cut_in r s) ≡ Ok (cut_in r s) = judge_again (holds r c) t e (cut_in r s) (λ z. let same = suits.0 z in ap (passes t) (sym same.1) ∙ ok.0 same.0) in
    ap (λ (y : Result Atom Error). y >>= λ a. read_steps steps r (steps_bytes short steps w raws kept ++ rest)) here ∙ steps_again short gs steps w r raws kept rest next bs fit ok.1 suits.1
steps_again short gs (more e ∷ steps) w r raws kept rest next bs fit pass suits =
    let body = steps_bytes short steps w raws kept ++ rest in
    let ok = chosen_ok (is_listed gs) (unless_wrong steps w raws kept gs next) e bs pass in
    ap (λ (y : Result (List ℕ) Error). y >>= λ b. read_steps steps r body) (left_again e body (suits.0 ok.0)) ∙ steps_again short gs steps w r raws kept rest next bs fit ok.1 suits.1
