-- The items of one property are read again.
use Rattle.std.proofs.Common.{◌≡◌, ℕ, zero, suc, ◌≤◌, Bool, true, false, ◌||◌, eqb, List, [], ◌∷◌, ◌++◌, length, Ok, refl, sym, ap, ◌∙◌, append_assoc, arith, rules, length-append}
use Rattle.std.proofs.lemmas.List.{append-nil}
use Rattle.mqtt5_base.specs.Grammar.{Kind, Atom, Entry, Found, allows}
use Rattle.mqtt5_base.specs.Reading.{added, with_item, property_at, item_at, items_within}
use Rattle.mqtt5_base.specs.Sets.{Adds}
use Rattle.mqtt5_base.specs.Layout.{atom_bytes, tagged}
use Rattle.mqtt5_base.proofs.Shorter.{byte_again}
use Rattle.mqtt5_base.proofs.BlockLaws.{some_bytes}

-- a number is itself
itself : (n : ℕ) → eqb n n ≡ true
itself n = search rules

-- neither of two tests holds
neither : (a b : Bool) → (a || b) ≡ false → (a ≡ false) × (b ≡ false)
neither true b e = absurd cc
neither false b e = (refl, e)

-- an item of another table changes nothing
not_there : (u : List Entry) (id : ℕ) (a : Atom) (g : Found) → allows u id ≡ false → with_item u id a g ≡ g
not_there [] id a g n = refl
not_there (e ∷ u) id a [] n = refl
not_there (e ∷ u) id a (old ∷ g) n = let h = neither (eqb id e.id) (allows u id) n in rw h.0 (ap (λ (r : Found). old ∷ r) (not_there u id a g h.1))

-- an item changes the values at its place
at_place : (t u : List Entry) (e : Entry) (f g : Found) (old : List Atom) (a : Atom) → length t ≡ length f → allows t e.id ≡ false → allows u e.id ≡ false → with_item (t ++ e ∷ u) e.id a (f ++ old ∷ g) ≡ f ++ added e.many a old ∷ g
at_place [] u e [] g old a l n once = rw (itself e.id) (ap (λ (r : Found). added e.many a old ∷ r) (not_there u e.id a g once))
at_place [] u e (x ∷ f) g old a l n once = absurd (omega arith)
at_place (s ∷ t) u e [] g old a l n once = absurd (omega arith)
at_place (s ∷ t) u e (x ∷ f) g old a l n once =
    let h = neither (eqb e.id s.id) (allows t e.id) n in
    let k : length t ≡ length f = omega arith in
    rw h.0 (ap (λ (r : Found). x ∷ r) (at_place t u e f g old a k h.1 once))

-- a table allows each of its identifiers
pub is_allowed : (t u : List Entry) (e : Entry) → allows (t ++ e ∷ u) e.id ≡ true
is_allowed [] u e = rw (itself e.id) refl
is_allowed (s ∷ t) u e = or_true (eqb e.id s.id) (allows (t ++ e ∷ u) e.id) (is_allowed t u e)
  where
    or_true : (a b : Bool) → b ≡ true → (a || b) ≡ true
    or_true true b h = refl
    or_true false b h = h

-- its bytes are read as the value, whatever follows
pub record IsAgain (id : ℕ) (k : Kind) (a : Atom) : Type 0 where
  pub again : (rest : List ℕ) → property_at id (atom_bytes k a ++ rest) ≡ Ok (a, rest)

-- the same of each value
abbrev pub AreAgain : ℕ → Kind → List Atom → Type 0
AreAgain id k [] = Unit {0}
AreAgain id k (a ∷ here) = IsAgain id k a × AreAgain id k here

-- An item is read again.
item_again : (t u : List Entry) (e : Entry) (k : Kind) (f g : Found) (old : List Atom) (a : Atom) (rest : List ℕ) → length t ≡ length f → allows t e.id ≡ false → allows u e.id ≡ false → IsAgain e.id k a
    → item_at (t ++ e ∷ u) (f ++ old ∷ g) (e.id ∷ (atom_bytes k a ++ rest)) ≡ Ok (f ++ added e.many a old ∷ g, rest)
unfolding item_at
item_again t u e k f g old a rest l n once h = rw (byte_again e.id (atom_bytes k a ++ rest), is_allowed t u e, h.again rest, at_place t u e f g old a l n once) refl

-- a value that may be added stands at the end, and the others may be added to it
adds_one : (many : Bool) (old : List Atom) (a : Atom) (here : List Atom) → Adds many old (a ∷ here) → (added many a old ≡ old ++ a ∷ []) × Adds many (old ++ a ∷ []) here
adds_one true old a here h = (refl, tt)
adds_one false [] a [] h = (refl, tt)
adds_one false [] a (b ∷ here) h = absurd h
adds_one false (o ∷ old) a here h = absurd h

-- The items of one property are read again, and those after them with what they added.
pub tagged_again : (here : List Atom) (n : ℕ) (t u : List Entry) (e : Entry) (k : Kind) (f g : Found) (old : List Atom) (rest : List ℕ) → length t ≡ length f → allows t e.id ≡ false → allows u e.id ≡ false → AreAgain e.id k here → Adds e.many old here
    → length (tagged e.id k here ++ rest) ≤ n
    → (m : ℕ) × (length rest ≤ m) × (items_within n (t ++ e ∷ u) (f ++ old ∷ g) (tagged e.id k here ++ rest) ≡ items_within m (t ++ e ∷ u) (f ++ (old ++ here) ∷ g) rest)
unfolding items_within
tagged_again [] n t u e k f g old rest l absent once all adds le = (n, le, ap (λ (o : List Atom). items_within n (t ++ e ∷ u) (f ++ o ∷ g) rest) (sym (append-nil old)))
tagged_again (a ∷ here) zero t u e k f g old rest l absent once all adds le = absurd (omega arith)
tagged_again (a ∷ here) (suc n) t u e k f g old rest l absent once all adds le =
    let one = adds_one e.many old a here adds in
    let after = tagged e.id k here ++ rest in
    let regrouped : tagged e.id k (a ∷ here) ++ rest ≡ e.id ∷ (atom_bytes k a ++ after) = ap (λ (r : List ℕ). e.id ∷ r) (append_assoc (atom_bytes k a) (tagged e.id k here) rest) in
    let shorter : length after ≤ n = omega (arith, ap length regrouped, length-append (atom_bytes k a) after, le) in
    let next = tagged_again here n t u e k f g (old ++ a ∷ []) rest l absent once all.1 one.1 shorter in
    let step : items_within (suc n) (t ++ e ∷ u) (f ++ old ∷ g) (e.id ∷ (atom_bytes k a ++ after)) ≡ items_within n (t ++ e ∷ u) (f ++ added e.many a old ∷ g) after = rw (some_bytes e.id (atom_bytes k a ++ after), item_again t u e k f g old a after l absent once all.0) refl in
    (next.0, next.1, ap (items_within (suc n) (t ++ e ∷ u) (f ++ old ∷ g)) regrouped ∙ step ∙ ap (λ (o : List Atom). items_within n (t ++ e ∷ u) (f ++ o ∷ g) after) one.0 ∙ next.2 ∙ ap (λ (o : List Atom). items_within next.0 (t ++ e ∷ u) (f ++ o ∷ g) rest) (append_assoc old (a ∷ []) here))
