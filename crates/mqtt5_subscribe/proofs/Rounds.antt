-- Reading the items of a list one after the other, as a loop does.
use Rattle.std.proofs.Common.{◌≡◌, ℕ, zero, suc, ◌<◌, ◌≤◌, true, false, eqb, List, [], ◌∷◌, ◌++◌, length, map, Result, Ok, Err, refl, sym, ap, ◌∙◌, arith, rules}
use Rattle.mqtt5_base.specs.declared.error.Error.{Error}
use Rattle.mqtt5_base.specs.Grammar.{Value, Field, Step, under}
use Rattle.mqtt5_base.specs.Fields.{Kept, Fields, repeated}
use Rattle.mqtt5_base.specs.Faults.{Faulty}
use Rattle.mqtt5_base.specs.Reading.{kept_at, repeated_within}
use Rattle.mqtt5_base.specs.Layout.{Written, all_kept}
use Rattle.mqtt5_base.specs.Laws.{Reads}
use Rattle.mqtt5_base.proofs.ReadsLemmas.{reads_seen}
use Rattle.mqtt5_base.proofs.StepLaws.{steps_read}
use Rattle.mqtt5_base.proofs.PartLaws.{kept_takes}

positive : (bs : List ℕ) → eqb (length bs) 0 ≡ false → 0 < length bs
positive bs some = search (some, rules, arith)

-- what steps of their own keep
kept_reads : (steps : List Step) (n : ℕ) (bs : List ℕ) → Reads (kept_at steps n bs) (λ x. Kept steps n bs x.0 x.1) (Faulty steps (under n 0) bs)
kept_reads steps n bs = reads_seen (λ k. k.kept) (λ k after. Fields steps (under n 0) bs k after) (steps_read steps (under n 0) bs)

-- each round leaves fewer bytes
pub falls : (f : Field) (steps : List Step) (bs : List ℕ) (vs : List Value) (after : List ℕ) → eqb (length bs) 0 ≡ false → kept_at (repeated f steps) 0 bs ≡ Ok (vs, after) → length after < length bs
falls f steps bs vs after some h = kept_takes f steps bs vs after (positive bs some) (((kept_reads (repeated f steps) 0 bs).value (vs, after)).0 h)

-- after an item the items that are left decide
pub goes_on : (n : ℕ) (f : Field) (steps : List Step) (front : List (List Value)) (vs : List Value) (bs after : List ℕ) (total : Result (List (List Value)) Error) → length bs ≤ n → eqb (length bs) 0 ≡ false → kept_at (repeated f steps) 0 bs ≡ Ok (vs, after)
    → repeated_within n (repeated f steps) front bs ≡ total → (m : ℕ) × (length after ≤ m) × (repeated_within m (repeated f steps) (front ++ vs ∷ []) after ≡ total)
unfolding repeated_within
goes_on zero f steps front vs bs after total le some h so_far = absurd (omega (arith, positive bs some))
goes_on (suc n) f steps front vs bs after total le some h so_far =
    let one : repeated_within (suc n) (repeated f steps) front bs ≡ repeated_within n (repeated f steps) (front ++ vs ∷ []) after = rw (some, h) refl in
    let less = falls f steps bs vs after some h in
    (n, omega (arith, less), sym one ∙ so_far)

-- the fault of an item is that of all
pub fails : (n : ℕ) (f : Field) (steps : List Step) (front : List (List Value)) (bs : List ℕ) (total : Result (List (List Value)) Error) (e : Error) → length bs ≤ n → eqb (length bs) 0 ≡ false → kept_at (repeated f steps) 0 bs ≡ Err e
    → repeated_within n (repeated f steps) front bs ≡ total → total ≡ Err e
unfolding repeated_within
fails zero f steps front bs total e le some h so_far = absurd (omega (arith, positive bs some))
fails (suc n) f steps front bs total e le some h so_far =
    let one : repeated_within (suc n) (repeated f steps) front bs ≡ Err e = rw (some, h) refl in
    sym so_far ∙ one

-- at the end the list is what was found
pub is_done : (n : ℕ) (steps : List Step) (front : List (List Value)) (bs : List ℕ) (total : Result (List (List Value)) Error) → eqb (length bs) 0 ≡ true → repeated_within n steps front bs ≡ total → total ≡ Ok front
unfolding repeated_within
is_done zero steps front bs total none so_far = sym so_far
is_done (suc n) steps front bs total none so_far =
    let one : repeated_within (suc n) steps front bs ≡ Ok front = rw none refl in
    sym so_far ∙ one

-- the values of items, one more at the end
pub all_kept_push : {A : Type 0} (f : A → Written) (xs : List A) (x : A) → all_kept (map f (xs ++ x ∷ [])) ≡ all_kept (map f xs) ++ (f x).kept ∷ []
all_kept_push f [] x = refl
all_kept_push f (y ∷ xs) x = ap (λ vss. (f y).kept ∷ vss) (all_kept_push f xs x)

-- items that are as they are read again, one more at the end
pub settled_push : {A : Type 0} (f : A → A) (xs : List A) (x : A) → map f xs ≡ xs → f x ≡ x → map f (xs ++ x ∷ []) ≡ xs ++ x ∷ []
settled_push {A} f xs x h k = push xs x ∙ (λ i. h i ++ k i ∷ [])
  where
    push : (ys : List A) (y : A) → map f (ys ++ y ∷ []) ≡ map f ys ++ f y ∷ []
    push [] y = refl
    push (z ∷ ys) y = ap (λ zs. f z ∷ zs) (push ys y)
