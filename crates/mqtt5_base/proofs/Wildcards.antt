-- A byte that a text contains.
use Rattle.std.proofs.Common.{◌≡◌, ℕ, zero, suc, ◌<◌, Bool, true, false, ◌||◌, eqb, List, [], ◌∷◌, length, refl, sym, ap, arith, get_or}
use Rattle.std.proofs.lemmas.Bool.{eqb-true, eq-eqb}
use Rattle.mqtt5_base.specs.Grammar.{is_among}

-- a byte of a text
abbrev IsAt : ℕ → List ℕ → ℕ → Type 0
IsAt c bs k = (k < length bs) × (get_or bs k 0 ≡ c)

-- where it stands
found_at : (c : ℕ) (bs : List ℕ) → is_among bs c ≡ true → (k : ℕ) × IsAt c bs k
found_at c [] h = absurd cc
found_at c (b ∷ bs) h = by_test (eqb c b) refl (found_at c bs) h
  where
    by_test : (t : Bool) → eqb c b ≡ t → (is_among bs c ≡ true → (k : ℕ) × IsAt c bs k) → (t || is_among bs c) ≡ true → (k : ℕ) × IsAt c (b ∷ bs) k
    by_test true same rest h = (0, (omega arith, sym (eqb-true c b same)))
    by_test false same rest h = let f = rest h in (suc f.0, (omega (arith, f.1.0), f.1.1))

-- what stands somewhere is found
at_found : (c : ℕ) (bs : List ℕ) (k : ℕ) → IsAt c bs k → is_among bs c ≡ true
at_found c [] k h = absurd (omega (arith, h.0))
at_found c (b ∷ bs) zero h = ap (λ t. (t || is_among bs c)) (eq-eqb c b (sym h.1))
at_found c (b ∷ bs) (suc k) h = by_test (eqb c b) (at_found c bs k (omega (arith, h.0), h.1))
  where
    by_test : (t : Bool) → is_among bs c ≡ true → (t || is_among bs c) ≡ true
    by_test true h = refl
    by_test false h = h

-- What is true just where the byte stands is whether the text has it.
pub byte_is : (c : ℕ) (bs : List ℕ) (r : Bool) → (r ≡ true → (k : ℕ) × (k < length bs) × (get_or bs k 0 ≡ c)) → ((k : ℕ) → k < length bs → get_or bs k 0 ≡ c → r ≡ true) → r ≡ is_among bs c
byte_is c bs true to from = let f = to refl in sym (at_found c bs f.0 (f.1, f.2))
byte_is c bs false to from = by_test (is_among bs c) refl
  where
    by_test : (t : Bool) → is_among bs c ≡ t → false ≡ t
    by_test false h = refl
    by_test true h = let f = found_at c bs h in from f.0 f.1.0 f.1.1
