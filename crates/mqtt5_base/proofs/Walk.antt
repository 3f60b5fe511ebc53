-- The first level of a text, and what the walk over two texts knows of it.
use Rattle.std.proofs.Common.{◌≡◌, ℕ, ◌+◌, ◌-◌, ◌<◌, ◌≤◌, Bool, true, false, cond, not, ◌&&◌, ◌||◌, ◌==◌, List, [], ◌∷◌, length, get_or, take, drop, bytes_eq, add-zero, ◌⊎◌, inl, inr, refl, sym, ap, subst, ◌∙◌, arith}
use Rattle.std.proofs.Math.Numerals.{one-add}
use Rattle.std.specs.List.{before_first, position_or_len, onto_first}
use Rattle.std.proofs.lemmas.Bool.{eqb-true, eq-eqb}
use Rattle.std.proofs.lemmas.List.{drop_all, take_rest}
use Rattle.std.proofs.lemmas.Slice.Eq.{bytes_eq-Decides}
use Rattle.mqtt5_base.specs.Topics.{levels, plus, hash, covers, match_levels}
use Rattle.mqtt5_base.specs.Walk.{common_len, level_len, match_behind}

-- so many bytes are equal and in the first level, and those that follow go on with it
abbrev pub common_so_far : List ℕ → List ℕ → ℕ → Type 0
common_so_far t f n = (n ≤ length t) × (n ≤ length f) × (n + common_len (drop n t) (drop n f) ≡ common_len t f)

-- so many bytes are of the first level, and those that follow go on with it
abbrev pub level_so_far : List ℕ → ℕ → Type 0
level_so_far t n = (n ≤ length t) × (n + level_len (drop n t) ≡ level_len t)

-- no bytes are in common where the filter is at its end
common-nothing : (t : List ℕ) → common_len t [] ≡ 0
common-nothing [] = refl
common-nothing (b ∷ bs) = refl

-- and so no more than those that were found
pub common-ended : (t f : List ℕ) (n : ℕ) → length f ≤ n → n + common_len (drop n t) (drop n f) ≡ common_len t f → n ≡ common_len t f
common-ended t f n over h =
    let none : common_len (drop n t) (drop n f) ≡ 0 = ap (common_len (drop n t)) (drop_all n f over) ∙ common-nothing (drop n t) in
    sym (add-zero n) ∙ ap (λ k. n + k) (sym none) ∙ h

-- the first level
abbrev pub first : List ℕ → List ℕ
first [] = []
first (b ∷ bs) = cond (b == 47) [] (b ∷ first bs)

-- those behind it
abbrev pub others : List ℕ → List (List ℕ)
others [] = []
others (b ∷ bs) = cond (b == 47) (levels bs) (others bs)

pub levels_are : (t : List ℕ) → levels t ≡ first t ∷ others t
levels_are [] = refl
levels_are (b ∷ bs) = by_test (b == 47) (levels_are bs)
  where
    by_test : (s : Bool) → levels bs ≡ first bs ∷ others bs → cond s ([] ∷ levels bs) (onto_first b (levels bs)) ≡ cond s [] (b ∷ first bs) ∷ cond s (levels bs) (others bs)
    by_test true h = refl
    by_test false h = ap (onto_first b) h

first_is : (t : List ℕ) → before_first (λ b. b == 47) t ≡ first t
first_is [] = refl
first_is (b ∷ bs) = by_test (b == 47) (first_is bs)
  where
    by_test : (s : Bool) → before_first (λ b. b == 47) bs ≡ first bs → take (cond (not s) (1 + position_or_len (λ b. b == 47) bs) 0) (b ∷ bs) ≡ cond s [] (b ∷ first bs)
    by_test true h = refl
    by_test false h = ap (λ k. take k (b ∷ bs)) (one-add (position_or_len (λ b. b == 47) bs)) ∙ ap (λ l. b ∷ l) h

-- whether a filter whose next level is known matches behind the topic's last
pub topic_ended : (t f : List ℕ) (matches : Bool) → length t < 1 → 1 ≤ length f → get_or f 0 0 ≡ 47
    → matches ≡ bytes_eq (before_first (λ b. b == 47) (take (length f - 1) (drop 1 f))) hash → matches ≡ match_behind t f
topic_ended (b ∷ t) f matches ended some slash h = absurd (omega arith)
topic_ended [] [] matches ended some slash h = absurd (omega arith)
topic_ended [] (c ∷ f) matches ended some slash h =
    h ∙ ap (λ l. bytes_eq l hash) (ap (before_first (λ b. b == 47)) (take_rest (c ∷ f) 1) ∙ first_is f) ∙ sym (ap (match_levels []) (levels_are f))
    ∙ ap (λ k. k && match_levels [] (levels f)) (sym (eq-eqb c 47 slash))

-- whether a literal level is the same in both, and what is behind it matches
abbrev literal : List ℕ → List ℕ → Bool
literal t f = bytes_eq (first f) (first t) && match_levels (others t) (others f)

-- a literal level and what is behind it
after_common : (t f : List ℕ) → literal t f ≡ match_behind (drop (common_len t f) t) (drop (common_len t f) f)
after_common [] [] = refl
after_common [] (y ∷ f) = by_test (y == 47)
  where
    by_test : (u : Bool) → (bytes_eq (cond u [] (y ∷ first f)) [] && match_levels [] (cond u (levels f) (others f))) ≡ (u && match_levels [] (levels f))
    by_test true = refl
    by_test false = refl
after_common (x ∷ t) [] = by_test (x == 47)
  where
    by_test : (s : Bool) → (bytes_eq [] (cond s [] (x ∷ first t)) && match_levels (cond s (levels t) (others t)) []) ≡ false
    by_test true = ap (λ ls. match_levels ls []) (levels_are t)
    by_test false = refl
after_common (x ∷ t) (y ∷ f) = by_tests (x == y) (x == 47) (y == 47) refl refl refl (after_common t f) ∙ sym (left (x == y && not (x == 47)) (common_len t f))
  where
    left : (k : Bool) (n : ℕ) → match_behind (drop (cond k (1 + n) 0) (x ∷ t)) (drop (cond k (1 + n) 0) (y ∷ f))
        ≡ cond k (match_behind (drop n t) (drop n f)) (x == 47 && (y == 47 && match_levels (levels t) (levels f)))
    left true n = λ i. match_behind (drop (one-add n i) (x ∷ t)) (drop (one-add n i) (y ∷ f))
    left false n = refl

    -- of two tests where the second fails
    never : (e : Bool) → (e && false) ≡ false
    never true = refl
    never false = refl

    by_tests : (e s u : Bool) → (x == y) ≡ e → (x == 47) ≡ s → (y == 47) ≡ u → literal t f ≡ match_behind (drop (common_len t f) t) (drop (common_len t f) f)
        → (bytes_eq (cond u [] (y ∷ first f)) (cond s [] (x ∷ first t)) && match_levels (cond s (levels t) (others t)) (cond u (levels f) (others f)))
        ≡ cond (e && not s) (match_behind (drop (common_len t f) t) (drop (common_len t f) f)) (s && (u && match_levels (levels t) (levels f)))
    by_tests e true true same slash slash' h = ap (λ k. cond k (match_behind (drop (common_len t f) t) (drop (common_len t f) f)) (match_levels (levels t) (levels f))) (sym (never e))
    by_tests e true false same slash slash' h = ap (λ k. cond k (match_behind (drop (common_len t f) t) (drop (common_len t f) f)) false) (sym (never e))
    by_tests false false true same slash slash' h = refl
    by_tests true false true same slash slash' h =
        let is : y ≡ 47 = eqb-true y 47 slash' in
        let equal : x ≡ y = eqb-true x y same in
        let isnt : (x == 47) ≡ true = eq-eqb x 47 (equal ∙ is) in
        absurd cc
    by_tests true false false same slash slash' h =
        ap (λ k. k && bytes_eq (first f) (first t) && match_levels (others t) (others f)) (eq-eqb y x (sym (eqb-true x y same))) ∙ h
    by_tests false false false same slash slash' h =
        ap (λ k. k && bytes_eq (first f) (first t) && match_levels (others t) (others f)) (other (y == x) refl)
      where
        other : (k : Bool) → (y == x) ≡ k → k ≡ false
        other true is = let equal : (x == y) ≡ true = eq-eqb x y (sym (eqb-true y x is)) in absurd cc
        other false is = refl

-- ---- a level that a `+` covers

-- behind the first level there is none of it left
behind_first : (t : List ℕ) → first (drop (position_or_len (λ b. b == 47) t) t) ≡ []
behind_first [] = refl
behind_first (b ∷ bs) = by_test (b == 47) refl (behind_first bs)
  where
    by_test : (s : Bool) → (b == 47) ≡ s → first (drop (position_or_len (λ b. b == 47) bs) bs) ≡ [] → first (drop (cond (not s) (1 + position_or_len (λ b. b == 47) bs) 0) (b ∷ bs)) ≡ []
    by_test true is h = ap (λ s. cond s [] (b ∷ first bs)) is
    by_test false is h = ap (λ k. first (drop k (b ∷ bs))) (one-add (position_or_len (λ b. b == 47) bs)) ∙ h

-- and all others are
behind_others : (t : List ℕ) → others (drop (position_or_len (λ b. b == 47) t) t) ≡ others t
behind_others [] = refl
behind_others (b ∷ bs) = by_test (b == 47) refl (behind_others bs)
  where
    by_test : (s : Bool) → (b == 47) ≡ s → others (drop (position_or_len (λ b. b == 47) bs) bs) ≡ others bs
        → others (drop (cond (not s) (1 + position_or_len (λ b. b == 47) bs) 0) (b ∷ bs)) ≡ cond s (levels bs) (others bs)
    by_test true is h = ap (λ s. cond s (levels bs) (others bs)) is
    by_test false is h = ap (λ k. others (drop k (b ∷ bs))) (one-add (position_or_len (λ b. b == 47) bs)) ∙ h

-- a first level of one byte
behind_one : (c : ℕ) (f : List ℕ) → first f ≡ c ∷ [] → (first (drop 1 f) ≡ []) × (others (drop 1 f) ≡ others f)
behind_one c [] h = absurd cc
behind_one c (b ∷ bs) h = by_test (b == 47) h
  where
    by_test : (s : Bool) → cond s [] (b ∷ first bs) ≡ c ∷ [] → (first bs ≡ []) × (others bs ≡ cond s (levels bs) (others bs))
    by_test true h = absurd cc
    by_test false h = (cc, refl)

-- where the first levels are empty, the others decide
at_ends : (t f : List ℕ) → first t ≡ [] → first f ≡ [] → match_levels (others t) (others f) ≡ match_behind t f
at_ends [] [] h k = refl
at_ends [] (c ∷ f) h k = by_test (c == 47) k
  where
    by_test : (u : Bool) → cond u [] (c ∷ first f) ≡ [] → match_levels [] (cond u (levels f) (others f)) ≡ (u && match_levels [] (levels f))
    by_test true k = refl
    by_test false k = absurd cc
at_ends (b ∷ t) [] h k = by_test (b == 47) h
  where
    by_test : (s : Bool) → cond s [] (b ∷ first t) ≡ [] → match_levels (cond s (levels t) (others t)) [] ≡ false
    by_test true h = ap (λ ls. match_levels ls []) (levels_are t)
    by_test false h = absurd cc
at_ends (b ∷ t) (c ∷ f) h k = by_tests (b == 47) (c == 47) h k
  where
    by_tests : (s u : Bool) → cond s [] (b ∷ first t) ≡ [] → cond u [] (c ∷ first f) ≡ [] → match_levels (cond s (levels t) (others t)) (cond u (levels f) (others f)) ≡ (s && (u && match_levels (levels t) (levels f)))
    by_tests true true h k = refl
    by_tests true false h k = absurd cc
    by_tests false u h k = absurd cc

-- ---- what the first level of the filter is

-- the whole, by the first levels and the others
parts : (t f : List ℕ) → match_levels (levels t) (levels f) ≡ (bytes_eq (first f) hash || (covers (first f) (first t) && match_levels (others t) (others f)))
parts t f = λ i. match_levels (levels_are t i) (levels_are f i)

-- a `#`
pub by_hash : (t f : List ℕ) → bytes_eq (before_first (λ b. b == 47) f) hash ≡ true → true ≡ match_levels (levels t) (levels f)
by_hash t f is =
    let here : bytes_eq (first f) hash ≡ true = ap (λ l. bytes_eq l hash) (sym (first_is f)) ∙ is in
    ap (λ k. k || (covers (first f) (first t) && match_levels (others t) (others f))) (sym here) ∙ sym (parts t f)

-- a `+`, where the topic's level isn't `#`
pub by_plus : (t f : List ℕ) → bytes_eq (before_first (λ b. b == 47) f) hash ≡ false → bytes_eq (before_first (λ b. b == 47) f) plus ≡ true
    → bytes_eq (before_first (λ b. b == 47) t) hash ≡ false → match_behind (drop (position_or_len (λ b. b == 47) t) t) (drop 1 f) ≡ match_levels (levels t) (levels f)
by_plus t f isnt is other =
    let no_hash : bytes_eq (first f) hash ≡ false = ap (λ l. bytes_eq l hash) (sym (first_is f)) ∙ isnt in
    let plain : bytes_eq (first f) plus ≡ true = ap (λ l. bytes_eq l plus) (sym (first_is f)) ∙ is in
    let no_hash' : bytes_eq (first t) hash ≡ false = ap (λ l. bytes_eq l hash) (sym (first_is t)) ∙ other in
    let covered : covers (first f) (first t) ≡ true = ap (λ k. cond k (not (bytes_eq (first t) hash)) (bytes_eq (first f) (first t))) plain ∙ ap not no_hash' in
    let one = behind_one 43 f ((bytes_eq-Decides (first f) plus).0 plain) in
    sym (at_ends (drop (position_or_len (λ b. b == 47) t) t) (drop 1 f) (behind_first t) one.0)
    ∙ (λ i. match_levels (behind_others t i) (one.1 i))
    ∙ (λ i. sym no_hash i || (sym covered i && match_levels (others t) (others f)))
    ∙ sym (parts t f)

-- a literal level, or one that doesn't match
pub by_literal : (t f : List ℕ) → bytes_eq (before_first (λ b. b == 47) f) hash ≡ false
    → (bytes_eq (before_first (λ b. b == 47) f) plus ≡ false) ⊎ (bytes_eq (before_first (λ b. b == 47) t) hash ≡ true)
    → match_behind (drop (common_len t f) t) (drop (common_len t f) f) ≡ match_levels (levels t) (levels f)
by_literal t f isnt o =
    let no_hash : bytes_eq (first f) hash ≡ false = ap (λ l. bytes_eq l hash) (sym (first_is f)) ∙ isnt in
    sym (after_common t f)
    ∙ (λ i. sym no_hash i || (sym (covered (first f) (first t) no_hash (subst (λ (p : List ℕ × List ℕ). (bytes_eq p.0 plus ≡ false) ⊎ (bytes_eq p.1 hash ≡ true)) (λ i. (first_is f i, first_is t i)) o)) i && match_levels (others t) (others f)))
    ∙ sym (parts t f)
  where
    covered : (l m : List ℕ) → bytes_eq l hash ≡ false → (bytes_eq l plus ≡ false) ⊎ (bytes_eq m hash ≡ true) → covers l m ≡ bytes_eq l m
    covered l m isnt (inl e) = ap (λ k. cond k (not (bytes_eq m hash)) (bytes_eq l m)) e
    covered l m isnt (inr e) = by_test (bytes_eq l plus)
      where
        same : bytes_eq l m ≡ false
        same = ap (bytes_eq l) ((bytes_eq-Decides m hash).0 e) ∙ isnt

        by_test : (k : Bool) → cond k (not (bytes_eq m hash)) (bytes_eq l m) ≡ bytes_eq l m
        by_test true = ap not e ∙ sym same
        by_test false = refl
