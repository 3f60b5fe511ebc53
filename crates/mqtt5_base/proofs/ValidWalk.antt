-- What the walk over a filter knows of its first level.
use Rattle.std.proofs.Common.{◌≡◌, ◌≢◌, ℕ, suc, ◌+◌, ◌<◌, ◌≤◌, Bool, true, false, cond, not, ◌&&◌, ◌||◌, ◌==◌, List, [], ◌∷◌, length, get_or, drop, refl, sym, ap, ◌∙◌, arith}
use Rattle.std.proofs.Math.Numerals.{one-add}
use Rattle.std.proofs.lemmas.Bool.Decides.{nat_tests}
use Rattle.mqtt5_base.specs.Grammar.{is_among}
use Rattle.mqtt5_base.specs.Topics.{levels, has_wildcards, are_valid}
use Rattle.mqtt5_base.specs.Walk.{plain_len, valid_behind}
use Rattle.mqtt5_base.proofs.Walk.{first, others, levels_are}

-- so many bytes are plain, and those that follow go on with it
abbrev pub plain_so_far : List ℕ → ℕ → Type 0
plain_so_far t n = (n ≤ length t) × (n + plain_len (drop n t) ≡ plain_len t)

-- whether a first level has no wildcard, and the others are valid
abbrev is_plain : List ℕ → Bool
is_plain f = not (has_wildcards (first f)) && are_valid (others f)

-- what is left behind the plain bytes decides that
after_plain : (f : List ℕ) → is_plain f ≡ valid_behind (drop (plain_len f) f)
after_plain [] = refl
after_plain (b ∷ bs) = by_slash (b == 47) (after_plain bs) ∙ sym (left (not (b == 47 || has_wildcards (b ∷ []))) (plain_len bs))
  where
    left : (k : Bool) (n : ℕ) → valid_behind (drop (cond k (1 + n) 0) (b ∷ bs)) ≡ cond k (valid_behind (drop n bs)) (b == 47 && are_valid (levels bs))
    left true n = λ i. valid_behind (drop (one-add n i) (b ∷ bs))
    left false n = refl

    by_wildcard : (u v x y : Bool) → (not (x || y) && are_valid (others bs)) ≡ valid_behind (drop (plain_len bs) bs)
        → (not ((u || x) || (v || y)) && are_valid (others bs)) ≡ cond (not ((u || false) || (v || false))) (valid_behind (drop (plain_len bs) bs)) false
    by_wildcard true v x y h = refl
    by_wildcard false true true y h = refl
    by_wildcard false true false y h = refl
    by_wildcard false false x y h = h

    by_slash : (s : Bool) → is_plain bs ≡ valid_behind (drop (plain_len bs) bs)
        → (not (has_wildcards (cond s [] (b ∷ first bs))) && are_valid (cond s (levels bs) (others bs)))
        ≡ cond (not (s || has_wildcards (b ∷ []))) (valid_behind (drop (plain_len bs) bs)) (s && are_valid (levels bs))
    by_slash true h = refl
    by_slash false h = by_wildcard (43 == b) (35 == b) (is_among (first bs) 43) (is_among (first bs) 35) h

-- ---- where the first level isn't a wildcard that may stand there

-- whether it is
abbrev is_wildcard : List ℕ → Bool
is_wildcard [] = false
is_wildcard (b ∷ []) = has_wildcards (b ∷ [])
is_wildcard (b ∷ c ∷ f) = 43 == b && c == 47

-- levels behind an empty one
after_empty : (ls : List (List ℕ)) → are_valid ([] ∷ ls) ≡ are_valid ls
after_empty [] = refl
after_empty (l ∷ ls) = refl

-- a level whose wildcard can't be all of it
of_length : (l : List ℕ) (ls : List (List ℕ)) → (length l == 1) ≡ false → are_valid (l ∷ ls) ≡ (not (has_wildcards l) && are_valid ls)
of_length l ls h = by_others ls
  where
    last : (w k : Bool) → k ≡ false → (not w || k) ≡ (not w && true)
    last true k h = h
    last false k h = refl

    inner : (x y k r : Bool) → k ≡ false → ((not y && (not (x || y) || k)) && r) ≡ (not (x || y) && r)
    inner true true k r h = refl
    inner true false k r h = ap (λ b. b && r) h
    inner false true k r h = refl
    inner false false k r h = refl

    by_others : (ls : List (List ℕ)) → are_valid (l ∷ ls) ≡ (not (has_wildcards l) && are_valid ls)
    by_others [] = last (has_wildcards l) (length l == 1) h
    by_others (m ∷ ms) = inner (is_among l 43) (is_among l 35) (length l == 1) (are_valid (m ∷ ms)) h

-- such a filter is valid just where it is so without a wildcard in its first level
only_plain : (f : List ℕ) → is_wildcard f ≡ false → are_valid (first f ∷ others f) ≡ is_plain f
only_plain [] h = refl
only_plain (b ∷ []) h = by_slash (b == 47)
  where
    by_wildcard : (w : Bool) → w ≡ false → (not w || true) ≡ (not w && true)
    by_wildcard true h = absurd cc
    by_wildcard false h = refl

    by_slash : (s : Bool) → are_valid (cond s [] (b ∷ []) ∷ cond s ([] ∷ []) []) ≡ (not (has_wildcards (cond s [] (b ∷ []))) && are_valid (cond s ([] ∷ []) []))
    by_slash true = refl
    by_slash false = by_wildcard (has_wildcards (b ∷ [])) h
only_plain (b ∷ c ∷ f) h = by_slashes (b == 47) (c == 47) h
  where
    short : (u v r : Bool) → (u && true) ≡ false → ((not (v || false) && (not ((u || false) || (v || false)) || true)) && r) ≡ (not ((u || false) || (v || false)) && r)
    short true v r h = absurd cc
    short false true r h = refl
    short false false r h = refl

    long : (n : ℕ) → (suc (suc n) == 1) ≡ false
    long n = grind (arith, nat_tests)

    by_slashes : (s t : Bool) → (43 == b && t) ≡ false
        → are_valid (cond s [] (b ∷ cond t [] (c ∷ first f)) ∷ cond s (levels (c ∷ f)) (cond t (levels f) (others f)))
        ≡ (not (has_wildcards (cond s [] (b ∷ cond t [] (c ∷ first f)))) && are_valid (cond s (levels (c ∷ f)) (cond t (levels f) (others f))))
    by_slashes true t h = after_empty (levels (c ∷ f))
    by_slashes false true h =
        (λ i. are_valid ((b ∷ []) ∷ levels_are f i)) ∙ short (43 == b) (35 == b) (are_valid (first f ∷ others f)) h
        ∙ (λ i. not (has_wildcards (b ∷ [])) && are_valid (sym (levels_are f) i))
    by_slashes false false h = of_length (b ∷ c ∷ first f) (others f) (long (length (first f)))

-- a filter of which the first bytes are known
known : (f : List ℕ) → (length f ≡ 1 → get_or f 0 0 ≢ 43) → (length f ≡ 1 → get_or f 0 0 ≢ 35) → (1 < length f → get_or f 0 0 ≡ 43 → get_or f 1 0 ≢ 47) → is_wildcard f ≡ false
known [] plus hash more = refl
known (b ∷ []) plus hash more = let p = plus refl in let q = hash refl in grind (arith, nat_tests)
known (b ∷ c ∷ f) plus hash more = let m : b ≡ 43 → c ≢ 47 = more (omega arith) in grind (arith, nat_tests)

-- is decided by what is left behind its plain bytes
pub by_plain : (f : List ℕ) → (length f ≡ 1 → get_or f 0 0 ≢ 43) → (length f ≡ 1 → get_or f 0 0 ≢ 35) → (1 < length f → get_or f 0 0 ≡ 43 → get_or f 1 0 ≢ 47)
    → valid_behind (drop (plain_len f) f) ≡ are_valid (levels f)
by_plain f plus hash more = sym (ap are_valid (levels_are f) ∙ only_plain f (known f plus hash more) ∙ after_plain f)
