-- From the marks of a vector's lanes to the bytes before the first that is marked.
use Rattle.std.proofs.Common.{◌≡◌, ℕ, zero, suc, ◌+◌, ◌-◌, ◌%◌, ◌^◌, ◌<◌, ◌≤◌, Bool, true, false, cond, not, ◌&&◌, ◌||◌, ◌==◌, Option, None, Some, MatchOption, IfSome, List, [], ◌∷◌, length, map, take, drop, bit_or, replicate, refl, sym, ap, subst, ◌∙◌, arith, inl, inr}
use Rattle.std.specs.List.{common_prefix_len, prefix_len, position_or_len}
use Rattle.std.specs.Int.{trailing_zeros, w64}
use Rattle.std.proofs.lemmas.Bool.{cases_eq, eq-eqb}
use Rattle.std.proofs.lemmas.Bool.Decides.{nat_tests}
use Rattle.std.proofs.lemmas.List.{drop-drop, length-map, length-take-le, map-id, take_rest}
use Rattle.std.proofs.lemmas.List.Sums.{prefix_len-le-length}
use Rattle.std.proofs.lemmas.Simd.{length-zip2, mask_l-mod, first_set_mask_l, zip2_splat}
use lib.Lanes.{zip2, mask_l, top}
use Rattle.mqtt5_base.specs.Topics.{has_wildcards}
use Rattle.mqtt5_base.specs.Walk.{common_len, level_len, plain_len}

-- how many lanes come before the first that is marked
abbrev before : List Bool → ℕ
before = prefix_len (λ m. not m)

-- where as many come as there are, none is
none_marked : (ms : List Bool) → before ms ≡ length ms → mask_l ms ≡ 0
none_marked [] h = refl
none_marked (true ∷ ms) h = absurd (omega arith)
none_marked (false ∷ ms) h = let rest = none_marked ms (omega arith) in omega arith

-- what a vector's mask tells: all of its lanes come before one that is marked, or so many and no more
told_by_mask : (lanes : List ℕ) (ms : List Bool) → map (top 7) lanes ≡ ms → length ms ≡ 16 → (r : Option ℕ)
    → r ≡ cond (mask_l (map (top 7) lanes) % 2 ^ 64 == 0) None (Some (trailing_zeros w64 (mask_l (map (top 7) lanes) % 2 ^ 64)))
    → MatchOption r (before ms ≡ 16) (λ len. (len ≡ before ms) × (len < 16))
told_by_mask lanes ms marks long r h =
    let mask : mask_l (map (top 7) lanes) % 2 ^ 64 ≡ mask_l ms = ap (λ l. mask_l l % 2 ^ 64) marks ∙ mask_l-mod ms 64 (omega arith) in
    let first : cond (mask_l ms == 0) 16 (trailing_zeros w64 (mask_l ms)) ≡ before ms =
    ap (λ l. cond (mask_l l == 0) 16 (trailing_zeros w64 (mask_l l))) (sym (map-id ms)) ∙ first_set_mask_l (λ m. m) ms 16 long (omega arith) in
    subst (λ (r : Option ℕ). MatchOption r (before ms ≡ 16) (λ len. (len ≡ before ms) × (len < 16)))
    (sym (h ∙ ap (λ n. cond (n == 0) None (Some (trailing_zeros w64 n))) mask)) (by_test (mask_l ms == 0) refl first)
  where
    by_test : (k : Bool) → (mask_l ms == 0) ≡ k → cond k 16 (trailing_zeros w64 (mask_l ms)) ≡ before ms
        → MatchOption (cond k None (Some (trailing_zeros w64 (mask_l ms)))) (before ms ≡ 16) (λ len. (len ≡ before ms) × (len < 16))
    by_test true is first = sym first
    by_test false is first =
        let most = prefix_len-le-length (λ m. not m) ms in
        elim (cases_eq (before ms) 16) [
          | inl all ↦ let zero : (mask_l ms == 0) ≡ true = eq-eqb _ _ (none_marked ms (all ∙ sym long)) in let wrong : true ≡ false = sym zero ∙ is in absurd cc
          | inr fewer ↦ (first, omega arith)
        ]

-- what is told of the marks is told of the bytes
pub told_of_bytes : (r : Option ℕ) (n all : ℕ) → (n ≡ 16 → 16 ≤ all) → (n < 16 → n ≡ all) → MatchOption r (n ≡ 16) (λ len. (len ≡ n) × (len < 16))
    → MatchOption r (16 ≤ all) (λ len. len ≡ all)
told_of_bytes None n all whole part h = whole h
told_of_bytes (Some len) n all whole part h = h.0 ∙ part (omega (arith, h.0, h.1))

-- and one that is marked is among the lanes
pub told_near : (r : Option ℕ) (n : ℕ) → MatchOption r (n ≡ 16) (λ len. (len ≡ n) × (len < 16)) → IfSome r (λ len. len < 16)
told_near None n h = tt
told_near (Some len) n h = h.1

-- ---- the first n bytes of two lists

-- where all are in common, so many are of both
all_common : (e : ℕ → ℕ → Bool) (n : ℕ) (t f : List ℕ) → common_prefix_len e (take n t) (take n f) ≡ n → n ≤ common_prefix_len e t f
all_common e zero t f h = omega arith
all_common e (suc n) [] f h = absurd (omega arith)
all_common e (suc n) (x ∷ t) [] h = absurd (omega arith)
all_common e (suc n) (x ∷ t) (y ∷ f) h = by_test (e x y) h (all_common e n t f)
  where
    by_test : (k : Bool) → cond k (1 + common_prefix_len e (take n t) (take n f)) 0 ≡ suc n → (common_prefix_len e (take n t) (take n f) ≡ n → n ≤ common_prefix_len e t f)
        → suc n ≤ cond k (1 + common_prefix_len e t f) 0
    by_test true h rest = let r = rest (omega arith) in omega arith
    by_test false h rest = absurd (omega arith)

-- where fewer are, no more are
some_common : (e : ℕ → ℕ → Bool) (n : ℕ) (t f : List ℕ) → common_prefix_len e (take n t) (take n f) < n → common_prefix_len e (take n t) (take n f) ≡ common_prefix_len e t f
some_common e zero t f h = absurd (omega arith)
some_common e (suc n) [] f h = refl
some_common e (suc n) (x ∷ t) [] h = refl
some_common e (suc n) (x ∷ t) (y ∷ f) h = by_test (e x y) h (some_common e n t f)
  where
    by_test : (k : Bool) → cond k (1 + common_prefix_len e (take n t) (take n f)) 0 < suc n
        → (common_prefix_len e (take n t) (take n f) < n → common_prefix_len e (take n t) (take n f) ≡ common_prefix_len e t f)
        → cond k (1 + common_prefix_len e (take n t) (take n f)) 0 ≡ cond k (1 + common_prefix_len e t f) 0
    by_test true h rest = ap (λ m. 1 + m) (rest (omega arith))
    by_test false h rest = refl

-- behind so many as are in common the others follow
from_common : (e : ℕ → ℕ → Bool) (n : ℕ) (t f : List ℕ) → n ≤ common_prefix_len e t f → n + common_prefix_len e (drop n t) (drop n f) ≡ common_prefix_len e t f
from_common e zero t f h = omega arith
from_common e (suc n) [] f h = absurd (omega arith)
from_common e (suc n) (x ∷ t) [] h = absurd (omega arith)
from_common e (suc n) (x ∷ t) (y ∷ f) h = by_test (e x y) h (from_common e n t f)
  where
    by_test : (k : Bool) → suc n ≤ cond k (1 + common_prefix_len e t f) 0
        → (n ≤ common_prefix_len e t f → n + common_prefix_len e (drop n t) (drop n f) ≡ common_prefix_len e t f)
        → suc n + common_prefix_len e (drop n t) (drop n f) ≡ cond k (1 + common_prefix_len e t f) 0
    by_test true h rest = let r = rest (omega arith) in omega arith
    by_test false h rest = absurd (omega arith)

-- ---- bytes that two texts have in common

-- whether a byte differs from the filter's, or ends the level
abbrev ends : ℕ → ℕ → Bool
ends t f = not (t == f) || t == 47

-- the marks of such bytes
common_marks : (t f : List ℕ)
    → map (top 7) (zip2 bit_or (zip2 (λ a b. cond (not (a == b)) 255 0) t f) (map (λ a. cond (a == 47) 255 0) t)) ≡ zip2 ends t f
common_marks [] f = refl
common_marks (x ∷ t) [] = refl
common_marks (x ∷ t) (y ∷ f) = by_tests (x == y) (x == 47) (common_marks t f)
  where
    by_tests : (e s : Bool) → map (top 7) (zip2 bit_or (zip2 (λ a b. cond (not (a == b)) 255 0) t f) (map (λ a. cond (a == 47) 255 0) t)) ≡ zip2 ends t f
        → (top 7 (bit_or (cond (not e) 255 0) (cond s 255 0)) ∷ map (top 7) (zip2 bit_or (zip2 (λ a b. cond (not (a == b)) 255 0) t f) (map (λ a. cond (a == 47) 255 0) t)))
        ≡ ((not e || s) ∷ zip2 ends t f)
    by_tests true true h = ap (λ l. true ∷ l) h
    by_tests true false h = ap (λ l. false ∷ l) h
    by_tests false true h = ap (λ l. true ∷ l) h
    by_tests false false h = ap (λ l. true ∷ l) h

-- those before the first mark
common_before : (t f : List ℕ) → before (zip2 ends t f) ≡ common_len t f
common_before [] f = refl
common_before (x ∷ t) [] = refl
common_before (x ∷ t) (y ∷ f) = by_tests (x == y) (x == 47) (common_before t f)
  where
    by_tests : (e s : Bool) → before (zip2 ends t f) ≡ common_len t f → before ((not e || s) ∷ zip2 ends t f) ≡ cond (e && not s) (1 + common_len t f) 0
    by_tests true true h = refl
    by_tests true false h = ap (λ n. 1 + n) h
    by_tests false s h = refl

abbrev alike : ℕ → ℕ → Bool
alike t f = t == f && not (t == 47)

pub common_all : (n : ℕ) (t f : List ℕ) → common_len (take n t) (take n f) ≡ n → n ≤ common_len t f
common_all = all_common alike

pub common_some : (n : ℕ) (t f : List ℕ) → common_len (take n t) (take n f) < n → common_len (take n t) (take n f) ≡ common_len t f
common_some = some_common alike

-- what the mask of two vectors tells
pub common_told : (topic filter : List ℕ) → 16 ≤ length topic → 16 ≤ length filter → (r : Option ℕ) (lanes : List ℕ)
    → lanes ≡ zip2 bit_or (zip2 (λ a b. cond (not (a == b)) 255 0) (take 16 topic) (take 16 filter)) (zip2 (λ a b. cond (a == b) 255 0) (take 16 topic) (replicate 16 47))
    → r ≡ cond (mask_l (map (top 7) lanes) % 2 ^ 64 == 0) None (Some (trailing_zeros w64 (mask_l (map (top 7) lanes) % 2 ^ 64)))
    → MatchOption r (common_len (take 16 topic) (take 16 filter) ≡ 16) (λ len. (len ≡ common_len (take 16 topic) (take 16 filter)) × (len < 16))
common_told topic filter long long' r lanes are h =
    let t = take 16 topic in
    let f = take 16 filter in
    let all : length t ≡ 16 = length-take-le 16 topic long in
    let both : length t ≡ length f = all ∙ sym (length-take-le 16 filter long') in
    subst (λ n. MatchOption r (n ≡ 16) (λ len. (len ≡ n) × (len < 16))) (common_before t f)
    (told_by_mask lanes (zip2 ends t f)
    (ap (map (top 7)) are ∙ ap (λ l. map (top 7) (zip2 bit_or (zip2 (λ a b. cond (not (a == b)) 255 0) t f) l)) (zip2_splat (λ a b. cond (a == b) 255 0) t 16 47 all) ∙ common_marks t f)
    (length-zip2 ends t f both ∙ all) r h)

-- sixteen more
pub common_on : (t f : List ℕ) (n : ℕ) → n + common_len (drop n t) (drop n f) ≡ common_len t f
    → 16 ≤ common_len (take (length t - n) (drop n t)) (take (length f - n) (drop n f)) → (n + 16) + common_len (drop (n + 16) t) (drop (n + 16) f) ≡ common_len t f
common_on t f n h more =
    let on = from_common alike 16 (drop n t) (drop n f) (subst (λ m. 16 ≤ m) (λ i. common_len (take_rest t n i) (take_rest f n i)) more) in
    let behind : common_len (drop 16 (drop n t)) (drop 16 (drop n f)) ≡ common_len (drop (n + 16) t) (drop (n + 16) f) =
    (λ i. common_len (drop-drop 16 n t i) (drop-drop 16 n f i)) in
    omega arith

-- ---- the bytes of a text before the first that stops a walk

-- those before the first mark
until_before : (stops : ℕ → Bool) (t : List ℕ) → before (map stops t) ≡ position_or_len stops t
until_before stops [] = refl
until_before stops (b ∷ t) = by_test (stops b) (until_before stops t)
  where
    by_test : (k : Bool) → before (map stops t) ≡ position_or_len stops t → before (k ∷ map stops t) ≡ cond (not k) (1 + position_or_len stops t) 0
    by_test true h = refl
    by_test false h = ap (λ n. 1 + n) h

-- they are those that a text has in common with itself
until_is : (stops : ℕ → Bool) (t : List ℕ) → common_prefix_len (λ b _. not (stops b)) t t ≡ position_or_len stops t
until_is stops [] = refl
until_is stops (b ∷ t) = ap (λ n. cond (not (stops b)) (1 + n) 0) (until_is stops t)

pub until_all : (stops : ℕ → Bool) (n : ℕ) (t : List ℕ) → position_or_len stops (take n t) ≡ n → n ≤ position_or_len stops t
until_all stops n t h = subst (λ m. n ≤ m) (until_is stops t) (all_common (λ b _. not (stops b)) n t t (until_is stops (take n t) ∙ h))

pub until_some : (stops : ℕ → Bool) (n : ℕ) (t : List ℕ) → position_or_len stops (take n t) < n → position_or_len stops (take n t) ≡ position_or_len stops t
until_some stops n t h =
    sym (until_is stops (take n t)) ∙ some_common (λ b _. not (stops b)) n t t (subst (λ m. m < n) (sym (until_is stops (take n t))) h) ∙ until_is stops t

-- sixteen more
pub until_on : (stops : ℕ → Bool) (t : List ℕ) (n : ℕ) → n + position_or_len stops (drop n t) ≡ position_or_len stops t → 16 ≤ position_or_len stops (take (length t - n) (drop n t))
    → (n + 16) + position_or_len stops (drop (n + 16) t) ≡ position_or_len stops t
until_on stops t n h more =
    let u = drop n t in
    let on = from_common (λ b _. not (stops b)) 16 u u (subst (λ m. 16 ≤ m) (ap (position_or_len stops) (take_rest t n) ∙ sym (until_is stops u)) more) in
    let here = until_is stops u in
    let behind = until_is stops (drop 16 u) ∙ ap (position_or_len stops) (drop-drop 16 n t) in
    omega arith

-- ---- plain bytes of a text

-- whether a byte isn't plain
abbrev pub stops : ℕ → Bool
stops b = b == 47 || has_wildcards (b ∷ [])

-- the marks of such bytes
plain_marks : (t : List ℕ)
    → map (top 7) (zip2 bit_or (zip2 bit_or (map (λ b. cond (b == 47) 255 0) t) (map (λ b. cond (b == 43) 255 0) t)) (map (λ b. cond (b == 35) 255 0) t)) ≡ map stops t
plain_marks [] = refl
plain_marks (b ∷ t) =
    by_tests (b == 47) (b == 43) (b == 35) ∙ (λ i. (b == 47 || ((turned b 43 i || false) || (turned b 35 i || false))) ∷ plain_marks t i)
  where
    turned : (a b : ℕ) → (a == b) ≡ (b == a)
    turned a b = grind (arith, nat_tests)

    rest : List Bool
    rest = map (top 7) (zip2 bit_or (zip2 bit_or (map (λ b. cond (b == 47) 255 0) t) (map (λ b. cond (b == 43) 255 0) t)) (map (λ b. cond (b == 35) 255 0) t))

    by_tests : (s u v : Bool) → (top 7 (bit_or (bit_or (cond s 255 0) (cond u 255 0)) (cond v 255 0)) ∷ rest) ≡ ((s || ((u || false) || (v || false))) ∷ rest)
    by_tests true true true = refl
    by_tests true true false = refl
    by_tests true false true = refl
    by_tests true false false = refl
    by_tests false true true = refl
    by_tests false true false = refl
    by_tests false false true = refl
    by_tests false false false = refl

-- what the mask of a vector tells
pub plain_told : (text : List ℕ) → 16 ≤ length text → (r : Option ℕ) (lanes : List ℕ)
    → lanes ≡ zip2 bit_or (zip2 bit_or (zip2 (λ a b. cond (a == b) 255 0) (take 16 text) (replicate 16 47)) (zip2 (λ a b. cond (a == b) 255 0) (take 16 text) (replicate 16 43))) (zip2 (λ a b. cond (a == b) 255 0) (take 16 text) (replicate 16 35))
    → r ≡ cond (mask_l (map (top 7) lanes) % 2 ^ 64 == 0) None (Some (trailing_zeros w64 (mask_l (map (top 7) lanes) % 2 ^ 64)))
    → MatchOption r (plain_len (take 16 text) ≡ 16) (λ len. (len ≡ plain_len (take 16 text)) × (len < 16))
plain_told text long r lanes are h =
    let t = take 16 text in
    let all : length t ≡ 16 = length-take-le 16 text long in
    let is : ℕ → ℕ → ℕ = λ a b. cond (a == b) 255 0 in
    subst (λ n. MatchOption r (n ≡ 16) (λ len. (len ≡ n) × (len < 16))) (until_before stops t)
    (told_by_mask lanes (map stops t)
    (ap (map (top 7)) are ∙ (λ i. map (top 7) (zip2 bit_or (zip2 bit_or (zip2_splat is t 16 47 all i) (zip2_splat is t 16 43 all i)) (zip2_splat is t 16 35 all i))) ∙ plain_marks t)
    (length-map t stops ∙ all) r h)

-- ---- the bytes of a level

-- the marks of slashes
slash_marks : (t : List ℕ) → map (top 7) (map (λ b. cond (b == 47) 255 0) t) ≡ map (λ b. b == 47) t
slash_marks [] = refl
slash_marks (b ∷ t) = by_test (b == 47) (slash_marks t)
  where
    by_test : (s : Bool) → map (top 7) (map (λ b. cond (b == 47) 255 0) t) ≡ map (λ b. b == 47) t
        → (top 7 (cond s 255 0) ∷ map (top 7) (map (λ b. cond (b == 47) 255 0) t)) ≡ (s ∷ map (λ b. b == 47) t)
    by_test true h = ap (λ l. true ∷ l) h
    by_test false h = ap (λ l. false ∷ l) h

-- what the mask of a vector tells
pub slash_told : (text : List ℕ) → 16 ≤ length text → (r : Option ℕ) (lanes : List ℕ)
    → lanes ≡ zip2 (λ a b. cond (a == b) 255 0) (take 16 text) (replicate 16 47)
    → r ≡ cond (mask_l (map (top 7) lanes) % 2 ^ 64 == 0) None (Some (trailing_zeros w64 (mask_l (map (top 7) lanes) % 2 ^ 64)))
    → MatchOption r (level_len (take 16 text) ≡ 16) (λ len. (len ≡ level_len (take 16 text)) × (len < 16))
slash_told text long r lanes are h =
    let t = take 16 text in
    let all : length t ≡ 16 = length-take-le 16 text long in
    subst (λ n. MatchOption r (n ≡ 16) (λ len. (len ≡ n) × (len < 16))) (until_before (λ b. b == 47) t)
    (told_by_mask lanes (map (λ b. b == 47) t)
    (ap (map (top 7)) are ∙ ap (map (top 7)) (zip2_splat (λ a b. cond (a == b) 255 0) t 16 47 all) ∙ slash_marks t)
    (length-map t (λ b. b == 47) ∙ all) r h)
