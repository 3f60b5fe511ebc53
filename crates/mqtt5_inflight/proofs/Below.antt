-- What a map of the keys below a number has at a key.
use Rattle.std.proofs.Common.{◌≡◌, ◌≢◌, ℕ, zero, suc, ◌+◌, ◌<◌, ◌≤◌, Bool, true, false, cond, T, length, Option, Some, None, refl, sym, ap, ◌∙◌, subst, ⊎_elim, arith, rules, ne_eqb, inl, inr}
use Rattle.std.proofs.lemmas.Bool.{cases_lt}
use Rattle.std.specs.Prelude.{◌&&◌}
use Rattle.std.specs.declared.cmp.Ordering.TheVariants.{Less}
use Rattle.std.specs.Ordering.{nat_cmp, is_lt, eq_by_cmp}
use Rattle.std.specs.Cmp.{nat_cmp_is, unsigned_tied}
use Rattle.std.specs.FinMap.{get, len, insert, remove, empty, len-entries, entries-from_sorted, get-from_sorted, find, is_sorted}
use Rattle.std.specs.FinMap.Entries.{below_all}
use Rattle.std.proofs.Math.Nat.{eq-or-lt_of_le}
use Rattle.mqtt5_inflight.specs.Paged.{entry_before, rising, map_below}
use Rattle.mqtt5_inflight.proofs.Maps.{same, is_insert, is_remove, is_empty}

both : (a b : Bool) → T a → T b → T (a && b)
both true b p q = q
both false b p q = p

module _ {X : Type 0} (f : ℕ → Option X) where
  less : (k i : ℕ) → k < i → T (is_lt (nat_cmp k i))
  less k i h = subst (λ r. T (is_lt r)) (nat_cmp_is k i Less h) tt

  below-rising : (n k i : ℕ) → k < i → T (below_all nat_cmp k (rising f i n))
  below-rising zero k i h = tt
  below-rising (suc n) k i h =
      let rest = below-rising n k (i + 1) (omega arith) in
      elim (f i) as (λ o. T (below_all nat_cmp k (entry_before i o (rising f (i + 1) n)))) [ None ↦ rest | Some x ↦ both _ _ (less k i h) rest ]

  sorted-rising : (n i : ℕ) → T (is_sorted nat_cmp (rising f i n))
  sorted-rising zero i = tt
  sorted-rising (suc n) i =
      let rest = sorted-rising n (i + 1) in
      elim (f i) as (λ o. T (is_sorted nat_cmp (entry_before i o (rising f (i + 1) n)))) [ None ↦ rest | Some x ↦ both _ _ (below-rising n i (i + 1) (omega arith)) rest ]

  -- another key than the first
  next : (n q i : ℕ) → q ≢ i → find nat_cmp q (rising f i (suc n)) ≡ find nat_cmp q (rising f (i + 1) n)
  next n q i ne = elim (f i) as (λ o. find nat_cmp q (entry_before i o (rising f (i + 1) n)) ≡ find nat_cmp q (rising f (i + 1) n)) [
    | None ↦ refl
    | Some x ↦ ap (λ b. cond b (Some x) (find nat_cmp q (rising f (i + 1) n))) (unsigned_tied q i ∙ ne_eqb q i ne)
  ]

  find_before : (n q i : ℕ) → q < i → find nat_cmp q (rising f i n) ≡ None
  find_before zero q i h = refl
  find_before (suc n) q i h = next n q i (λ e. absurd (omega (arith, e))) ∙ find_before n q (i + 1) (omega arith)

  find_past : (n q i : ℕ) → i + n ≤ q → find nat_cmp q (rising f i n) ≡ None
  find_past zero q i h = refl
  find_past (suc n) q i h = next n q i (λ e. absurd (omega (arith, e))) ∙ find_past n q (i + 1) (omega arith)

  first : (n q i : ℕ) → i ≡ q → find nat_cmp q (rising f i (suc n)) ≡ f q
  first n q i e =
      let tied : eq_by_cmp nat_cmp q i ≡ true = unsigned_tied q i ∙ grind (arith, rules) in
      elim (f i) as (λ o. f i ≡ o → find nat_cmp q (entry_before i o (rising f (i + 1) n)) ≡ f q) [
        | None ↦ λ is. find_before n q (i + 1) (omega arith) ∙ sym is ∙ ap f e
        | Some x ↦ λ is. ap (λ b. cond b (Some x) (find nat_cmp q (rising f (i + 1) n))) tied ∙ sym is ∙ ap f e
      ] refl

  find_within : (n q i : ℕ) → i ≤ q → q < i + n → find nat_cmp q (rising f i n) ≡ f q
  find_within zero q i low high = absurd (omega arith)
  find_within (suc n) q i low high = elim (eq-or-lt_of_le low) [
    | inl e ↦ first n q i e
    | inr lt ↦ next n q i (λ e. absurd (omega (arith, e))) ∙ find_within n q (i + 1) (omega arith) (omega arith)
  ]

  pub get_below : (n q : ℕ) → q < n → get (map_below n f) q ≡ f q
  unfolding map_below
  get_below n q h = get-from_sorted nat_cmp _ q (sorted-rising n 0) ∙ find_within n q 0 (omega arith) (omega arith)

  pub get_past : (n q : ℕ) → n ≤ q → get (map_below n f) q ≡ None
  unfolding map_below
  get_past n q h = get-from_sorted nat_cmp _ q (sorted-rising n 0) ∙ find_past n q 0 (omega arith)

  length-rising : (n i : ℕ) → length (rising f i n) ≤ n
  length-rising zero i = omega arith
  length-rising (suc n) i =
      let rest = length-rising n (i + 1) in
      elim (f i) as (λ o. length (entry_before i o (rising f (i + 1) n)) ≤ suc n) [ None ↦ omega arith | Some x ↦ omega arith ]

  -- without the key 0 there are at most as many entries as keys above it
  pub len_below : (n : ℕ) → f 0 ≡ None → len (map_below (suc n) f) ≤ n
  unfolding map_below
  len_below n none =
      let first : length (rising f 0 (suc n)) ≡ length (rising f 1 n) = ap (λ o. length (entry_before 0 o (rising f 1 n))) none in
      omega (arith, len-entries (map_below (suc n) f), ap (length {A = ℕ × X}) (entries-from_sorted nat_cmp (rising f 0 (suc n)) (sorted-rising (suc n) 0)), first, length-rising n 1)

module _ {X : Type 0} (f g : ℕ → Option X) (n : ℕ) where
  -- the two maps agree where the functions do
  alike : (q : ℕ) → (q < n → g q ≡ f q) → get (map_below n g) q ≡ get (map_below n f) q
  alike q e = ⊎_elim
      (λ (low : q < n). get_below g n q low ∙ e low ∙ sym (get_below f n q low))
      (λ (high : n ≤ q). get_past g n q high ∙ sym (get_past f n q high))
      (cases_lt q n)

  pub below_same : ((q : ℕ) → g q ≡ f q) → map_below n g ≡ map_below n f
  below_same e = same _ _ (λ q. alike q (λ _. e q))

  pub below_insert : (id : ℕ) (x : X) → id < n → g id ≡ Some x → ((q : ℕ) → q ≢ id → g q ≡ f q) → map_below n g ≡ insert (map_below n f) id x
  below_insert id x low here others = is_insert (map_below n f) (map_below n g) id x (get_below g n id low ∙ here) (λ q ne. alike q (λ _. others q ne))

  pub below_remove : (id : ℕ) → id < n → g id ≡ None → ((q : ℕ) → q ≢ id → g q ≡ f q) → map_below n g ≡ remove (map_below n f) id
  below_remove id low here others = is_remove (map_below n f) (map_below n g) id (get_below g n id low ∙ here) (λ q ne. alike q (λ _. others q ne))

pub below_empty : {X : Type 0} (f : ℕ → Option X) (n : ℕ) → ((q : ℕ) → f q ≡ None) → map_below n f ≡ empty
below_empty f n none = is_empty _ (λ q. ⊎_elim
    (λ (low : q < n). get_below f n q low ∙ none q)
    (λ (high : n ≤ q). get_past f n q high)
    (cases_lt q n))
