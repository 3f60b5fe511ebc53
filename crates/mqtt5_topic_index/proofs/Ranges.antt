-- The entries of a mark are those between its first and its last.
use Rattle.std.proofs.Common.{◌≡◌, ℕ, ◌<◌, ◌≤◌, ◌==◌, Bool, true, false, cond, not, ◌&&◌, ◌||◌, List, [], ◌∷◌, nat_lt, refl, sym, ap, ◌∙◌, arith}
use Rattle.std.specs.Prelude.{filter}
use Rattle.std.specs.Ordering.{nat_cmp, is_eq, is_lt, is_le}
use Rattle.std.specs.List.{list_any}
use Rattle.std.specs.declared.cmp.Ordering.TheVariants.{Less, Equal, Greater}
use Rattle.std.specs.BTreeSet.{BTreeSet, contains, keys_between}
use Rattle.std.specs.BTreeMap.{is_at}
use Rattle.std.specs.BTreeMap.Range.{range_contains}
use Rattle.std.specs.declared.ops.Bound.TheVariants.{Included}
use Rattle.std.proofs.lemmas.Bool.{eqb-true, eqb-false, ltb-true, ltb-false}
use Rattle.mqtt5_base.specs.Grammar.{is_among}
use Rattle.mqtt5_topic_index.specs.Index.{entry}
use Rattle.mqtt5_topic_index.proofs.Marking.{among_first, among_more}

-- ---- numbers as they are compared

pub equal_is : (a b : ℕ) → is_eq (nat_cmp a b) ≡ true → a ≡ b
equal_is a b h = by (nat_lt a b) (a == b) refl h
  where
    by : (l e : Bool) → (a == b) ≡ e → is_eq (cond l Less (cond e Equal Greater)) ≡ true → a ≡ b
    by true e is h = absurd cc
    by false true is h = eqb-true a b is
    by false false is h = absurd cc

le_is : (a b : ℕ) → a ≤ b → is_le (nat_cmp a b) ≡ true
le_is a b h = by (nat_lt a b) (a == b) refl refl
  where
    by : (l e : Bool) → nat_lt a b ≡ l → (a == b) ≡ e → is_le (cond l Less (cond e Equal Greater)) ≡ true
    by true e less is = refl
    by false true less is = refl
    by false false less is = absurd (omega (arith, h, ltb-false a b less, eqb-false a b is))

lt_isnt : (a b : ℕ) → b ≤ a → is_lt (nat_cmp a b) ≡ false
lt_isnt a b h = by (nat_lt a b) (a == b) refl
  where
    by : (l e : Bool) → nat_lt a b ≡ l → is_lt (cond l Less (cond e Equal Greater)) ≡ false
    by true e less = absurd (omega (arith, h, ltb-true a b less))
    by false true less = refl
    by false false less = refl

-- ---- those that pass a test

filtered : (p : ℕ → Bool) (k : ℕ) (ks : List ℕ) → p k ≡ true → list_any (is_at (nat_cmp k)) ks ≡ true → is_among (filter p ks) k ≡ true
filtered p k [] passes h = absurd cc
filtered p k (q ∷ qs) passes h = by_first (is_eq (nat_cmp k q)) refl h (filtered p k qs passes)
  where
    later : (t : Bool) → is_among (filter p qs) k ≡ true → is_among (cond t (q ∷ filter p qs) (filter p qs)) k ≡ true
    later true there = among_more k q (filter p qs) there
    later false there = there

    by_first : (s : Bool) → is_eq (nat_cmp k q) ≡ s → (s || list_any (is_at (nat_cmp k)) qs) ≡ true → (list_any (is_at (nat_cmp k)) qs ≡ true → is_among (filter p qs) k ≡ true)
        → is_among (filter p (q ∷ qs)) k ≡ true
    by_first true is h on =
        let same : k ≡ q = equal_is k q is in
        ap (λ t. is_among (cond t (q ∷ filter p qs) (filter p qs)) k) (sym (ap p same) ∙ passes) ∙ among_first k q (filter p qs) same
    by_first false is h on = later (p q) (on h)

-- the entries between the first and the last of a mark
pub in_range : (es : BTreeSet ℕ) (m n : ℕ) → n < 18446744073709551616 → contains nat_cmp es (entry m n) ≡ true
    → is_among (keys_between nat_cmp (Included (entry m 0)) (Included (entry m 18446744073709551615)) es) (entry m n) ≡ true
in_range es m n small there = filtered (range_contains nat_cmp (Included (entry m 0)) (Included (entry m 18446744073709551615))) (entry m n) es.keys within there
  where
    both : (a b : Bool) → a ≡ true → b ≡ false → (a && not b) ≡ true
    both true false h k = refl
    both true true h k = absurd cc
    both false b h k = absurd cc

    within : range_contains nat_cmp (Included (entry m 0)) (Included (entry m 18446744073709551615)) (entry m n) ≡ true
    within = both _ _ (le_is (entry m 0) (entry m n) (omega (arith, small))) (lt_isnt (entry m 18446744073709551615) (entry m n) (omega (arith, small)))
