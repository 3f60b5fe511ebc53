use Rattle.std.proofs.Common.{◌≡◌, ◌<◌, ◌≤◌, ℕ, List, ◌∷◌, Option, None, Some, Less, false, refl, sym, arith}
use Rattle.std.proofs.lemmas.Grind.{common_steps}
use Rattle.std.proofs.lemmas.Map.Keys.{le_from_not_gt}
use Rattle.std.specs.Prelude.{IsSome, IfSome, slice_get}
use Rattle.std.specs.Ordering.{nat_cmp, is_gt}
use Rattle.std.specs.Cmp.{nat_cmp_is}
use Rattle.std.proofs.lemmas.Cmp.{ranked}
use Rattle.std.specs.declared.ops.Bound.TheVariants.{Included, Excluded}
use Rattle.std.specs.BTreeMap.{BTreeMap, get}
use Rattle.std.specs.BTreeMap.Range.{IsRangeOf, IsEntryInRange, IsLeBy}
use Rattle.mqtt5_inflight.proofs.pages.page_from.Goals as goal

absent : {X : Type 0} (o : Option X) → (IsSome o → ⊥) → o ≡ None
absent None not_some = refl
absent (Some x) not_some = absurd (not_some refl)

not_gt : (a b : ℕ) → a ≤ b → is_gt (nat_cmp a b) ≡ false
not_gt a b low = grind (arith, common_steps)

-- no key of a range is below its first
none_before : {X : Type 0} (m : BTreeMap ℕ X) (a b k : ℕ) (e : ℕ × X) (t r : List (ℕ × X)) → IsRangeOf nat_cmp (Included a) (Excluded b) m r → r ≡ e ∷ t → a ≤ k → k < e.0 → get nat_cmp m k ≡ None
none_before m a b k e t r is first low before = absent (get nat_cmp m k) (λ some.
    let here : IsEntryInRange nat_cmp (Included a) (Excluded b) m e = rw first at is.1 in
    let high : e.0 < b = ranked e.0 b Less (sym here.0.1) in
    let least : IfSome (slice_get r 0) (λ x. IsLeBy nat_cmp x.0 k) = is.2 k (not_gt a k low, sym (nat_cmp_is k b Less (omega arith))) some in
    let up_to : e.0 ≤ k = le_from_not_gt e.0 k (rw first at least) in
    omega arith)

pub returns-clause-first : goal.returns-clause-first
returns-clause-first c = λ k low before.
    none_before c.args.pages.now c.args.number 1024 k _ _ _ (c.range.ensures.in_range tt) c.in_ok-there.ensures.steps low before
