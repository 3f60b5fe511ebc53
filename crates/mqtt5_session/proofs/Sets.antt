-- Sets of ids to which one is added.
use Rattle.std.proofs.Common.{◌≡◌, ℕ, true, false, refl, ap, ◌∙◌, arith, rules, inl, inr}
use Rattle.std.specs.Prelude.{not, ◌||◌, ◌&&◌}
use Rattle.std.specs.Ordering.{nat_cmp, eq_by_cmp}
use Rattle.std.specs.Cmp.{nat_cmp_total, unsigned_tied}
use Rattle.std.specs.FinMap.{nat_cmp-IsAntisymmetric}
use Rattle.std.specs.FinSet.{FinSet, contains, insert, remove, contains-insert, contains-remove, same_set}
use Rattle.std.proofs.lemmas.Bool.{cases_eq}

-- whether a key is in a set that has id, where it is id or not
with_itself : (s : FinSet nat_cmp) (id q : ℕ) → contains s id ≡ true → (eq_by_cmp nat_cmp q id || contains s q) ≡ contains s q
with_itself s id q has = elim (cases_eq q id) [
  | inl e ↦
      let tied : eq_by_cmp nat_cmp q id ≡ true = unsigned_tied q id ∙ grind (arith, rules) in
      rw (tied, e, has) refl
  | inr n ↦
      let apart : eq_by_cmp nat_cmp q id ≡ false = unsigned_tied q id ∙ grind (arith, rules) in
      rw apart refl
]

-- the same of a set that doesn't, once id was added and taken out
without_itself : (s : FinSet nat_cmp) (id q : ℕ) → contains s id ≡ false → (not (eq_by_cmp nat_cmp q id) && (eq_by_cmp nat_cmp q id || contains s q)) ≡ contains s q
without_itself s id q lacks = elim (cases_eq q id) [
  | inl e ↦
      let tied : eq_by_cmp nat_cmp q id ≡ true = unsigned_tied q id ∙ grind (arith, rules) in
      rw (tied, e, lacks) refl
  | inr n ↦
      let apart : eq_by_cmp nat_cmp q id ≡ false = unsigned_tied q id ∙ grind (arith, rules) in
      rw apart refl
]

-- an id that is there adds nothing
pub insert-again : (s : FinSet nat_cmp) (id : ℕ) → contains s id ≡ true → insert s id ≡ s
insert-again s id has = same_set nat_cmp_total nat_cmp-IsAntisymmetric _ _ (λ q. contains-insert nat_cmp_total s id q ∙ with_itself s id q has)

-- an id that was added is taken out again
pub remove-insert : (s : FinSet nat_cmp) (id : ℕ) → contains s id ≡ false → remove (insert s id) id ≡ s
remove-insert s id lacks =
    same_set nat_cmp_total nat_cmp-IsAntisymmetric _ _
    (λ q. contains-remove nat_cmp_total (insert s id) id q ∙ ap (λ b. not (eq_by_cmp nat_cmp q id) && b) (contains-insert nat_cmp_total s id q) ∙ without_itself s id q lacks)
