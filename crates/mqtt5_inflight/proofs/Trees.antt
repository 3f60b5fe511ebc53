-- Ordered sets and maps of numbers as finite sets and maps.
use Rattle.std.proofs.Common.{[], ◌∷◌, ◌≡◌, ℕ, Bool, true, false, cond, List, Some, refl, sym, ap, ◌∙◌}
use Rattle.std.specs.Prelude.{not, ◌||◌, ◌&&◌}
use Rattle.std.specs.Ordering.{nat_cmp, eq_by_cmp}
use Rattle.std.specs.Cmp.{nat_cmp_total, eq_by_cmp_equiv}
use Rattle.std.specs.BTreeMap as tree_map
use Rattle.std.specs.BTreeMap.{BTreeMap, is_at}
use Rattle.std.specs.BTreeSet as tree_set
use Rattle.std.specs.BTreeSet.{BTreeSet}
use Rattle.std.specs.Map.{lookup}
use Rattle.std.specs.FinMap.{find, get, insert, from_entries, get-insert, get-from_entries, same_map, nat_cmp-IsAntisymmetric}
use Rattle.std.specs.FinSet as set
use Rattle.std.specs.FinSet.{from_list, contains-from_list, contains-insert, contains-remove, same_set}

-- whether a key is the one of a query, from either side
swap : (k q : ℕ) → is_at (nat_cmp k) q ≡ eq_by_cmp nat_cmp q k
swap k q = (eq_by_cmp_equiv nat_cmp_total).symm k q

-- what the set has, once an id is added or taken out
pub contains-from_keys : (s : BTreeSet ℕ) (q : ℕ) → set.contains (from_list {R = nat_cmp} s.keys) q ≡ tree_set.contains nat_cmp s q
contains-from_keys s q = contains-from_list nat_cmp_total s.keys q

or_cond : (a b : Bool) → cond a true b ≡ (a || b)
or_cond true b = refl
or_cond false b = refl

and_cond : (a b : Bool) → cond a false b ≡ (not a && b)
and_cond true b = refl
and_cond false b = refl

pub from_keys-insert : (s n : BTreeSet ℕ) (k : ℕ) → ((q : ℕ) → tree_set.contains nat_cmp n q ≡ cond (is_at (nat_cmp k) q) true (tree_set.contains nat_cmp s q)) → from_list n.keys ≡ set.insert (from_list {R = nat_cmp} s.keys) k
from_keys-insert s n k h = same_set nat_cmp_total nat_cmp-IsAntisymmetric _ _ (λ q.
    contains-from_keys n q ∙ h q ∙ or_cond (is_at (nat_cmp k) q) _
    ∙ sym (contains-insert nat_cmp_total _ k q ∙ (λ i. sym (swap k q) i || contains-from_keys s q i)))

pub from_keys-remove : (s n : BTreeSet ℕ) (k : ℕ) → ((q : ℕ) → tree_set.contains nat_cmp n q ≡ cond (is_at (nat_cmp k) q) false (tree_set.contains nat_cmp s q)) → from_list n.keys ≡ set.remove (from_list {R = nat_cmp} s.keys) k
from_keys-remove s n k h = same_set nat_cmp_total nat_cmp-IsAntisymmetric _ _ (λ q.
    contains-from_keys n q ∙ h q ∙ and_cond (is_at (nat_cmp k) q) _
    ∙ sym (contains-remove nat_cmp_total _ k q ∙ (λ i. not (sym (swap k q) i) && contains-from_keys s q i)))

-- what the map has, once a value is set
find-lookup : {X : Type 0} (es : List (ℕ × X)) (q : ℕ) → find nat_cmp q es ≡ lookup (is_at (nat_cmp q)) es
find-lookup [] q = refl
find-lookup (e ∷ es) q = ap (cond (is_at (nat_cmp q) e.0) (Some e.1)) (find-lookup es q)

pub get-from_tree : {X : Type 0} (m : BTreeMap ℕ X) (q : ℕ) → get (from_entries {R = nat_cmp} m.entries) q ≡ tree_map.get nat_cmp m q
get-from_tree m q = get-from_entries nat_cmp_total m.entries q ∙ find-lookup m.entries q

pub from_tree-insert : {X : Type 0} (m n : BTreeMap ℕ X) (k : ℕ) (x : X) → ((q : ℕ) → tree_map.get nat_cmp n q ≡ cond (is_at (nat_cmp k) q) (Some x) (tree_map.get nat_cmp m q)) → from_entries n.entries ≡ insert (from_entries {R = nat_cmp} m.entries) k x
from_tree-insert m n k x h = same_map nat_cmp_total nat_cmp-IsAntisymmetric _ _ (λ q.
    get-from_tree n q ∙ h q
    ∙ sym (get-insert nat_cmp_total _ k x q ∙ (λ i. cond (sym (swap k q) i) (Some x) (get-from_tree m q i))))
