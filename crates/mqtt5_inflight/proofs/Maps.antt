-- Finite maps of numbers: what they have once an entry is put in or taken out, or each value is changed.
use Rattle.std.proofs.Common.{◌≡◌, ◌≢◌, ℕ, ◌+◌, ◌-◌, ◌<◌, inl, inr, Bool, true, false, cond, List, [], ◌∷◌, T, length, map, Some, None, refl, sym, ap, ap₂, ◌∙◌, subst, ⊎_elim, arith, rules, ne_eqb}
use Rattle.std.proofs.lemmas.Bool.{cases_eq, false≢true}
use Rattle.std.proofs.Math.Nat.{eq-zero-or-pos}
use Rattle.std.proofs.lemmas.List.{length-map}
use Rattle.std.specs.Prelude.{option_map, is_some, ◌&&◌}
use Rattle.std.specs.Cmp.{nat_cmp_total, unsigned_tied}
use Rattle.std.specs.Ordering.{nat_cmp, is_lt, eq_by_cmp}
use Rattle.std.specs.FinMap.Entries.{below_all}
use Rattle.std.specs.FinMap.{FinMap, find, get, insert, remove, empty, empty_of_len, len, len-insert, len-remove, entries, entries_sorted, from_entries, from_sorted, is_sorted, same_map, nat_cmp-IsAntisymmetric, get-empty, get-insert, get-remove, get-entries, len-entries, get-from_entries, get-from_sorted, entries-from_sorted}
use Rattle.mqtt5_inflight.specs.Placed.{map_values}

tied_same : (k : ℕ) → eq_by_cmp nat_cmp k k ≡ true
tied_same k = unsigned_tied k k ∙ grind (arith, rules)

pub same : {X : Type 0} (m n : FinMap nat_cmp X) → ((q : ℕ) → get m q ≡ get n q) → m ≡ n
same m n = same_map nat_cmp_total nat_cmp-IsAntisymmetric m n

module _ {X : Type 0} (m : FinMap nat_cmp X) (k : ℕ) where
  pub get_insert_same : (x : X) → get (insert m k x) k ≡ Some x
  get_insert_same x = get-insert nat_cmp_total m k x k ∙ ap (λ b. cond b (Some x) (get m k)) (tied_same k)

  pub get_insert_other : (x : X) (j : ℕ) → j ≢ k → get (insert m k x) j ≡ get m j
  get_insert_other x j ne = get-insert nat_cmp_total m k x j ∙ ap (λ b. cond b (Some x) (get m j)) (unsigned_tied j k ∙ ne_eqb j k ne)

  pub get_remove_same : get (remove m k) k ≡ None
  get_remove_same = get-remove nat_cmp_total m k k ∙ ap (λ b. cond b None (get m k)) (tied_same k)

  pub get_remove_other : (j : ℕ) → j ≢ k → get (remove m k) j ≡ get m j
  get_remove_other j ne = get-remove nat_cmp_total m k j ∙ ap (λ b. cond b None (get m j)) (unsigned_tied j k ∙ ne_eqb j k ne)

-- one entry more, or less, and the others as they were
pub is_insert : {X : Type 0} (m n : FinMap nat_cmp X) (k : ℕ) (x : X) → get n k ≡ Some x → ((q : ℕ) → q ≢ k → get n q ≡ get m q) → n ≡ insert m k x
is_insert m n k x here others = same n (insert m k x) (λ q. ⊎_elim
    (λ (e : q ≡ k). ap (get n) e ∙ here ∙ sym (ap (get (insert m k x)) e ∙ get_insert_same m k x))
    (λ (ne : q ≢ k). others q ne ∙ sym (get_insert_other m k x q ne))
    (cases_eq q k))

pub is_remove : {X : Type 0} (m n : FinMap nat_cmp X) (k : ℕ) → get n k ≡ None → ((q : ℕ) → q ≢ k → get n q ≡ get m q) → n ≡ remove m k
is_remove m n k here others = same n (remove m k) (λ q. ⊎_elim
    (λ (e : q ≡ k). ap (get n) e ∙ here ∙ sym (ap (get (remove m k)) e ∙ get_remove_same m k))
    (λ (ne : q ≢ k). others q ne ∙ sym (get_remove_other m k q ne))
    (cases_eq q k))

pub is_empty : {X : Type 0} (m : FinMap nat_cmp X) → ((q : ℕ) → get m q ≡ None) → m ≡ empty
is_empty m none = same m empty (λ q. none q ∙ sym (get-empty nat_cmp q))

pub remove_free : {X : Type 0} (m : FinMap nat_cmp X) (k : ℕ) → get m k ≡ None → remove m k ≡ m
remove_free m k free = sym (is_remove m m k free (λ q ne. refl))

-- how many entries there are then
pub len_added : {X : Type 0} (m : FinMap nat_cmp X) (k : ℕ) (x : X) → get m k ≡ None → len (insert m k x) ≡ len m + 1
len_added m k x free = len-insert nat_cmp_total m k x ∙ ap (λ o. cond (is_some o) (len m) (len m + 1)) free

one_in : {X : Type 0} (m : FinMap nat_cmp X) (k : ℕ) → is_some (get m k) ≡ true → 0 < len m
one_in m k e = elim (eq-zero-or-pos (len m)) [
  | inl z ↦ absurd (false≢true (ap is_some (sym (get-empty nat_cmp k)) ∙ ap (λ n. is_some (get n k)) (sym (empty_of_len m z)) ∙ e))
  | inr p ↦ p
]

pub len_less : {X : Type 0} (m : FinMap nat_cmp X) (k : ℕ) (x : X) → get m k ≡ Some x → len (remove m k) + 1 ≡ len m
len_less m k x e =
    let some : 0 < len m = one_in m k (ap is_some e) in
    let less : len (remove m k) ≡ len m - 1 = len-remove nat_cmp_total m k ∙ ap (λ o. cond (is_some o) (len m - 1) (len m)) e in
    omega arith

-- each value is changed
module _ {X Y : Type 0} (f : X → Y) where
  abbrev changed : ℕ × X → ℕ × Y
  changed e = (e.0, f e.1)

  find_changed : (q : ℕ) (es : List (ℕ × X)) → find nat_cmp q (map changed es) ≡ option_map f (find nat_cmp q es)
  find_changed q [] = refl
  find_changed q (e ∷ es) = ap (cond (eq_by_cmp nat_cmp q e.0) (Some (f e.1))) (find_changed q es) ∙ by (eq_by_cmp nat_cmp q e.0)
    where
      by : (b : Bool) → cond b (Some (f e.1)) (option_map f (find nat_cmp q es)) ≡ option_map f (cond b (Some e.1) (find nat_cmp q es))
      by true = refl
      by false = refl

  pub get-map_values : (m : FinMap nat_cmp X) (q : ℕ) → get (map_values f m) q ≡ option_map f (get m q)
  unfolding map_values
  get-map_values m q = get-from_entries nat_cmp_total (map changed (entries m)) q ∙ find_changed q (entries m) ∙ ap (option_map f) (sym (get-entries m q))

  below_changed : (k : ℕ) (es : List (ℕ × X)) → below_all nat_cmp k (map changed es) ≡ below_all nat_cmp k es
  below_changed k [] = refl
  below_changed k (e ∷ es) = ap (λ b. is_lt (nat_cmp k e.0) && b) (below_changed k es)

  sorted_changed : (es : List (ℕ × X)) → is_sorted nat_cmp (map changed es) ≡ is_sorted nat_cmp es
  sorted_changed [] = refl
  sorted_changed (e ∷ es) = ap₂ (λ a b. a && b) (below_changed e.0 es) (sorted_changed es)

  entries-map_values : (m : FinMap nat_cmp X) → entries (map_values f m) ≡ map changed (entries m)
  unfolding map_values
  entries-map_values m =
      let es = map changed (entries m) in
      let is = subst T (sym (sorted_changed (entries m))) (entries_sorted m) in
      ap entries (same (from_entries es) (from_sorted es) (λ q. get-from_entries nat_cmp_total es q ∙ sym (get-from_sorted nat_cmp es q is)))
      ∙ entries-from_sorted nat_cmp es is

  pub len-map_values : (m : FinMap nat_cmp X) → len (map_values f m) ≡ len m
  len-map_values m = len-entries (map_values f m) ∙ ap length (entries-map_values m) ∙ length-map (entries m) changed ∙ sym (len-entries m)
