-- The ids in use, part by part: the publishes and then the releases that are sent again, by rising id, make the whole map.
use Rattle.std.proofs.Common.{◌≡◌, ◌≢◌, ℕ, zero, suc, ◌<◌, ◌≤◌, Bool, true, false, cond, Option, Some, None, refl, sym, ap, ◌∙◌, subst, ⊎_elim, arith}
use Rattle.std.proofs.lemmas.Bool.{cases_eq}
use Rattle.std.specs.Ordering.{nat_cmp}
use Rattle.std.specs.Prelude.{option_map}
use Rattle.std.specs.FinMap.{get, insert, empty, same_map, get-empty, nat_cmp-IsAntisymmetric}
use Rattle.std.specs.Cmp.{nat_cmp_total}
use Rattle.mqtt5_inflight.specs.declared.slot.Slot.{Slot}
use Rattle.mqtt5_inflight.specs.declared.slot.Slot.TheVariants.{Sent, Released}
use Rattle.mqtt5_inflight.specs.InUse.{InUse}
use Rattle.mqtt5_inflight.specs.Unacked.{slot_again, in_use_again}
use Rattle.mqtt5_inflight.proofs.Within.{no_ids, get_insert_same, get_insert_other, Fits}
use Rattle.mqtt5_inflight.proofs.Marked.{get_again}

abbrev pub is_sent : Slot → Bool
is_sent (Sent p) = true
is_sent Released = false

abbrev pub is_kept : Slot → Bool
is_kept (Sent p) = false
is_kept Released = true

-- what is known of an id is put into a map as it is sent again, where it is chosen
abbrev pub with_slot : (Slot → Bool) → ℕ → Option Slot → InUse → InUse
with_slot ok id None b = b
with_slot ok id (Some x) b = cond (ok x) (insert b id (slot_again x)) b

abbrev pub map_to : (Slot → Bool) → ℕ → InUse → InUse → InUse
map_to ok zero h b = b
map_to ok (suc n) h b = with_slot ok (suc n) (get h (suc n)) (map_to ok n h b)

abbrev pick : (Slot → Bool) → Option Slot → Option Slot → Option Slot
pick ok None o = o
pick ok (Some x) o = cond (ok x) (Some (slot_again x)) o

get_with_same : (ok : Slot → Bool) (id : ℕ) (x : Option Slot) (b : InUse) → get (with_slot ok id x b) id ≡ pick ok x (get b id)
get_with_same ok id None b = refl
get_with_same ok id (Some x) b = by (ok x)
  where
    by : (t : Bool) → get (cond t (insert b id (slot_again x)) b) id ≡ cond t (Some (slot_again x)) (get b id)
    by true = get_insert_same b id (slot_again x)
    by false = refl

get_with_other : (ok : Slot → Bool) (id : ℕ) (x : Option Slot) (b : InUse) (k : ℕ) → k ≢ id → get (with_slot ok id x b) k ≡ get b k
get_with_other ok id None b k ne = refl
get_with_other ok id (Some x) b k ne = by (ok x)
  where
    by : (t : Bool) → get (cond t (insert b id (slot_again x)) b) k ≡ get b k
    by true = get_insert_other b id (slot_again x) k ne
    by false = refl

module _ (ok : Slot → Bool) (h b : InUse) where
  pub above : (n k : ℕ) → n < k → get (map_to ok n h b) k ≡ get b k
  above zero k a = refl
  above (suc n) k a = get_with_other ok (suc n) (get h (suc n)) (map_to ok n h b) k (λ e. absurd (omega arith)) ∙ above n k (omega arith)

  inside : (n k : ℕ) → 0 < k → k ≤ n → get (map_to ok n h b) k ≡ pick ok (get h k) (get b k)
  inside zero k low high = absurd (omega arith)
  inside (suc n) k low high = ⊎_elim
      (λ (e : k ≡ suc n). subst (λ j. get (map_to ok (suc n) h b) j ≡ pick ok (get h j) (get b j)) (sym e) (get_with_same ok (suc n) (get h (suc n)) (map_to ok n h b) ∙ ap (pick ok (get h (suc n))) (above n (suc n) (omega arith))))
      (λ (ne : k ≢ suc n). get_with_other ok (suc n) (get h (suc n)) (map_to ok n h b) k ne ∙ inside n k low (omega arith))
      (cases_eq k (suc n))

  unknown : (n k : ℕ) → get h k ≡ None → get (map_to ok n h b) k ≡ get b k
  unknown zero k e = refl
  unknown (suc n) k e = ⊎_elim
      (λ (same : k ≡ suc n). ap (λ x. get (with_slot ok (suc n) x (map_to ok n h b)) k) (ap (get h) (sym same) ∙ e) ∙ unknown n k e)
      (λ (ne : k ≢ suc n). get_with_other ok (suc n) (get h (suc n)) (map_to ok n h b) k ne ∙ unknown n k e)
      (cases_eq k (suc n))

both_parts : (x : Option Slot) → pick is_kept x (pick is_sent x None) ≡ option_map slot_again x
both_parts None = refl
both_parts (Some Released) = refl
both_parts (Some (Sent p)) = refl

module _ (limit : ℕ) (h : InUse) (ok : (k : ℕ) → Fits limit k (get h k)) where
  pub whole_map : map_to is_kept limit h (map_to is_sent limit h empty) ≡ in_use_again h
  whole_map = same_map nat_cmp_total nat_cmp-IsAntisymmetric _ _ (λ k. by k (get h k) refl (ok k) ∙ sym (get_again h k))
    where
      by : (k : ℕ) (x : Option Slot) → get h k ≡ x → Fits limit k x → get (map_to is_kept limit h (map_to is_sent limit h empty)) k ≡ option_map slot_again (get h k)
      by k None e f = unknown is_kept h (map_to is_sent limit h empty) limit k e ∙ unknown is_sent h empty limit k e ∙ get-empty nat_cmp k ∙ ap (option_map slot_again) (sym e)
      by k (Some x) e f =
          inside is_kept h (map_to is_sent limit h empty) limit k f.low f.high
          ∙ ap (pick is_kept (get h k)) (inside is_sent h empty limit k f.low f.high ∙ ap (pick is_sent (get h k)) (get-empty nat_cmp k))
          ∙ both_parts (get h k)

abbrev pub FreeFor : (Slot → Bool) → Option Slot → Option Slot → Type 0
FreeFor ok None o = Unit {0}
FreeFor ok (Some x) o = ok x ≡ true → o ≡ None

pub free_first : (h : InUse) (k : ℕ) → FreeFor is_sent (get h k) (get no_ids k)
free_first h k = by (get h k)
  where
    by : (x : Option Slot) → FreeFor is_sent x (get no_ids k)
    by None = tt {0}
    by (Some x) = λ _. get-empty nat_cmp k

pub free_then : (limit : ℕ) (h : InUse) (k : ℕ) → Fits limit k (get h k) → FreeFor is_kept (get h k) (get (map_to is_sent limit h empty) k)
free_then limit h k f = by (get h k) refl f
  where
    by : (x : Option Slot) → get h k ≡ x → Fits limit k x → FreeFor is_kept x (get (map_to is_sent limit h empty) k)
    by None e f = tt {0}
    by (Some (Sent p)) e f = λ no. absurd cc
    by (Some Released) e f = λ _. inside is_sent h empty limit k f.low f.high ∙ ap (λ x. pick is_sent x (get no_ids k)) e ∙ get-empty nat_cmp k
