-- What stands in the places once `dup` of each publish is set.
use Rattle.std.proofs.Common.{◌≡◌, ℕ, zero, suc, ◌+◌, Bool, true, cond, List, [], ◌∷◌, get_or, map, Option, Some, None, is_some, unwrap_or, count_by, MutBor, refl, sym, ap, ◌∙◌, subst}
use Rattle.std.proofs.lemmas.List.Sums.{sum_by-cons}
use Rattle.std.specs.Prelude.{option_map}
use Rattle.std.specs.FinMap.{get}
use Rattle.slab.specs.Slab.{CalledAt, RetainsFrom}
use Rattle.mqtt5_inflight.specs.declared.slot.Slot.{Slot}
use Rattle.mqtt5_inflight.specs.declared.slot.Slot.TheVariants.{Released}
use Rattle.mqtt5_inflight.specs.Unacked.{slot_again, in_use_again}
use Rattle.mqtt5_inflight.specs.Paged.{Places}
use Rattle.mqtt5_inflight.specs.Placed.{slot_in, held_in, IsPlaced}
use Rattle.mqtt5_inflight.proofs.Maps.{same, get-map_values}
use Rattle.mqtt5_inflight.proofs.Marked.{get_again}

-- a closure that keeps each value, changes it by g and stays as it was
pub retained_maps : {T F : Type 0} (step : F → ℕ → MutBor T → Bool → MutBor T → F → Type 0) (g : T → T) (f : F) → ((key : ℕ) (old : T) (keep : Bool) (new : T) (next : F) → CalledAt step f key old keep new next → (keep ≡ true) × (new ≡ g old) × (next ≡ f)) → (key : ℕ) (old kept : List (Option T)) → RetainsFrom step f key old kept → kept ≡ map (option_map g) old
retained_maps step g f calls key [] kept r = r
retained_maps step g f calls key (None ∷ rest) kept r = r.1 ∙ ap (λ l. None ∷ l) (retained_maps step g f calls (key + 1) rest r.0 r.2)
retained_maps step g f calls key (Some x ∷ rest) kept r =
    let does = calls key x r.0 r.1 r.2 r.3 in
    r.5 ∙ (λ i. cond (does.0 i) (Some (does.1 i)) None ∷ retained_maps step g f calls (key + 1) rest r.4 (subst (λ n. RetainsFrom step n (key + 1) rest r.4) does.2 r.6) i)

module _ (g : Slot → Slot) where
  abbrev changed : List (Option Slot) → List (Option Slot)
  changed slots = map (option_map g) slots

  pub at_changed : (slots : List (Option Slot)) (place : ℕ) → get_or (changed slots) place None ≡ option_map g (get_or slots place None)
  at_changed [] place = refl
  at_changed (x ∷ xs) zero = refl
  at_changed (x ∷ xs) (suc place) = at_changed xs place

  some_changed : (o : Option Slot) → is_some (option_map g o) ≡ is_some o
  some_changed None = refl
  some_changed (Some x) = refl

  pub count_changed : (slots : List (Option Slot)) → count_by is_some (changed slots) ≡ count_by is_some slots
  count_changed [] = refl
  count_changed (x ∷ xs) =
      let one = λ (o : Option Slot). cond (is_some o) 1 0 in
      sum_by-cons one (option_map g x) (changed xs) ∙ (λ i. cond (some_changed x i) 1 0 + count_changed xs i) ∙ sym (sum_by-cons one x xs)

  pub placed_changed : (slots : List (Option Slot)) (places : Places) → IsPlaced slots places → IsPlaced (changed slots) places
  placed_changed slots places is = record {
    stands = λ id place e. ap is_some (at_changed slots place) ∙ some_changed (get_or slots place None) ∙ is.stands id place e;
    apart = is.apart;
    counted = count_changed slots ∙ is.counted;
  }

pub held_marked : (slots : List (Option Slot)) (places : Places) → held_in (map (option_map slot_again) slots) places ≡ in_use_again (held_in slots places)
held_marked slots places = same _ _ (λ q.
    get-map_values (slot_in (map (option_map slot_again) slots)) places q ∙ by (get places q)
    ∙ sym (get_again (held_in slots places) q ∙ ap (option_map slot_again) (get-map_values (slot_in slots) places q)))
  where
    again_or : (o : Option Slot) → unwrap_or (option_map slot_again o) Released ≡ slot_again (unwrap_or o Released)
    again_or None = refl
    again_or (Some x) = refl

    by : (o : Option ℕ) → option_map (slot_in (map (option_map slot_again) slots)) o ≡ option_map slot_again (option_map (slot_in slots) o)
    by None = refl
    by (Some p) = ap Some (ap (λ o. unwrap_or o Released) (at_changed slot_again slots p) ∙ again_or (get_or slots p None))
