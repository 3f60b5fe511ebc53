-- The ids in use once all are sent again.
use Rattle.std.proofs.Common.{◌≡◌, ℕ, zero, suc, Bool, true, false, cond, List, ◌++◌, Option, Some, None, refl, sym, ap, ap₂, ◌∙◌, subst}
use Rattle.std.specs.Prelude.{option_map}
use Rattle.std.specs.Ordering.{nat_cmp, eq_by_cmp}
use Rattle.std.specs.Cmp.{nat_cmp_total}
use Rattle.std.specs.FinMap.{get, insert, remove, len, get-insert, get-remove}
use Rattle.mqtt5_inflight.specs.declared.slot.Slot.{Slot}
use Rattle.mqtt5_inflight.specs.declared.slot.Slot.TheVariants.{Sent, Released}
use Rattle.mqtt5_inflight.specs.InUse.{InUse, IsWithin}
use Rattle.mqtt5_inflight.specs.Placed.{map_values}
use Rattle.mqtt5_inflight.specs.Unacked.{slot_again, in_use_again, by_id}
use Rattle.mqtt5_inflight.proofs.Maps.{same, get-map_values, len-map_values}
use Rattle.mqtt5_inflight.proofs.Within.{Fits, fits, within_fits}

pub slot_twice : (x : Slot) → slot_again (slot_again x) ≡ slot_again x
slot_twice (Sent p) = refl
slot_twice Released = refl

option_twice : (x : Option Slot) → option_map slot_again (option_map slot_again x) ≡ option_map slot_again x
option_twice None = refl
option_twice (Some x) = ap Some (slot_twice x)

again_values : (h : InUse) → in_use_again h ≡ map_values slot_again h
unfolding in_use_again map_values
again_values h = refl

-- what is known of an id then
pub get_again : (h : InUse) (k : ℕ) → get (in_use_again h) k ≡ option_map slot_again (get h k)
get_again h k = ap (λ m. get m k) (again_values h) ∙ get-map_values slot_again h k

pub again_twice : (h : InUse) → in_use_again (in_use_again h) ≡ in_use_again h
again_twice h = same _ _ (λ k. get_again (in_use_again h) k ∙ ap (option_map slot_again) (get_again h k) ∙ option_twice (get h k) ∙ sym (get_again h k))

-- the same ids are in use
pub len_again : (h : InUse) → len (in_use_again h) ≡ len h
len_again h = ap len (again_values h) ∙ len-map_values slot_again h

-- an id is put in, or taken out
pub again_insert : (h : InUse) (id : ℕ) (x : Slot) → in_use_again (insert h id x) ≡ insert (in_use_again h) id (slot_again x)
again_insert h id x = same _ _ (λ k.
    get_again (insert h id x) k ∙ ap (option_map slot_again) (get-insert nat_cmp_total h id x k) ∙ by (eq_by_cmp nat_cmp k id) (get h k)
    ∙ sym (get-insert nat_cmp_total (in_use_again h) id (slot_again x) k ∙ ap (cond (eq_by_cmp nat_cmp k id) (Some (slot_again x))) (get_again h k)))
  where
    by : (b : Bool) (o : Option Slot) → option_map slot_again (cond b (Some x) o) ≡ cond b (Some (slot_again x)) (option_map slot_again o)
    by true o = refl
    by false o = refl

pub again_remove : (h : InUse) (id : ℕ) → in_use_again (remove h id) ≡ remove (in_use_again h) id
again_remove h id = same _ _ (λ k.
    get_again (remove h id) k ∙ ap (option_map slot_again) (get-remove nat_cmp_total h id k) ∙ by (eq_by_cmp nat_cmp k id) (get h k)
    ∙ sym (get-remove nat_cmp_total (in_use_again h) id k ∙ ap (cond (eq_by_cmp nat_cmp k id) None) (get_again h k)))
  where
    by : (b : Bool) (o : Option Slot) → option_map slot_again (cond b None o) ≡ cond b None (option_map slot_again o)
    by true o = refl
    by false o = refl

-- what the ids give, where that is the same of a publish with dup
pub by_id_again : {A : Type 0} (f : ℕ → Option Slot → List A) → ((id : ℕ) (x : Option Slot) → f id (option_map slot_again x) ≡ f id x) → (n : ℕ) (h : InUse) → by_id f n (in_use_again h) ≡ by_id f n h
by_id_again f blind zero h = refl
by_id_again f blind (suc n) h = ap₂ (λ xs ys. xs ++ ys) (by_id_again f blind n h) (ap (f (suc n)) (get_again h (suc n)) ∙ blind (suc n) (get h (suc n)))

-- the ids stay within the limit, and publishes under their own ids
pub fits_again : (limit : ℕ) (h : InUse) → ((k : ℕ) → Fits limit k (get h k)) → (k : ℕ) → Fits limit k (get (in_use_again h) k)
fits_again limit h fit k = subst (Fits limit k) (sym (get_again h k)) (by (get h k) (fit k))
  where
    by : (x : Option Slot) → Fits limit k x → Fits limit k (option_map slot_again x)
    by None f = f
    by (Some Released) f = f
    by (Some (Sent p)) f = record { low = f.low; high = f.high; own = f.own }

pub within_again : (limit : ℕ) (h : InUse) → IsWithin limit h → IsWithin limit (in_use_again h)
within_again limit h is = within_fits limit (in_use_again h) (fits_again limit h (fits limit h is))
