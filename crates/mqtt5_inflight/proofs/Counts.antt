-- How many ids are in use, and how many requests a clean gives.
use Rattle.std.proofs.Common.{◌≡◌, ℕ, zero, suc, ◌+◌, ◌<◌, ◌≤◌, ⊎_elim, Bool, true, false, cond, List, length, Option, Some, None, refl, sym, ap, ◌∙◌, subst, arith}
use Rattle.std.proofs.lemmas.List.{length-append}
use Rattle.std.proofs.lemmas.Bool.{cases_lt}
use Rattle.std.specs.Prelude.{is_some}
use Rattle.std.specs.Cmp.{nat_cmp_total}
use Rattle.std.specs.FinMap.{get, len, insert, remove, len-insert, len-empty}
use Rattle.std.specs.Ordering.{nat_cmp}
use Rattle.mqtt5_inflight.specs.declared.slot.Slot.{Slot}
use Rattle.mqtt5_inflight.specs.declared.slot.Slot.TheVariants.{Sent, Released}
use Rattle.mqtt5_inflight.specs.declared.event.Request.{Request}
use Rattle.mqtt5_inflight.specs.InUse.{InUse, IsWithin}
use Rattle.mqtt5_inflight.specs.Paged.{map_below}
use Rattle.mqtt5_inflight.specs.Unacked.{by_id, publish_again, release_again, requests_of, slot_again}
use Rattle.mqtt5_inflight.proofs.Maps.{same, len_added, len_less}
use Rattle.mqtt5_inflight.proofs.Below.{get_below, get_past, len_below}
use Rattle.mqtt5_inflight.proofs.Within.{no_ids, Fits}
use Rattle.mqtt5_inflight.proofs.Marked.{len_again}
use Rattle.mqtt5_inflight.proofs.Parts.{is_sent, is_kept, with_slot, map_to, above, FreeFor, free_first, free_then, whole_map}

pub len_used : (m : InUse) (id : ℕ) (x y : Slot) → get m id ≡ Some x → len (insert m id y) ≡ len m
len_used m id x y e = len-insert nat_cmp_total m id y ∙ ap (λ b. cond b (len m) (len m + 1)) (ap is_some e)

pub len_free : (m : InUse) (id : ℕ) (y : Slot) → get m id ≡ None → len (insert m id y) ≡ len m + 1
len_free m id y e = len_added m id y e

pub len_removed : (m : InUse) (id : ℕ) (x : Slot) → get m id ≡ Some x → len (remove m id) + 1 ≡ len m
len_removed m id x e = len_less m id x e

-- ids in use lie in 1..=limit, so there are at most so many
pub len_within : (limit : ℕ) (h : InUse) → IsWithin limit h → len h ≤ limit
len_within limit h is = subst (λ m. len m ≤ limit) (sym whole) (len_below (get h) limit (free 0 (λ used. let low = is.low 0 used in omega arith)))
  where
    unused : (o : Option Slot) → (is_some o ≡ true → ⊥) → o ≡ None
    unused None no_use = refl
    unused (Some x) no_use = absurd (no_use refl)

    free : (q : ℕ) → (is_some (get h q) ≡ true → ⊥) → get h q ≡ None
    free q = unused (get h q)

    whole : h ≡ map_below (suc limit) (get h)
    whole = same h (map_below (suc limit) (get h)) (λ q. ⊎_elim
        (λ (low : q < suc limit). sym (get_below (get h) (suc limit) q low))
        (λ (high : suc limit ≤ q). free q (λ used. let most = is.high q used in omega arith) ∙ sym (get_past (get h) (suc limit) q high))
        (cases_lt q (suc limit)))

-- ---- what a clean gives

abbrev chosen : (Slot → Bool) → Option Slot → ℕ
chosen ok None = 0
chosen ok (Some x) = cond (ok x) 1 0

len_with : (ok : Slot → Bool) (id : ℕ) (x : Option Slot) (b : InUse) → FreeFor ok x (get b id) → len (with_slot ok id x b) ≡ len b + chosen ok x
len_with ok id None b free = omega arith
len_with ok id (Some x) b free = by (ok x) free
  where
    by : (t : Bool) → (t ≡ true → get b id ≡ None) → len (cond t (insert b id (slot_again x)) b) ≡ len b + cond t 1 0
    by true free = len_free b id (slot_again x) (free refl)
    by false free = omega arith

len_to : (ok : Slot → Bool) (f : ℕ → Option Slot → List Request) → ((id : ℕ) (x : Option Slot) → length (f id x) ≡ chosen ok x) → (h b : InUse) → ((k : ℕ) → FreeFor ok (get h k) (get b k)) → (n : ℕ) → len (map_to ok n h b) ≡ len b + length (by_id f n h)
len_to ok f one h b free zero = omega arith
len_to ok f one h b free (suc n) =
    let here = len_with ok (suc n) (get h (suc n)) (map_to ok n h b) (subst (FreeFor ok (get h (suc n))) (sym (above ok h b n (suc n) (omega arith))) (free (suc n))) in
    let rest = len_to ok f one h b free n in
    let some = one (suc n) (get h (suc n)) in
    let both = length-append (by_id f n h) (f (suc n) (get h (suc n))) in
    omega arith

one_sent : (id : ℕ) (x : Option Slot) → length (publish_again id x) ≡ chosen is_sent x
one_sent id None = refl
one_sent id (Some (Sent p)) = refl
one_sent id (Some Released) = refl

one_kept : (id : ℕ) (x : Option Slot) → length (release_again id x) ≡ chosen is_kept x
one_kept id None = refl
one_kept id (Some (Sent p)) = refl
one_kept id (Some Released) = refl

pub requests_len : (limit : ℕ) (h : InUse) → ((k : ℕ) → Fits limit k (get h k)) → length (requests_of limit h) ≡ len h
requests_len n h fit =
    let sent = len_to is_sent publish_again one_sent h no_ids (free_first h) n in
    let kept = len_to is_kept release_again one_kept h (map_to is_sent n h no_ids) (λ k. free_then n h k (fit k)) n in
    let none : len no_ids ≡ 0 = len-empty nat_cmp _ in
    let whole = ap len (whole_map n h fit) ∙ len_again h in
    let both = length-append (by_id publish_again n h) (by_id release_again n h) in
    omega arith
