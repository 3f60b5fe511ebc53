-- What a client stores counts the same, whatever the dup of what awaits an ack.
use Rattle.std.proofs.Common.{◌≡◌, ℕ, zero, suc, ◌+◌, Bool, true, false, cond, List, [], count_by, Option, Some, None, refl, sym, ap, ap₂, ◌∙◌}
use Rattle.std.specs.Prelude.{option_map}
use Rattle.std.specs.Option.{option_to_list}
use Rattle.std.specs.Ordering.{nat_cmp}
use Rattle.std.specs.FinMap.{get}
use Rattle.std.specs.FinSet as set
use Rattle.std.proofs.lemmas.List.Sums.{sum_by-append}
use Rattle.mqtt5_publish.specs.declared.publish.Publish.{Publish}
use Rattle.mqtt5_inflight.specs.declared.slot.Slot.{Slot}
use Rattle.mqtt5_inflight.specs.declared.slot.Slot.TheVariants.{Sent, Released}
use Rattle.mqtt5_inflight.specs.InUse.{InUse, awaiting_ack}
use Rattle.mqtt5_inflight.specs.Unacked.{again, by_id, slot_again, in_use_again}
use Rattle.mqtt5_inflight.proofs.Exports.{get_again}
use Rattle.mqtt5_session.specs.Session.{Core}
use Rattle.mqtt5_session.specs.Resuming.{with_dup}
use Rattle.mqtt5_world.specs.Delivery.{stored_in, stored_without}

module _ (test : Publish → Bool) (blind : (p : Publish) → test (again p) ≡ test p) where
  count_again : (f : ℕ → Option Slot → List Publish) → ((id : ℕ) (x : Option Slot) → count_by test (f id (option_map slot_again x)) ≡ count_by test (f id x)) → (n : ℕ) (h : InUse) → count_by test (by_id f n (in_use_again h)) ≡ count_by test (by_id f n h)
  count_again f same zero h = refl
  count_again f same (suc n) h =
      sum_by-append (λ x. cond (test x) 1 0) (by_id f n (in_use_again h)) (f (suc n) (get (in_use_again h) (suc n)))
      ∙ ap₂ (λ a b. a + b) (count_again f same n h) (ap (λ x. count_by test (f (suc n) x)) (get_again h (suc n)) ∙ same (suc n) (get h (suc n)))
      ∙ sym (sum_by-append (λ x. cond (test x) 1 0) (by_id f n h) (f (suc n) (get h (suc n))))

  one_again : (x : Option Slot) → count_by test (option_to_list (awaiting_ack (option_map slot_again x))) ≡ count_by test (option_to_list (awaiting_ack x))
  one_again None = refl
  one_again (Some Released) = refl
  one_again (Some (Sent p)) = ap (λ b. 0 + cond b 1 0) (blind p)

  unless_again : (b : Bool) (x : Option Slot) → count_by test (cond b [] (option_to_list (awaiting_ack (option_map slot_again x)))) ≡ count_by test (cond b [] (option_to_list (awaiting_ack x)))
  unless_again true x = refl
  unless_again false x = one_again x

  stored_again : (c : Core) → count_by test (stored_in (with_dup c)) ≡ count_by test (stored_in c)
  stored_again c = count_again (λ id x. option_to_list (awaiting_ack x)) (λ id x. one_again x) c.limit c.in_use

  without_again : (ids : set.FinSet nat_cmp) (c : Core) → count_by test (stored_without ids (with_dup c)) ≡ count_by test (stored_without ids c)
  without_again ids c = count_again (λ id x. cond (set.contains ids id) [] (option_to_list (awaiting_ack x))) (λ id x. unless_again (set.contains ids id) x) c.limit c.in_use

  pub stored_same : (c d : Core) → with_dup c ≡ with_dup d → count_by test (stored_in c) ≡ count_by test (stored_in d)
  stored_same c d e = sym (stored_again c) ∙ ap (λ x. count_by test (stored_in x)) e ∙ stored_again d

  pub without_same : (ids : set.FinSet nat_cmp) (c d : Core) → with_dup c ≡ with_dup d → count_by test (stored_without ids c) ≡ count_by test (stored_without ids d)
  without_same ids c d e = sym (without_again ids c) ∙ ap (λ x. count_by test (stored_without ids x)) e ∙ without_again ids d
