-- How often a class was handed on, once four rounds have settled all.
use Rattle.std.proofs.Common.{◌≡◌, ◌≢◌, ℕ, zero, suc, ◌+◌, ◌*◌, ◌≤◌, Bool, true, false, cond, List, [], ◌∷◌, ◌++◌, count_by, Option, Some, None, refl, sym, ap, ap₂, ◌∙◌, subst, arith}
use Rattle.std.specs.Option.{option_to_list}
use Rattle.std.specs.Ordering.{nat_cmp}
use Rattle.std.specs.FinMap.{get}
use Rattle.std.specs.FinSet as set
use Rattle.mqtt5_base.specs.declared.quality.QoS.{QoS}
use Rattle.mqtt5_base.specs.declared.quality.QoS.TheVariants.{AtMostOnce, AtLeastOnce, ExactlyOnce}
use Rattle.mqtt5_publish.specs.declared.publish.Publish.{Publish}
use Rattle.mqtt5_inflight.specs.declared.slot.Slot.{Slot}
use Rattle.mqtt5_inflight.specs.InUse.{InUse, awaiting_ack}
use Rattle.mqtt5_inflight.specs.Unacked.{by_id, publish_again, release_again, requests_of}
use Rattle.mqtt5_session.specs.Session.{Core, Session}
use Rattle.mqtt5_world.specs.declared.event.WorldEvent.{WorldEvent}
use Rattle.mqtt5_world.specs.declared.event.WorldEvent.TheVariants as events
use Rattle.mqtt5_world.specs.declared.event.Report.{Report}
use Rattle.mqtt5_world.specs.Happens.{IsReport}
use Rattle.mqtt5_world.specs.World.{World, happens, run_world, start, losses}
use Rattle.mqtt5_world.specs.Delivery.{IsClass, stored_in, stored_without, waiting_in, has_content, times}
use Rattle.mqtt5_world.proofs.Step.{Inv, handed, accepted, on_way}
use Rattle.mqtt5_world.proofs.Asks.{ask_step}
use Rattle.mqtt5_world.proofs.Arrivals.{up_step}
use Rattle.mqtt5_world.proofs.Returns.{down_step}
use Rattle.mqtt5_world.proofs.Runs.{inv_start, inv_next}
use Rattle.mqtt5_world.proofs.Contents.{ledger, at_most, at_least, for_each_loss, class_of}
use Rattle.mqtt5_progress.specs.Progress.{settle, deliveries, IsIdle, Settled}
use Rattle.mqtt5_progress.proofs.Settled.{whole, settled_four, deliveries_alone, same_losses, settle_unasked}

-- ---- a core that is idle has nothing to send

none_by_id : {A : Type 0} (f : ℕ → Option Slot → List A) → ((id : ℕ) → f id None ≡ []) → (h : InUse) → ((id : ℕ) → get h id ≡ None) → (n : ℕ) → by_id f n h ≡ []
none_by_id f gives h none zero = refl
none_by_id f gives h none (suc n) = ap₂ (λ xs ys. xs ++ ys) (none_by_id f gives h none n) (ap (f (suc n)) (none (suc n)) ∙ gives (suc n))

none_stored : (c : Core) → IsIdle c → stored_in c ≡ []
none_stored c i = none_by_id (λ id slot. option_to_list (awaiting_ack slot)) (λ id. refl) c.in_use i.in_use c.limit

none_without : (ids : set.FinSet nat_cmp) (c : Core) → IsIdle c → stored_without ids c ≡ []
none_without ids c i = none_by_id (λ id slot. cond (set.contains ids id) [] (option_to_list (awaiting_ack slot))) (λ id. by (set.contains ids id)) c.in_use i.in_use c.limit
  where
    by : (b : Bool) → cond b [] (option_to_list (awaiting_ack None)) ≡ []
    by true = refl
    by false = refl

none_waiting : (c : Core) → IsIdle c → waiting_in c ≡ []
none_waiting c i = ap option_to_list i.waiting

-- so nothing is given back
pub nothing_back : (c : Core) → IsIdle c → requests_of c.limit c.in_use ≡ []
nothing_back c i = ap₂ (λ xs ys. xs ++ ys) (none_by_id publish_again (λ id. refl) c.in_use i.in_use c.limit) (none_by_id release_again (λ id. refl) c.in_use i.in_use c.limit)

-- ---- after four rounds

module _ (test : Publish → Bool) (limit : ℕ) (es : List WorldEvent) where
  abbrev before : World
  before = run_world es (start limit)

  abbrev all : List WorldEvent
  all = es ++ deliveries 4 before

  same_accepted : accepted test (settle 4 before) ≡ accepted test before
  same_accepted = ap (count_by test) (settle_unasked 4 before).accepted

  same_world : run_world all (start limit) ≡ settle 4 before
  same_world = sym (whole limit es)

  idle : IsIdle (settle 4 before).session.core
  idle = (settled_four limit es).core

  pub exactly : IsClass ExactlyOnce test → handed test (settle 4 before) ≡ accepted test before
  exactly c =
      let l : handed test (settle 4 before) + count_by test (waiting_in (settle 4 before).session.core) + count_by test (stored_without (settle 4 before).broker.ids (settle 4 before).session.core) ≡ accepted test (settle 4 before) =
      subst (λ (w : World). handed test w + count_by test (waiting_in w.session.core) + count_by test (stored_without w.broker.ids w.session.core) ≡ accepted test w) same_world (ledger test limit all c) in
      let v = ap (count_by test) (none_waiting _ idle) in
      let s = ap (count_by test) (none_without (settle 4 before).broker.ids _ idle) in
      let a = same_accepted in
      omega (arith, l, v, s, a)

  pub least : IsClass AtLeastOnce test → accepted test before ≤ handed test (settle 4 before)
  least c =
      let l : accepted test (settle 4 before) ≤ handed test (settle 4 before) + count_by test (stored_in (settle 4 before).session.core) + count_by test (waiting_in (settle 4 before).session.core) =
      subst (λ (w : World). accepted test w ≤ handed test w + count_by test (stored_in w.session.core) + count_by test (waiting_in w.session.core)) same_world (at_least test limit all AtLeastOnce (λ e. absurd cc) c) in
      let v = ap (count_by test) (none_waiting _ idle) in
      let s = ap (count_by test) (none_stored _ idle) in
      let a = same_accepted in
      omega (arith, l, v, s, a)

  most : IsClass AtMostOnce test → handed test (settle 4 before) ≤ accepted test before
  most c =
      let l : handed test (settle 4 before) ≤ accepted test (settle 4 before) = subst (λ (w : World). handed test w ≤ accepted test w) same_world (at_most test limit all AtMostOnce (λ e. absurd cc) c) in
      let a = same_accepted in
      omega (arith, l, a)

  pub again : IsClass AtLeastOnce test → handed test (settle 4 before) ≤ (losses es + 1) * accepted test before
  again c =
      let l : handed test (settle 4 before) ≤ (losses all + 1) * accepted test (settle 4 before) =
      subst (λ (w : World). handed test w ≤ (losses all + 1) * accepted test w) same_world (for_each_loss test limit all c) in
      subst (λ n. handed test (settle 4 before) ≤ (n + 1) * accepted test before) (same_losses es (deliveries 4 before) (deliveries_alone 4 before))
      (subst (λ n. handed test (settle 4 before) ≤ (losses all + 1) * n) same_accepted l)

-- ---- without a loss

-- of QoS 0: what was accepted was handed on or is on its way up
abbrev Even : (Publish → Bool) → World → Type 0
Even test w = handed test w + on_way test w.up ≡ accepted test w

module _ (test : Publish → Bool) (c : IsClass AtMostOnce test) where
  even_run : (es : List WorldEvent) (w : World) → losses es ≡ 0 → Inv w → Even test w → Even test (run_world es w)
  even_run [] w none i h = h
  even_run (events.Publish p ∷ es) w none i h = even_run es _ none (inv_next w (events.Publish p) i) (let e = (ask_step w p i).even test c in omega (arith, e, h))
  even_run (events.Up ∷ es) w none i h = even_run es _ none (inv_next w events.Up i) (let e = (up_step w w.up refl i).even test c in omega (arith, e, h))
  even_run (events.Down ∷ es) w none i h = even_run es _ none (inv_next w events.Down i) (let e = (down_step w w.down refl i).even test c in omega (arith, e, h))
  even_run (events.Loss m ∷ es) w none i h = absurd (omega (arith, none))

  light : (limit : ℕ) (es : List WorldEvent) → losses es ≡ 0 → handed test (settle 4 (run_world es (start limit))) ≡ accepted test (run_world es (start limit))
  light limit es none =
      let w = run_world es (start limit) in
      let all = es ++ deliveries 4 w in
      let h = even_run all (start limit) (same_losses es (deliveries 4 w) (deliveries_alone 4 w) ∙ none) (inv_start limit) refl in
      let e : Even test (settle 4 w) = subst (Even test) (same_world test limit es) h in
      let n = ap (on_way test) (settled_four limit es).up in
      let a = same_accepted test limit es in
      omega (arith, e, n, a)

pub without_loss : (q : QoS) (test : Publish → Bool) → IsClass q test → (limit : ℕ) (es : List WorldEvent) → losses es ≡ 0 → handed test (settle 4 (run_world es (start limit))) ≡ accepted test (run_world es (start limit))
without_loss AtMostOnce test c limit es none = light test c limit es none
without_loss AtLeastOnce test c limit es none =
    let l = least test limit es c in
    let a : handed test (settle 4 (run_world es (start limit))) ≤ (0 + 1) * accepted test (run_world es (start limit)) = subst (λ n. handed test (settle 4 (run_world es (start limit))) ≤ (n + 1) * accepted test (run_world es (start limit))) none (again test limit es c) in
    omega (arith, l, a)
without_loss ExactlyOnce test c limit es none = exactly test limit es c

-- ---- in a report

module _ (limit : ℕ) (es : List WorldEvent) (r : Report) (is : IsReport r (settle 4 (run_world es (start limit)))) where
  pub report_accepted : r.accepted.items ≡ (run_world es (start limit)).accepted
  report_accepted = is.accepted ∙ (settle_unasked 4 (run_world es (start limit))).accepted

  pub report_refused : r.refused.items ≡ (run_world es (start limit)).refused
  report_refused = is.refused ∙ (settle_unasked 4 (run_world es (start limit))).refused

  pub report_idle : IsIdle r.state.core
  report_idle = subst (λ (s : Session). IsIdle s.core) (sym is.state) (settled_four limit es).core

  -- the counts of a content
  abbrev Said : (ℕ → ℕ → Type 0) → Publish → Type 0
  Said P c = P (times c r.handed.items) (times c r.accepted.items)

  said : (P : ℕ → ℕ → Type 0) (c : Publish) → P (handed (has_content c) (settle 4 (run_world es (start limit)))) (accepted (has_content c) (run_world es (start limit))) → Said P c
  said P c h = subst (λ n. P (times c r.handed.items) n) (sym (ap (times c) report_accepted)) (subst (λ n. P n (times c (run_world es (start limit)).accepted)) (sym (ap (times c) is.handed)) h)

  pub report_exactly : (c : Publish) → c.qos ≡ ExactlyOnce → Said (λ h a. h ≡ a) c
  report_exactly c e = said (λ h a. h ≡ a) c (exactly (has_content c) limit es (class_of c ExactlyOnce e))

  pub report_least : (c : Publish) → c.qos ≡ AtLeastOnce → Said (λ h a. a ≤ h) c
  report_least c e = said (λ h a. a ≤ h) c (least (has_content c) limit es (class_of c AtLeastOnce e))

  pub report_again : (c : Publish) → c.qos ≡ AtLeastOnce → Said (λ h a. h ≤ (losses es + 1) * a) c
  report_again c e = said (λ h a. h ≤ (losses es + 1) * a) c (again (has_content c) limit es (class_of c AtLeastOnce e))

  pub report_most : (c : Publish) → c.qos ≡ AtMostOnce → Said (λ h a. h ≤ a) c
  report_most c e = said (λ h a. h ≤ a) c (most (has_content c) limit es (class_of c AtMostOnce e))

  pub report_without : (c : Publish) → losses es ≡ 0 → Said (λ h a. h ≡ a) c
  report_without c none = said (λ h a. h ≡ a) c (without_loss c.qos (has_content c) (class_of c c.qos refl) limit es none)
