-- What is said of a world, counted over its lists; and that a content is a class.
use Rattle.std.proofs.Common.{◌≡◌, ◌≢◌, ℕ, zero, suc, ◌+◌, ◌*◌, ◌≤◌, Bool, true, false, cond, ◌&&◌, List, [], ◌∷◌, count_by, Option, Some, None, refl, sym, ap, ◌∙◌, subst, arith}
use Rattle.std.specs.Prelude.{not}
use Rattle.std.specs.Bool.{Decides}
use Rattle.std.specs.Option.{option_to_list}
use Rattle.std.specs.FinMap.{get}
use Rattle.std.specs.FinSet as set
use Rattle.std.proofs.lemmas.List.Sums.{sum_by-append}
use Rattle.mqtt5_base.specs.declared.quality.QoS.{QoS}
use Rattle.mqtt5_base.specs.declared.quality.QoS.TheVariants.{AtMostOnce, AtLeastOnce, ExactlyOnce}
use Rattle.mqtt5_publish.specs.declared.publish.Publish.{Publish}
use Rattle.mqtt5_publish.specs.contracts.publish.PublishPartialEq.TheImpl as publish
use Rattle.mqtt5_publish.specs.contracts.publish.PublishEq.TheImpl.Laws as reflexive
use Rattle.mqtt5_publish.specs.Sound.{publish_sound}
use Rattle.mqtt5_inflight.specs.declared.slot.Slot.{Slot}
use Rattle.mqtt5_inflight.specs.declared.slot.Slot.TheVariants.{Sent, Released}
use Rattle.mqtt5_inflight.specs.InUse.{InUse, awaiting_ack}
use Rattle.mqtt5_inflight.specs.Unacked.{by_id}
use Rattle.mqtt5_world.specs.declared.event.WorldEvent.{WorldEvent}
use Rattle.mqtt5_world.specs.declared.event.Report.{Report}
use Rattle.mqtt5_world.specs.World.{World, start, run_world, losses}
use Rattle.mqtt5_world.specs.Happens.{IsReport}
use Rattle.mqtt5_world.specs.Delivery.{IsClass, stored_in, stored_without, waiting_in, has_content, times}
use Rattle.mqtt5_world.proofs.Step.{one, is_sent, passes, sum_to, sum_same, sum_less, stored, due, waiting, count_push}
use Rattle.mqtt5_world.proofs.Runs.{most, least, each_loss, twice}

-- ---- lists of publishes as sums over ids

count_ids : (test : Publish → Bool) (f : ℕ → Option Slot → List Publish) (n : ℕ) (h : InUse) → count_by test (by_id f n h) ≡ sum_to n (λ id. count_by test (f id (get h id)))
count_ids test f zero h = refl
count_ids test f (suc n) h =
    let a = sum_by-append (λ x. cond (test x) 1 0) (by_id f n h) (f (suc n) (get h (suc n))) in
    let rest = count_ids test f n h in
    omega (arith, a, rest)

count_one : (test : Publish → Bool) (p : Publish) → count_by test (p ∷ []) ≡ one (test p)
count_one test p = let a = count_push test [] p in omega (arith, a)

count_slot : (test : Publish → Bool) (x : Option Slot) → count_by test (option_to_list (awaiting_ack x)) ≡ one (is_sent test x)
count_slot test None = refl
count_slot test (Some Released) = refl
count_slot test (Some (Sent p)) = count_one test p

count_unless : (test : Publish → Bool) (x : Option Slot) (b : Bool) → count_by test (cond b [] (option_to_list (awaiting_ack x))) ≡ one (is_sent test x && not b)
count_unless test None true = refl
count_unless test None false = refl
count_unless test (Some Released) true = refl
count_unless test (Some Released) false = refl
count_unless test (Some (Sent p)) true = none (test p)
  where
    none : (b : Bool) → 0 ≡ one (b && false)
    none true = refl
    none false = refl
count_unless test (Some (Sent p)) false = count_one test p ∙ all (test p)
  where
    all : (b : Bool) → one b ≡ one (b && true)
    all true = refl
    all false = refl

stored_is : (test : Publish → Bool) (w : World) → count_by test (stored_in w.session.core) ≡ stored test w
stored_is test w =
    count_ids test (λ id x. option_to_list (awaiting_ack x)) w.session.core.limit w.session.core.in_use
    ∙ sum_same w.session.core.limit _ _ (λ j _ _. count_slot test (get w.session.core.in_use j))

without_is : (test : Publish → Bool) (w : World) → count_by test (stored_without w.broker.ids w.session.core) ≡ due ExactlyOnce test w
without_is test w =
    count_ids test (λ id x. cond (set.contains w.broker.ids id) [] (option_to_list (awaiting_ack x))) w.session.core.limit w.session.core.in_use
    ∙ sum_same w.session.core.limit _ _ (λ j _ _. count_unless test (get w.session.core.in_use j) (set.contains w.broker.ids j))

waiting_is : (test : Publish → Bool) (w : World) → count_by test (waiting_in w.session.core) ≡ waiting test w
waiting_is test w = by w.session.core.waiting
  where
    by : (o : Option Publish) → count_by test (option_to_list o) ≡ one (passes test o)
    by None = refl
    by (Some p) = count_one test p

one_less : (a b : Bool) → one (a && b) ≤ one a
one_less true true = omega arith
one_less true false = omega arith
one_less false b = omega arith

without_less : (test : Publish → Bool) (w : World) → due ExactlyOnce test w ≤ stored test w
without_less test w = sum_less w.session.core.limit _ _ (λ j. one_less (is_sent test (get w.session.core.in_use j)) (not (set.contains w.broker.ids j)))

-- ---- the counts of a class

abbrev pub played : ℕ → List WorldEvent → World
played limit es = run_world es (start limit)

module _ (test : Publish → Bool) (limit : ℕ) (es : List WorldEvent) where
  abbrev all_handed : ℕ
  all_handed = count_by test (played limit es).broker.handed

  abbrev all_accepted : ℕ
  all_accepted = count_by test (played limit es).accepted

  abbrev all_stored : ℕ
  all_stored = count_by test (stored_in (played limit es).session.core)

  abbrev all_waiting : ℕ
  all_waiting = count_by test (waiting_in (played limit es).session.core)

  pub ledger : IsClass ExactlyOnce test → all_handed + all_waiting + count_by test (stored_without (played limit es).broker.ids (played limit es).session.core) ≡ all_accepted
  ledger c =
      let t = twice test c limit es in
      let d = without_is test (played limit es) in
      let v = waiting_is test (played limit es) in
      omega (arith, t, d, v)

  pub at_most : (q : QoS) → q ≢ AtLeastOnce → IsClass q test → all_handed ≤ all_accepted
  at_most AtMostOnce ne c = most test c limit es
  at_most AtLeastOnce ne c = absurd (ne refl)
  at_most ExactlyOnce ne c = let l = ledger c in omega (arith, l)

  pub at_least : (q : QoS) → q ≢ AtMostOnce → IsClass q test → all_accepted ≤ all_handed + all_stored + all_waiting
  at_least AtMostOnce ne c = absurd (ne refl)
  at_least AtLeastOnce ne c =
      let l = least test c limit es in
      let s = stored_is test (played limit es) in
      let v = waiting_is test (played limit es) in
      omega (arith, l, s, v)
  at_least ExactlyOnce ne c =
      let t = twice test c limit es in
      let u = without_less test (played limit es) in
      let s = stored_is test (played limit es) in
      let v = waiting_is test (played limit es) in
      omega (arith, t, u, s, v)

  pub for_each_loss : IsClass AtLeastOnce test → all_handed ≤ (losses es + 1) * all_accepted
  for_each_loss c = each_loss test c limit es

-- ---- contents

pub content_class : (c : Publish) → IsClass c.qos (has_content c)
content_class c = record { of_qos = λ p h. ap (λ (x : Publish). x.qos) (publish_sound (record p { pkid = 0; dup = false }) c h); blind = λ p id. refl; blind_again = λ p. refl }

pub content_decides : (c p : Publish) → Decides (has_content c p) (record p { pkid = 0; dup = false } ≡ c)
content_decides c p = (publish_sound (record p { pkid = 0; dup = false }) c, λ e. subst (λ x. publish.eq-value.it x c ≡ true) (sym e) (reflexive.laws-law.refl c))

pub class_of : (c : Publish) (q : QoS) → c.qos ≡ q → IsClass q (has_content c)
class_of c q e = subst (λ q. IsClass q (has_content c)) e (content_class c)

module _ (limit : ℕ) (es : List WorldEvent) (r : Report) (is : IsReport r (played limit es)) (c : Publish) where
  pub report_most : c.qos ≢ AtLeastOnce → times c r.handed.items ≤ times c r.accepted.items
  report_most ne = rw (is.handed, is.accepted) (at_most (has_content c) limit es c.qos ne (content_class c))

  pub report_least : c.qos ≢ AtMostOnce → times c r.accepted.items ≤ times c r.handed.items + times c (stored_in r.state.core) + times c (waiting_in r.state.core)
  report_least ne = rw (is.handed, is.accepted, is.state) (at_least (has_content c) limit es c.qos ne (content_class c))

  pub report_losses : c.qos ≡ AtLeastOnce → times c r.handed.items ≤ (losses es + 1) * times c r.accepted.items
  report_losses e = rw (is.handed, is.accepted) (for_each_loss (has_content c) limit es (class_of c AtLeastOnce e))

  pub report_ledger : c.qos ≡ ExactlyOnce → times c r.handed.items + times c (waiting_in r.state.core) + times c (stored_without (played limit es).broker.ids r.state.core) ≡ times c r.accepted.items
  report_ledger e = rw (is.handed, is.accepted, is.state) (ledger (has_content c) limit es (class_of c ExactlyOnce e))

  pub report_once : c.qos ≡ ExactlyOnce → times c (stored_in r.state.core) ≡ 0 → times c (waiting_in r.state.core) ≡ 0 → times c r.handed.items ≡ times c r.accepted.items
  report_once e none_stored none_waiting =
      let most = report_most (λ f. let g : ExactlyOnce ≡ AtLeastOnce = sym e ∙ f in absurd cc) in
      let least = report_least (λ f. let g : ExactlyOnce ≡ AtMostOnce = sym e ∙ f in absurd cc) in
      omega (arith, most, least, none_stored, none_waiting)
