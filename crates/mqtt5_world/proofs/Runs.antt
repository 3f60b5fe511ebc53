-- Whole runs: what holds of every world that is reached.
use Rattle.std.proofs.Common.{◌≡◌, ℕ, ◌+◌, ◌*◌, ◌≤◌, Bool, true, false, ◌&&◌, List, [], ◌∷◌, ◌++◌, count_by, None, refl, sym, ap, subst, arith, add-zero, mul-le-mul_left}
use Rattle.std.specs.Ordering.{nat_cmp}
use Rattle.std.specs.FinMap.{get, get-empty}
use Rattle.std.specs.FinSet as set
use Rattle.mqtt5_base.specs.declared.quality.QoS.{QoS}
use Rattle.mqtt5_base.specs.declared.quality.QoS.TheVariants.{AtMostOnce, AtLeastOnce, ExactlyOnce}
use Rattle.mqtt5_publish.specs.declared.publish.Publish.{Publish}
use Rattle.mqtt5_inflight.proofs.Exports.{no_ids, Fits}
use Rattle.mqtt5_world.specs.declared.event.WorldEvent.{WorldEvent}
use Rattle.mqtt5_world.specs.declared.event.WorldEvent.TheVariants as events
use Rattle.mqtt5_world.specs.World.{World, start, happens, run_world, losses}
use Rattle.mqtt5_world.specs.Delivery.{IsClass, Token, Free}
use Rattle.mqtt5_world.proofs.Step.{Inv, SlotAllowed, AckedClass, Balance, one, sum_less, sum_none, is_sent, is_due, handed, accepted, waiting, stored, due, on_way}
use Rattle.mqtt5_world.proofs.Asks.{ask_step}
use Rattle.mqtt5_world.proofs.Arrivals.{up_step}
use Rattle.mqtt5_world.proofs.Returns.{down_step}
use Rattle.mqtt5_world.proofs.Losses.{Again, loss_step}

-- ---- the invariant

abbrev no_id : set.FinSet nat_cmp
no_id = set.empty

none_has : (k : ℕ) → set.contains no_id k ≡ false
none_has k = set.contains-empty nat_cmp k

none_in_use : (k : ℕ) → get no_ids k ≡ None
none_in_use k = get-empty nat_cmp k

pub inv_start : (limit : ℕ) → Inv (start limit)
inv_start limit =
    record {
      sound = (λ k. subst (Fits limit k) (sym (none_in_use k)) (tt {0}), tt {0});
      allowed = λ k. subst (SlotAllowed 0) (sym (none_in_use k)) (tt {0});
      waits = tt {0};
      tokens = λ k. subst (λ x. Token k x (set.contains no_id k) [] []) (sym (none_in_use k)) (subst (λ b. Token k None b [] []) (sym (none_has k)) Free);
      none = refl;
    }

pub inv_next : (w : World) (e : WorldEvent) → Inv w → Inv (happens w e)
inv_next w (events.Publish p) i = (ask_step w p i).inv
inv_next w events.Up i = (up_step w w.up refl i).inv
inv_next w events.Down i = (down_step w w.down refl i).inv
inv_next w (events.Loss m) i = (loss_step w m i).inv

pub inv_run : (es : List WorldEvent) (w : World) → Inv w → Inv (run_world es w)
inv_run [] w i = i
inv_run (e ∷ es) w i = inv_run es (happens w e) (inv_next w e i)

-- one run after another
pub run_append : (es fs : List WorldEvent) (w : World) → run_world (es ++ fs) w ≡ run_world fs (run_world es w)
run_append [] fs w = refl
run_append (e ∷ es) fs w = run_append es fs (happens w e)

pub losses_append : (es fs : List WorldEvent) → losses (es ++ fs) ≡ losses es + losses fs
losses_append [] fs = omega arith
losses_append (events.Publish p ∷ es) fs = losses_append es fs
losses_append (events.Up ∷ es) fs = losses_append es fs
losses_append (events.Down ∷ es) fs = losses_append es fs
losses_append (events.Loss m ∷ es) fs = let a = losses_append es fs in omega (arith, a)

-- ---- QoS 2

abbrev Twice : (Publish → Bool) → World → Type 0
Twice test w = handed test w + due ExactlyOnce test w + waiting test w ≡ accepted test w

twice_step : (test : Publish → Bool) (w w' : World) → Balance ExactlyOnce test w w' → Twice test w → Twice test w'
twice_step test w w' b t = let k = b.kept in omega (arith, k, t)

twice_next : (test : Publish → Bool) → AckedClass ExactlyOnce test → (w : World) (e : WorldEvent) → Inv w → Twice test w → Twice test (happens w e)
twice_next test c w (events.Publish p) i t = twice_step test w _ ((ask_step w p i).balance ExactlyOnce test c) t
twice_next test c w events.Up i t = twice_step test w _ ((up_step w w.up refl i).balance ExactlyOnce test c) t
twice_next test c w events.Down i t = twice_step test w _ ((down_step w w.down refl i).balance ExactlyOnce test c) t
twice_next test c w (events.Loss m) i t =
    let a = loss_step w m i in
    let h = ap (count_by test) a.handed in
    let g = ap (count_by test) a.accepted in
    let v = a.waiting test in
    let d = a.due_twice test c.class in
    omega (arith, h, g, v, d, t)

twice_run : (test : Publish → Bool) → AckedClass ExactlyOnce test → (es : List WorldEvent) (w : World) → Inv w → Twice test w → Twice test (run_world es w)
twice_run test c [] w i t = t
twice_run test c (e ∷ es) w i t = twice_run test c es (happens w e) (inv_next w e i) (twice_next test c w e i t)

-- ---- QoS 1, after so many losses

record Once (n : ℕ) (test : Publish → Bool) (w : World) : Type 0 where
  lower : accepted test w ≤ handed test w + due AtLeastOnce test w + waiting test w
  upper : handed test w + due AtLeastOnce test w + (n + 1) * waiting test w ≤ (n + 1) * accepted test w
  bounded : stored test w + waiting test w ≤ accepted test w

upper_step : (n h d v a h' d' v' a' : ℕ) → h' + d' + v' + a ≡ h + d + v + a' → v' + a ≤ v + a' → h + d + (n + 1) * v ≤ (n + 1) * a → h' + d' + (n + 1) * v' ≤ (n + 1) * a'
upper_step n h d v a h' d' v' a' kept spent upper = let m = mul-le-mul_left n spent in omega (arith, m)

upper_loss : (n h d v a s d' : ℕ) → d' ≤ s → s + v ≤ a → h + d + (n + 1) * v ≤ (n + 1) * a → h + d' + (n + 1 + 1) * v ≤ (n + 1 + 1) * a
upper_loss n h d v a s d' le bounded upper = omega arith

once_step : (n : ℕ) (test : Publish → Bool) (w w' : World) → Balance AtLeastOnce test w w' → Once n test w → Once n test w'
once_step n test w w' b o =
    record {
      lower = omega (arith, b.kept, o.lower);
      upper = upper_step n _ _ _ _ _ _ _ _ b.kept b.spent o.upper;
      bounded = omega (arith, b.bounded, o.bounded);
    }

one_and : (a b : Bool) → one (a && b) ≤ one a
one_and true true = omega arith
one_and true false = omega arith
one_and false b = omega arith

due_stored : (q : QoS) (test : Publish → Bool) (w : World) → due q test w ≤ stored test w
due_stored q test w = sum_less w.session.core.limit _ _ (λ j. one_and (is_sent test (get w.session.core.in_use j)) _)

once_loss : (n : ℕ) (test : Publish → Bool) → IsClass AtLeastOnce test → (w w' : World) → Again w w' → Once n test w → Once (n + 1) test w'
once_loss n test c w w' a o =
    let h = ap (count_by test) a.handed in
    let g = ap (count_by test) a.accepted in
    let d = due_stored AtLeastOnce test w' in
    let v = a.waiting test in
    let s = a.stored AtLeastOnce test c in
    let u = upper_loss n _ _ _ _ (stored test w) (due AtLeastOnce test w') (omega (arith, d, s)) o.bounded o.upper in
    let m = a.due_once test c in
    record {
      lower = omega (arith, h, g, v, m, o.lower);
      upper = rw (h, g, v) u;
      bounded = omega (arith, g, v, s, o.bounded);
    }

once_run : (n : ℕ) (test : Publish → Bool) → AckedClass AtLeastOnce test → (es : List WorldEvent) (w : World) → Inv w → Once n test w → Once (losses es + n) test (run_world es w)
once_run n test c [] w i o = subst (λ k. Once k test w) (omega arith) o
once_run n test c (events.Publish p ∷ es) w i o = once_run n test c es _ (inv_next w (events.Publish p) i) (once_step n test w _ ((ask_step w p i).balance AtLeastOnce test c) o)
once_run n test c (events.Up ∷ es) w i o = once_run n test c es _ (inv_next w events.Up i) (once_step n test w _ ((up_step w w.up refl i).balance AtLeastOnce test c) o)
once_run n test c (events.Down ∷ es) w i o = once_run n test c es _ (inv_next w events.Down i) (once_step n test w _ ((down_step w w.down refl i).balance AtLeastOnce test c) o)
once_run n test c (events.Loss m ∷ es) w i o =
    subst (λ k. Once k test (run_world es (happens w (events.Loss m)))) (omega arith)
    (once_run (n + 1) test c es _ (inv_next w (events.Loss m) i) (once_loss n test c.class w _ (loss_step w m i) o))

-- ---- QoS 0

abbrev Light : (Publish → Bool) → World → Type 0
Light test w = handed test w + on_way test w.up ≤ accepted test w

light_next : (test : Publish → Bool) → IsClass AtMostOnce test → (w : World) (e : WorldEvent) → Inv w → Light test w → Light test (happens w e)
light_next test c w (events.Publish p) i t = let e = (ask_step w p i).even test c in omega (arith, e, t)
light_next test c w events.Up i t = let e = (up_step w w.up refl i).even test c in omega (arith, e, t)
light_next test c w events.Down i t = let e = (down_step w w.down refl i).even test c in omega (arith, e, t)
light_next test c w (events.Loss m) i t =
    let a = loss_step w m i in
    let h = ap (count_by test) a.handed in
    let g = ap (count_by test) a.accepted in
    let n = a.none_light test c in
    omega (arith, h, g, n, t)

light_run : (test : Publish → Bool) → IsClass AtMostOnce test → (es : List WorldEvent) (w : World) → Inv w → Light test w → Light test (run_world es w)
light_run test c [] w i t = t
light_run test c (e ∷ es) w i t = light_run test c es (happens w e) (inv_next w e i) (light_next test c w e i t)

-- ---- from the start

none_due : (q : QoS) (test : Publish → Bool) (limit : ℕ) → due q test (start limit) ≡ 0
none_due q test limit = sum_none limit _ (λ j. ap (λ x. one (is_sent test x && is_due q (set.contains no_id j) [])) (none_in_use j))

none_stored : (test : Publish → Bool) (limit : ℕ) → stored test (start limit) ≡ 0
none_stored test limit = sum_none limit _ (λ j. ap (λ x. one (is_sent test x)) (none_in_use j))

-- of QoS 0
pub most : (test : Publish → Bool) → IsClass AtMostOnce test → (limit : ℕ) (es : List WorldEvent) → handed test (run_world es (start limit)) ≤ accepted test (run_world es (start limit))
most test c limit es = let l = light_run test c es (start limit) (inv_start limit) (omega arith) in omega (arith, l)

-- of QoS 1
once : (test : Publish → Bool) → IsClass AtLeastOnce test → (limit : ℕ) (es : List WorldEvent) → Once (losses es + 0) test (run_world es (start limit))
once test c limit es =
    let d = none_due AtLeastOnce test limit in
    let s = none_stored test limit in
    once_run 0 test (record { class = c; acked = refl }) es (start limit) (inv_start limit) (record { lower = omega arith; upper = omega (arith, d); bounded = omega (arith, s) })

pub least : (test : Publish → Bool) → IsClass AtLeastOnce test → (limit : ℕ) (es : List WorldEvent) → accepted test (run_world es (start limit)) ≤ handed test (run_world es (start limit)) + stored test (run_world es (start limit)) + waiting test (run_world es (start limit))
least test c limit es =
    let o = once test c limit es in
    let d = due_stored AtLeastOnce test (run_world es (start limit)) in
    omega (arith, o.lower, d)

pub each_loss : (test : Publish → Bool) → IsClass AtLeastOnce test → (limit : ℕ) (es : List WorldEvent) → handed test (run_world es (start limit)) ≤ (losses es + 1) * accepted test (run_world es (start limit))
each_loss test c limit es =
    let o = once test c limit es in
    let u = rw add-zero at o.upper in
    omega (arith, u)

-- of QoS 2
pub twice : (test : Publish → Bool) → IsClass ExactlyOnce test → (limit : ℕ) (es : List WorldEvent) → handed test (run_world es (start limit)) + due ExactlyOnce test (run_world es (start limit)) + waiting test (run_world es (start limit)) ≡ accepted test (run_world es (start limit))
twice test c limit es =
    let d = none_due ExactlyOnce test limit in
    twice_run test (record { class = c; acked = refl }) es (start limit) (inv_start limit) (omega (arith, d))
