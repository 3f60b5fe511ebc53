-- A packet that arrives at the broker.
use Rattle.std.proofs.Common.{◌≡◌, ℕ, ◌+◌, Bool, true, false, cond, ◌&&◌, ◌==◌, List, [], ◌∷◌, ◌++◌, filter, count_by, Option, Some, refl, sym, ap, ◌∙◌, subst, arith, append-nil, eq-eqb}
use Rattle.std.specs.FinMap.{get}
use Rattle.std.specs.FinSet as set
use Rattle.mqtt5_base.specs.declared.quality.QoS.{QoS}
use Rattle.mqtt5_base.specs.declared.quality.QoS.TheVariants.{AtMostOnce, AtLeastOnce, ExactlyOnce}
use Rattle.mqtt5_publish.specs.declared.publish.Publish.{Publish}
use Rattle.mqtt5_publish.specs.declared.pubrel.PubRel.{PubRel}
use Rattle.mqtt5_codec.specs.declared.packet.Packet.{Packet}
use Rattle.mqtt5_codec.specs.declared.packet.Packet.TheVariants as packets
use Rattle.mqtt5_inflight.specs.declared.slot.Slot.{Slot}
use Rattle.mqtt5_inflight.specs.declared.slot.Slot.TheVariants.{Sent, Released}
use Rattle.mqtt5_inflight.proofs.Exports.{Fits, IsUsed}
use Rattle.mqtt5_session.specs.Packets.{puback_of, pubrec_of, pubcomp_of}
use Rattle.mqtt5_world.specs.Broker.{serve, serve_publish, reason_for}
use Rattle.mqtt5_world.specs.World.{World, after_serving, arrives}
use Rattle.mqtt5_world.specs.Delivery.{is_acked, is_token_up, is_token_down, PubAckDown, PubRecDown, PubCompDown}
use Rattle.mqtt5_world.proofs.Places.{view_of, place, TokenAt, then_turn, add_id, take_id, push_down, pop_up, publish_token, token_here, front_none}
use Rattle.mqtt5_world.proofs.Tokens.{once_up, twice_up, release_up, goes_up, place_up}
use Rattle.mqtt5_world.proofs.Step.{Inv, Step, Stays, change_step, quiet_step, AckedClass, SlotAllowed, one, is_due, accepted, handed, waiting, on_way, way_front, count_push, of_other, of_acked, and_no, and_yes}
use Rattle.mqtt5_world.proofs.Asks.{refused_step}

-- what is said of the slot of an id in use
pub used : (w : World) → Inv w → (k : ℕ) (x : Slot) → get w.session.core.in_use k ≡ Some x → IsUsed w.session.core.limit k x
used w i k x e = subst (Fits w.session.core.limit k) e (i.sound.0 k)

pub allowed_slot : (w : World) → Inv w → (k : ℕ) (x : Option Slot) → get w.session.core.in_use k ≡ x → SlotAllowed w.session.core.alias_max x
allowed_slot w i k x e = subst (SlotAllowed w.session.core.alias_max) e (i.allowed k)

-- the session doesn't change
stays : (w w' : World) → Inv w → w'.session ≡ w.session → w'.faults ≡ w.faults → Stays w w'
stays w w' i e f =
    subst (λ s. Stays w (record w' { session = s })) (sym e) (record { sound = i.sound; limit = refl; max = refl; none = f ∙ i.none; waits = i.waits })

publish_step : (w : World) (p : Publish) (rest : List Packet) (q : QoS) → p.qos ≡ q → w.up ≡ packets.Publish p ∷ rest → Inv w → Step w (after_serving (record w { up = rest }) (serve_publish q w.broker p))
publish_step w p rest AtMostOnce e u i =
    quiet_step w _ i
    (record {
      stays = stays w _ i refl refl;
      same = λ j. (λ n. record (place (view_of w) j) {
        up = (sym (ap (filter (is_token_up j)) u ∙ front_none is_token_up j (packets.Publish p) rest (ap (λ q. is_acked q && (p.pkid == j)) e))) n;
        down = ap (filter (is_token_down j)) (append-nil w.down) n;
      });
      kept = λ q test c.
          let a = count_push test w.broker.handed p in
          let z = ap one (of_other AtMostOnce c p e (λ x. let h : is_acked q ≡ false = ap is_acked x in let y = c.acked in absurd cc)) in
          omega (arith, a, z);
      spent = λ q test c. omega arith;
      even = λ test c.
          let a = count_push test w.broker.handed p in
          let f = way_front test w.up (packets.Publish p) rest u in
          omega (arith, a, f);
    })
publish_step w p rest AtLeastOnce e u i =
    let t1 = pop_up x rest (publish_token p (ap is_acked e)) u at in
    let t2 = push_down (puback_of k) (λ j. refl) t1.after in
    change_step w _ k _ _ i
    (record {
      stays = stays w _ i refl refl;
      turn = then_turn t1 t2;
      low = is.low;
      high = is.high;
      token = PubAckDown p e;
      allowed = allowed_slot w i k (Some (Sent p)) f.0;
      ledger = λ q test c. record { kept = ledger q test c; spent = omega arith; bounded = omega arith };
      even = λ test c.
          let a = count_push test w.broker.handed p in
          let n = way_front test w.up x rest u in
          omega (arith, a, n);
    })
  where
    k : ℕ
    k = p.pkid

    x : Packet
    x = packets.Publish p

    front : place (view_of w) k ≡ record (place (view_of w) k) { up = x ∷ filter (is_token_up k) rest }
    front = place_up (view_of w) x rest k (token_here is_token_up k x (publish_token p (ap is_acked e))) u

    f : (get w.session.core.in_use k ≡ Some (Sent p)) × (set.contains w.broker.ids k ≡ false) × (filter (is_token_up k) rest ≡ []) × (filter (is_token_down k) w.down ≡ [])
    f = once_up e (subst (TokenAt k) front (i.tokens k))

    at : place (view_of w) k ≡ record { slot = Some (Sent p); has = false; up = x ∷ []; down = [] }
    at = front ∙ (λ n. record { slot = f.0 n; has = f.1 n; up = x ∷ f.2 n; down = f.3 n })

    is : IsUsed w.session.core.limit k (Sent p)
    is = used w i k (Sent p) f.0

    ledger : (q : QoS) (test : Publish → Bool) → AckedClass q test → count_by test (w.broker.handed ++ p ∷ []) + one (test p && is_due q false []) + waiting test w + accepted test w ≡ handed test w + one (test p && is_due q false (x ∷ [])) + waiting test w + accepted test w
    ledger AtMostOnce test c = let h = c.acked in absurd cc
    ledger AtLeastOnce test c =
        let a = count_push test w.broker.handed p in
        let y = ap one (and_yes (test p)) in
        let n = ap one (and_no (test p)) in
        omega (arith, a, y, n)
    ledger ExactlyOnce test c =
        let a = count_push test w.broker.handed p in
        let z = ap one (of_other AtLeastOnce c p e (λ y. absurd cc)) in
        let b = ap (λ b. one (b && true)) (of_other AtLeastOnce c p e (λ y. absurd cc)) in
        omega (arith, a, z, b)
publish_step w p rest ExactlyOnce e u i =
    let t1 = pop_up x rest (publish_token p (ap is_acked e)) u at in
    let t2 = add_id t1.after in
    let t3 = push_down (pubrec_of k) (λ j. refl) t2.after in
    change_step w _ k _ _ i
    (record {
      stays = stays w _ i refl refl;
      turn = then_turn t1 (then_turn t2 t3);
      low = is.low;
      high = is.high;
      token = PubRecDown p e;
      allowed = allowed_slot w i k (Some (Sent p)) f.0;
      ledger = λ q test c. record { kept = ledger q test c (set.contains w.broker.ids k); spent = omega arith; bounded = omega arith };
      even = λ test c. even test (of_acked c p (ap is_acked e)) (set.contains w.broker.ids k);
    })
  where
    k : ℕ
    k = p.pkid

    x : Packet
    x = packets.Publish p

    has : Bool
    has = set.contains w.broker.ids k

    front : place (view_of w) k ≡ record (place (view_of w) k) { up = x ∷ filter (is_token_up k) rest }
    front = place_up (view_of w) x rest k (token_here is_token_up k x (publish_token p (ap is_acked e))) u

    f : (get w.session.core.in_use k ≡ Some (Sent p)) × (filter (is_token_up k) rest ≡ []) × (filter (is_token_down k) w.down ≡ [])
    f = twice_up e (subst (TokenAt k) front (i.tokens k))

    at : place (view_of w) k ≡ record { slot = Some (Sent p); has = has; up = x ∷ []; down = [] }
    at = front ∙ (λ n. record { slot = f.0 n; has = has; up = x ∷ f.1 n; down = f.2 n })

    is : IsUsed w.session.core.limit k (Sent p)
    is = used w i k (Sent p) f.0

    even : (test : Publish → Bool) → test p ≡ false → (b : Bool) → count_by test (cond b w.broker.handed (w.broker.handed ++ p ∷ [])) + on_way test rest + accepted test w ≡ handed test w + on_way test w.up + accepted test w
    even test none true = let n = way_front test w.up x rest u in let z = ap one none in omega (arith, n, z)
    even test none false = let a = count_push test w.broker.handed p in let n = way_front test w.up x rest u in let z = ap one none in omega (arith, a, n, z)

    ledger : (q : QoS) (test : Publish → Bool) → AckedClass q test → (b : Bool) → count_by test (cond b w.broker.handed (w.broker.handed ++ p ∷ [])) + one (test p && is_due q true []) + waiting test w + accepted test w ≡ handed test w + one (test p && is_due q b (x ∷ [])) + waiting test w + accepted test w
    ledger AtMostOnce test c b = let h = c.acked in absurd cc
    ledger AtLeastOnce test c b = let z = of_other ExactlyOnce c p e (λ y. absurd cc) in by b (ap one z) (ap (λ b. one (b && true)) z) (ap (λ b. one (b && false)) z)
      where
        by : (b : Bool) → one (test p) ≡ 0 → one (test p && true) ≡ 0 → one (test p && false) ≡ 0 → count_by test (cond b w.broker.handed (w.broker.handed ++ p ∷ [])) + one (test p && false) + waiting test w + accepted test w ≡ handed test w + one (test p && true) + waiting test w + accepted test w
        by true z y n = omega (arith, y, n)
        by false z y n = let a = count_push test w.broker.handed p in omega (arith, a, z, y, n)
    ledger ExactlyOnce test c true = omega arith
    ledger ExactlyOnce test c false =
        let a = count_push test w.broker.handed p in
        let y = ap one (and_yes (test p)) in
        let n = ap one (and_no (test p)) in
        omega (arith, a, y, n)

release_step : (w : World) (a : PubRel) (rest : List Packet) → w.up ≡ packets.PubRel a ∷ rest → Inv w → Step w (after_serving (record w { up = rest }) (serve w.broker (packets.PubRel a)))
release_step w a rest u i =
    let t1 = pop_up x rest (λ j. refl) u at in
    let t2 = take_id t1.after in
    let t3 = push_down (pubcomp_of k (reason_for has)) (λ j. refl) t2.after in
    change_step w _ k _ _ i
    (record {
      stays = stays w _ i refl refl;
      turn = then_turn t1 (then_turn t2 t3);
      low = is.low;
      high = is.high;
      token = PubCompDown has;
      allowed = tt {0};
      ledger = λ q test c. record { kept = refl; spent = omega arith; bounded = omega arith };
      even = λ test c. let n = way_front test w.up x rest u in omega (arith, n);
    })
  where
    k : ℕ
    k = a.pkid

    x : Packet
    x = packets.PubRel a

    has : Bool
    has = set.contains w.broker.ids k

    front : place (view_of w) k ≡ record (place (view_of w) k) { up = x ∷ filter (is_token_up k) rest }
    front = place_up (view_of w) x rest k (eq-eqb k k refl) u

    f : (get w.session.core.in_use k ≡ Some Released) × (filter (is_token_up k) rest ≡ []) × (filter (is_token_down k) w.down ≡ [])
    f = release_up (subst (TokenAt k) front (i.tokens k))

    at : place (view_of w) k ≡ record { slot = Some Released; has = has; up = x ∷ []; down = [] }
    at = front ∙ (λ n. record { slot = f.0 n; has = has; up = x ∷ f.1 n; down = f.2 n })

    is : IsUsed w.session.core.limit k Released
    is = used w i k Released f.0

pub up_step : (w : World) (us : List Packet) → w.up ≡ us → Inv w → Step w (arrives w us)
up_step w [] u i = refused_step w w.refused i
up_step w (packets.Publish p ∷ rest) u i = publish_step w p rest p.qos refl u i
up_step w (packets.PubRel a ∷ rest) u i = release_step w a rest u i
up_step w (other ∷ rest) u i = absurd (goes_up (subst (TokenAt 0) (place_up (view_of w) other rest 0 refl u) (i.tokens 0)))
