-- A packet that arrives at the client.
use Rattle.std.proofs.Common.{◌≡◌, ◌≢◌, ℕ, Bool, true, false, ◌&&◌, ◌==◌, List, [], ◌∷◌, filter, Option, Some, None, Ok, refl, sym, ap, ◌∙◌, subst, arith, append-nil, eq-eqb}
use Rattle.std.proofs.lemmas.Bool.{eqb-true}
use Rattle.std.specs.FinMap.{get, insert, remove}
use Rattle.std.specs.FinSet as set
use Rattle.mqtt5_base.specs.declared.quality.QoS.{QoS}
use Rattle.mqtt5_base.specs.declared.quality.QoS.TheVariants.{AtMostOnce, AtLeastOnce, ExactlyOnce}
use Rattle.mqtt5_publish.specs.declared.publish.Publish.{Publish}
use Rattle.mqtt5_publish.specs.declared.puback.PubAck.{PubAck}
use Rattle.mqtt5_publish.specs.declared.puback.PubAckReason.TheVariants.{Success}
use Rattle.mqtt5_publish.specs.declared.pubrec.PubRec.{PubRec}
use Rattle.mqtt5_publish.specs.declared.pubcomp.PubComp.{PubComp}
use Rattle.mqtt5_codec.specs.declared.packet.Packet.{Packet}
use Rattle.mqtt5_codec.specs.declared.packet.Packet.TheVariants as packets
use Rattle.mqtt5_inflight.specs.declared.slot.Slot.{Slot}
use Rattle.mqtt5_inflight.specs.declared.slot.Slot.TheVariants.{Sent, Released}
use Rattle.mqtt5_inflight.specs.declared.event.Event.{Event}
use Rattle.mqtt5_inflight.specs.declared.event.Outgoing.TheVariants as outgoing
use Rattle.mqtt5_inflight.proofs.Exports.{IsUsed}
use Rattle.mqtt5_session.specs.Freeing.{IsCounted}
use Rattle.mqtt5_session.specs.Session.{Session, Answer, with_event}
use Rattle.mqtt5_session.specs.Requests.{release_of}
use Rattle.mqtt5_session.specs.Packets.{on_packet, with_incoming, freed_for, on_puback, on_received, on_pubrec, on_pubcomp, is_taken}
use Rattle.mqtt5_session.specs.Packets as session
use Rattle.mqtt5_session.proofs.Exports.{choose, Sound, inc_sound}
use Rattle.mqtt5_world.specs.World.{World, after_reply, returns}
use Rattle.mqtt5_world.specs.Delivery.{is_acked, is_token_up, is_token_down, Free, PubRelUp}
use Rattle.mqtt5_world.proofs.Places.{view_of, Place, place, TokenAt, IsTokenOf, then_turn, set_slot, unset_slot, push_up, pop_down, publish_token, more_up}
use Rattle.mqtt5_world.proofs.Tokens.{ack_down, rec_down, comp_down, comes_down, place_down, stored_token}
use Rattle.mqtt5_world.proofs.Step.{Inv, Step, change_step, AckedClass, WaitsAllowed, one, is_sent, is_due, passes, on_way, way_push, of_other, of_acked, and_no}
use Rattle.mqtt5_world.proofs.Asks.{refused_step, due_new}
use Rattle.mqtt5_world.proofs.Arrivals.{used}

-- a publish that waits is acked
pub counted_acked : (q : QoS) → q ≢ AtMostOnce → is_acked q ≡ true
counted_acked AtMostOnce ne = absurd (ne refl)
counted_acked AtLeastOnce ne = refl
counted_acked ExactlyOnce ne = refl

-- the world after the session took the packet in front
abbrev after : World → List Packet → Answer → World
after w rest a = after_reply (record w { down = rest }) a.0 a.1

-- nothing that is said of the id is due any more
abbrev Settled : Option Slot → Bool → Type 0
Settled slot has = (q : QoS) (test : Publish → Bool) → AckedClass q test → (is_sent test slot && is_due q has []) ≡ false

-- ---- an id is made free, and what waits for it goes out

module _ (w : World) (i : Inv w) (events : List Event) (k : ℕ) (rest : List Packet) (x : Packet) (slot : Slot) (own : IsTokenOf is_token_down k x) (d : w.down ≡ x ∷ rest) (at : place (view_of w) k ≡ record { slot = Some slot; has = false; up = []; down = x ∷ [] }) (settled : Settled (Some slot) false) where
  abbrev hearing : Session
  hearing = record w.session { events = events }

  is : IsUsed w.session.core.limit k slot
  is = used w i k slot (ap (λ (p : Place). p.slot) at)

  -- none goes out
  alone_step : Sound (session.takes (record hearing { core = record w.session.core { in_use = remove w.session.core.in_use k } }) 0).1.core → Step w (after w rest (session.takes (record hearing { core = record w.session.core { in_use = remove w.session.core.in_use k } }) 0))
  alone_step sound =
      let t1 = pop_down x rest own d at in
      let t2 = unset_slot t1.after in
      change_step w _ k _ _ i
      (record {
        stays = record { sound = sound; limit = refl; max = refl; none = i.none; waits = i.waits };
        turn = more_up (append-nil w.up) (then_turn t1 t2);
        low = is.low;
        high = is.high;
        token = Free;
        allowed = tt {0};
        ledger = λ q test c. let n = ap one (settled q test c) in record { kept = omega (arith, n); spent = omega arith; bounded = omega arith };
        even = λ test c. let n = ap (on_way test) (append-nil w.up) in omega (arith, n);
      })

  -- the publish that waits goes out
  abbrev going : Publish → Answer
  going p = (
    Ok (Some (packets.Publish p)),
    record (with_event hearing (outgoing.Publish k)) {
      core = record w.session.core { in_use = insert w.session.core.in_use k (Sent p); waiting = None };
      collision_pings = 0;
      last_incoming = 0;
    },
  )

  going_step : (p : Publish) → w.session.core.waiting ≡ Some p → p.pkid ≡ k → Sound (going p).1.core → Step w (after w rest (going p))
  going_step p e mine sound =
      let acked : is_acked p.qos ≡ true = counted_acked p.qos (subst IsCounted e i.sound.1) in
      let y : Packet = packets.Publish p in
      let t1 = pop_down x rest own d at in
      let t2 = set_slot (Sent p) t1.after in
      let t3 = push_up y (subst (λ j. IsTokenOf is_token_up j y) mine (publish_token p acked)) t2.after in
      change_step w _ k _ _ i
      (record {
        stays = record { sound = sound; limit = refl; max = refl; none = i.none; waits = tt {0} };
        turn = then_turn t1 (then_turn t2 t3);
        low = is.low;
        high = is.high;
        token = stored_token k p p.qos refl acked;
        allowed = subst (WaitsAllowed w.session.core.alias_max) e i.waits;
        ledger = λ q test c.
            let n = ap one (settled q test c) in
            let o = ap (λ o. one (passes test o)) e in
            let g = due_new c p y [] in
            record { kept = omega (arith, n, o, g); spent = omega arith; bounded = omega (arith, o) };
        even = λ test c.
            let n = way_push test w.up y in
            let z = ap one (of_acked c p acked) in
            omega (arith, n, z);
      })

  freed_step : (o : Option Publish) → w.session.core.waiting ≡ o → Sound (freed_for o hearing k 0).1.core → Step w (after w rest (freed_for o hearing k 0))
  freed_step None e sound = alone_step sound
  freed_step (Some p) e sound =
      choose (λ a. Sound a.1.core → Step w (after w rest a)) (p.pkid == k) (going p) (session.takes (record hearing { core = record w.session.core { in_use = remove w.session.core.in_use k } }) 0)
      (λ same. going_step p e (eqb-true p.pkid k same))
      (λ other. alone_step)
      sound

-- ---- acks

puback_step : (w : World) (a : PubAck) (rest : List Packet) → w.down ≡ packets.PubAck a ∷ rest → Inv w → Sound (on_packet w.session (packets.PubAck a) 0).1.core → Step w (after w rest (on_packet w.session (packets.PubAck a) 0))
unfolding on_packet
puback_step w a rest d i sound =
    subst (λ s. Sound (on_puback s (with_incoming w.session x) k 0).1.core → Step w (after w rest (on_puback s (with_incoming w.session x) k 0))) (sym f.1)
    (freed_step w i (with_incoming w.session x).events k rest x (Sent f.0) (λ j. refl) d at (settled f.0 f.2) w.session.core.waiting refl)
    sound
  where
    k : ℕ
    k = a.pkid

    x : Packet
    x = packets.PubAck a

    front : place (view_of w) k ≡ record (place (view_of w) k) { down = x ∷ filter (is_token_down k) rest }
    front = place_down (view_of w) x rest k (eq-eqb k k refl) d

    f : (p : Publish) × (get w.session.core.in_use k ≡ Some (Sent p)) × (p.qos ≡ AtLeastOnce) × (set.contains w.broker.ids k ≡ false) × (filter (is_token_up k) w.up ≡ []) × (filter (is_token_down k) rest ≡ [])
    f = ack_down (subst (TokenAt k) front (i.tokens k))

    at : place (view_of w) k ≡ record { slot = Some (Sent f.0); has = false; up = []; down = x ∷ [] }
    at = front ∙ (λ n. record { slot = f.1 n; has = f.3 n; up = f.4 n; down = x ∷ f.5 n })

    settled : (p : Publish) → p.qos ≡ AtLeastOnce → Settled (Some (Sent p)) false
    settled p e AtMostOnce test c = and_no (test p)
    settled p e AtLeastOnce test c = and_no (test p)
    settled p e ExactlyOnce test c = ap (λ b. b && true) (of_other AtLeastOnce c p e (λ y. absurd cc))

pubcomp_step : (w : World) (a : PubComp) (rest : List Packet) → w.down ≡ packets.PubComp a ∷ rest → Inv w → Sound (on_packet w.session (packets.PubComp a) 0).1.core → Step w (after w rest (on_packet w.session (packets.PubComp a) 0))
unfolding on_packet
pubcomp_step w a rest d i sound =
    subst (λ s. Sound (on_pubcomp s (with_incoming w.session x) k 0).1.core → Step w (after w rest (on_pubcomp s (with_incoming w.session x) k 0))) (sym f.0)
    (freed_step w i (with_incoming w.session x).events k rest x Released (λ j. refl) d at (λ q test c. refl) w.session.core.waiting refl)
    sound
  where
    k : ℕ
    k = a.pkid

    x : Packet
    x = packets.PubComp a

    front : place (view_of w) k ≡ record (place (view_of w) k) { down = x ∷ filter (is_token_down k) rest }
    front = place_down (view_of w) x rest k (eq-eqb k k refl) d

    f : (get w.session.core.in_use k ≡ Some Released) × (set.contains w.broker.ids k ≡ false) × (filter (is_token_up k) w.up ≡ []) × (filter (is_token_down k) rest ≡ [])
    f = comp_down (subst (TokenAt k) front (i.tokens k))

    at : place (view_of w) k ≡ record { slot = Some Released; has = false; up = []; down = x ∷ [] }
    at = front ∙ (λ n. record { slot = f.0 n; has = f.1 n; up = f.2 n; down = x ∷ f.3 n })

-- the publish was taken: it is released
released_step : (w : World) (i : Inv w) (events : List Event) (k : ℕ) (rest : List Packet) (x : Packet) (p : Publish) → IsTokenOf is_token_down k x → w.down ≡ x ∷ rest → place (view_of w) k ≡ record { slot = Some (Sent p); has = true; up = []; down = x ∷ [] } → Sound (on_received true (record w.session { events = events }) k 0).1.core → Step w (after w rest (on_received true (record w.session { events = events }) k 0))
released_step w i events k rest x p own d at sound =
    let is : IsUsed w.session.core.limit k (Sent p) = used w i k (Sent p) (ap (λ (a : Place). a.slot) at) in
    let t1 = pop_down x rest own d at in
    let t2 = set_slot Released t1.after in
    let t3 = push_up (release_of k) (λ j. refl) t2.after in
    change_step w _ k _ _ i
    (record {
      stays = record { sound = sound; limit = refl; max = refl; none = i.none; waits = i.waits };
      turn = then_turn t1 (then_turn t2 t3);
      low = is.low;
      high = is.high;
      token = PubRelUp true;
      allowed = tt {0};
      ledger = λ q test c. let n = ap one (none_due q test c) in record { kept = omega (arith, n); spent = omega arith; bounded = omega arith };
      even = λ test c. let n = way_push test w.up (release_of k) in omega (arith, n);
    })
  where
    none_due : Settled (Some (Sent p)) true
    none_due AtMostOnce test c = and_no (test p)
    none_due AtLeastOnce test c = and_no (test p)
    none_due ExactlyOnce test c = and_no (test p)

pubrec_step : (w : World) (a : PubRec) (rest : List Packet) → w.down ≡ packets.PubRec a ∷ rest → Inv w → Sound (on_packet w.session (packets.PubRec a) 0).1.core → Step w (after w rest (on_packet w.session (packets.PubRec a) 0))
unfolding on_packet
pubrec_step w a rest d i sound =
    subst (λ s. Sound (on_pubrec s (with_incoming w.session x) a.reason k 0).1.core → Step w (after w rest (on_pubrec s (with_incoming w.session x) a.reason k 0))) (sym f.1)
    (subst (λ b. Sound (on_received b (with_incoming w.session x) k 0).1.core → Step w (after w rest (on_received b (with_incoming w.session x) k 0))) (sym (ap is_taken f.6))
    (released_step w i (with_incoming w.session x).events k rest x f.0 (λ j. refl) d at))
    sound
  where
    k : ℕ
    k = a.pkid

    x : Packet
    x = packets.PubRec a

    front : place (view_of w) k ≡ record (place (view_of w) k) { down = x ∷ filter (is_token_down k) rest }
    front = place_down (view_of w) x rest k (eq-eqb k k refl) d

    f : (p : Publish) × (get w.session.core.in_use k ≡ Some (Sent p)) × (p.qos ≡ ExactlyOnce) × (set.contains w.broker.ids k ≡ true) × (filter (is_token_up k) w.up ≡ []) × (filter (is_token_down k) rest ≡ []) × (a.reason ≡ Success)
    f = rec_down (subst (TokenAt k) front (i.tokens k))

    at : place (view_of w) k ≡ record { slot = Some (Sent f.0); has = true; up = []; down = x ∷ [] }
    at = front ∙ (λ n. record { slot = f.1 n; has = f.3 n; up = f.4 n; down = x ∷ f.5 n })

pub down_step : (w : World) (ds : List Packet) → w.down ≡ ds → Inv w → Step w (returns w ds)
down_step w [] d i = refused_step w w.refused i
down_step w (packets.PubAck a ∷ rest) d i = puback_step w a rest d i (inc_sound w.session (packets.PubAck a) 0 i.sound)
down_step w (packets.PubRec a ∷ rest) d i = pubrec_step w a rest d i (inc_sound w.session (packets.PubRec a) 0 i.sound)
down_step w (packets.PubComp a ∷ rest) d i = pubcomp_step w a rest d i (inc_sound w.session (packets.PubComp a) 0 i.sound)
down_step w (other ∷ rest) d i = absurd (comes_down (subst (TokenAt 0) (place_down (view_of w) other rest 0 refl d) (i.tokens 0)))
