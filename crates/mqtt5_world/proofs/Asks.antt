-- A publish that is asked for.
use Rattle.std.proofs.Common.{◌≡◌, ℕ, ◌<◌, Bool, true, false, ◌&&◌, List, [], ◌∷◌, ◌++◌, filter, Option, Some, None, Ok, refl, ap, ◌∙◌, subst, arith, append-nil, ◌==◌}
use Rattle.std.specs.FinMap.{get}
use Rattle.mqtt5_base.specs.declared.quality.QoS.{QoS}
use Rattle.mqtt5_base.specs.declared.quality.QoS.TheVariants.{AtMostOnce, AtLeastOnce, ExactlyOnce}
use Rattle.mqtt5_publish.specs.declared.publish.Publish.{Publish}
use Rattle.mqtt5_codec.specs.declared.packet.Packet.{Packet}
use Rattle.mqtt5_codec.specs.declared.packet.Packet.TheVariants as packets
use Rattle.mqtt5_inflight.specs.declared.slot.Slot.TheVariants.{Sent}
use Rattle.mqtt5_inflight.specs.declared.event.Request.TheVariants as requests
use Rattle.mqtt5_inflight.specs.declared.event.Outgoing.TheVariants as outgoing
use Rattle.mqtt5_inflight.specs.declared.error.StateError.{StateError}
use Rattle.mqtt5_session.specs.Session.{Answer}
use Rattle.mqtt5_session.specs.Requests.{on_request, Verdict, Refuse, Wait, Store, out_acked, out_once, out_publish, unless, over_maximum, alias_fault, id_for, last_after, with_event_at}
use Rattle.mqtt5_session.proofs.Exports.{Judges, judges, Sound, out_sound, id_positive}
use Rattle.mqtt5_world.specs.World.{World, after_request, asks}
use Rattle.mqtt5_world.specs.Delivery.{is_acked, is_token_up}
use Rattle.mqtt5_world.proofs.Places.{View, view_of, place, TokenAt, then_turn, set_slot, push_up, publish_token, back_none}
use Rattle.mqtt5_world.proofs.Tokens.{none_free, stored_token}
use Rattle.mqtt5_world.proofs.Step.{Inv, Step, change_step, quiet_step, AckedClass, one, passes, is_due, on_way, way_push, count_push, of_other, of_acked, and_yes}

-- nothing but the refusals changes
pub refused_step : (w : World) (rs : List (Publish × StateError)) → Inv w → Step w (record w { refused = rs })
refused_step w rs i =
    quiet_step w (record w { refused = rs }) i
    (record {
      stays = record { sound = i.sound; limit = refl; max = refl; none = i.none; waits = i.waits };
      same = λ j. refl;
      kept = λ q test c. refl;
      spent = λ q test c. omega arith;
      even = λ test c. refl;
    })

-- an alias that isn't refused is within the maximum
allowed_by : (max : ℕ) (o : Option ℕ) → alias_fault max o ≡ None → o ≡ None
allowed_by max None e = refl
allowed_by max (Some a) e = absurd cc

-- a free id has nothing
free_place : (v : View) (k : ℕ) → TokenAt k (place v k) → get v.in_use k ≡ None → place v k ≡ record { slot = None; has = false; up = []; down = [] }
free_place v k t e =
    let at : TokenAt k (record (place v k) { slot = None }) = subst (λ x. TokenAt k (record (place v k) { slot = x })) e t in
    let n = none_free at in
    λ i. record { slot = e i; has = n.0 i; up = n.1 i; down = n.2 i }

-- a publish that was just stored is due
is_due_new : (q : QoS) (x : Packet) (xs : List Packet) → is_acked q ≡ true → is_due q false (x ∷ xs) ≡ true
is_due_new AtMostOnce x xs e = absurd cc
is_due_new AtLeastOnce x xs e = refl
is_due_new ExactlyOnce x xs e = refl

pub due_new : {q : QoS} {test : Publish → Bool} → AckedClass q test → (p : Publish) (x : Packet) (xs : List Packet) → one (test p && is_due q false (x ∷ xs)) ≡ one (test p)
due_new {q = q} {test = test} c p x xs = ap (λ b. one (test p && b)) (is_due_new q x xs c.acked) ∙ ap one (and_yes (test p))

module _ (w : World) (i : Inv w) (p : Publish) (id last : ℕ) (low : 0 < id) (acked : is_acked p.qos ≡ true) where
  abbrev with_id : Publish
  with_id = record p { pkid = id }

  identified_step : (v : Verdict) → Judges w.session.core with_id v → Sound (out_acked v w.session with_id last 0).1.core → Step w (after_request w p (out_acked v w.session with_id last 0).0 (out_acked v w.session with_id last 0).1)
  identified_step (Refuse e) told sound = refused_step w (w.refused ++ (p, e) ∷ []) i
  identified_step Wait told sound =
      quiet_step w _ i
      (record {
        stays = record { sound = sound; limit = refl; max = refl; none = i.none; waits = allowed_by _ _ told.1 };
        same = λ j. (λ k. record (place (view_of w) j) { up = ap (filter (is_token_up j)) (append-nil w.up) k });
        kept = λ q test c.
            let a = count_push test w.accepted p in
            let b = ap one (c.class.blind p id) in
            let n = ap (λ o. one (passes test o)) told.0 in
            omega (arith, a, b, n);
        spent = λ q test c.
            let a = count_push test w.accepted p in
            let b = ap one (c.class.blind p id) in
            let n = ap (λ o. one (passes test o)) told.0 in
            omega (arith, a, b, n);
        even = λ test c.
            let a = count_push test w.accepted p in
            let z = ap one (of_acked c p acked) in
            let n = ap (on_way test) (append-nil w.up) in
            omega (arith, a, z, n);
      })
  identified_step Store told sound =
      let x : Packet = packets.Publish with_id in
      let t1 = set_slot (Sent with_id) (free_place (view_of w) id (i.tokens id) told.0) in
      let t2 = push_up x (publish_token with_id acked) t1.after in
      change_step w _ id _ _ i
      (record {
        stays = record { sound = sound; limit = refl; max = refl; none = i.none; waits = i.waits };
        turn = then_turn t1 t2;
        low = low;
        high = told.1;
        token = stored_token id with_id p.qos refl acked;
        allowed = allowed_by _ _ told.2;
        ledger = λ q test c.
            let a = count_push test w.accepted p in
            let b = ap one (c.class.blind p id) in
            let d = due_new c with_id x [] in
            record { kept = omega (arith, a, b, d); spent = omega (arith, a); bounded = omega (arith, a, b) };
        even = λ test c.
            let a = count_push test w.accepted p in
            let z = ap one (of_acked c p acked) in
            let b = ap one (c.blind p id) in
            let n = way_push test w.up x in
            omega (arith, a, z, b, n);
      })

-- a publish of QoS 0
once_step : (w : World) (p : Publish) → p.qos ≡ AtMostOnce → Inv w → Step w (after_request w p (out_once w.session p 0).0 (out_once w.session p 0).1)
once_step w p e i = by (over_maximum w.session.core p)
  where
    sent : Answer
    sent = (Ok (Some (packets.Publish p)), with_event_at w.session (outgoing.Publish p.pkid) 0)

    by : (o : Option StateError) → Step w (after_request w p (unless o w.session sent).0 (unless o w.session sent).1)
    by (Some f) = refused_step w (w.refused ++ (p, f) ∷ []) i
    by None =
        quiet_step w _ i
        (record {
          stays = record { sound = i.sound; limit = refl; max = refl; none = i.none; waits = i.waits };
          same = λ j. (λ k. record (place (view_of w) j) { up = back_none is_token_up j (packets.Publish p) w.up (ap (λ q. is_acked q && (p.pkid == j)) e) k });
          kept = λ q test c.
              let a = count_push test w.accepted p in
              let z = ap one (of_other AtMostOnce c p e (λ x. let h : is_acked q ≡ false = ap is_acked x in let y = c.acked in absurd cc)) in
              omega (arith, a, z);
          spent = λ q test c. let a = count_push test w.accepted p in omega (arith, a);
          even = λ test c.
              let a = count_push test w.accepted p in
              let n = way_push test w.up (packets.Publish p) in
              omega (arith, a, n);
        })

ask_as : (w : World) (p : Publish) (q : QoS) → p.qos ≡ q → Inv w → Sound (out_publish q w.session p 0).1.core → Step w (after_request w p (out_publish q w.session p 0).0 (out_publish q w.session p 0).1)
ask_as w p AtMostOnce e i sound = once_step w p e i
ask_as w p AtLeastOnce e i sound = identified_step w i p (id_for w.session.core p.pkid) (last_after w.session.core p.pkid) (id_positive w.session.core p.pkid) (ap is_acked e) _ (judges w.session.core (record p { pkid = id_for w.session.core p.pkid })) sound
ask_as w p ExactlyOnce e i sound = identified_step w i p (id_for w.session.core p.pkid) (last_after w.session.core p.pkid) (id_positive w.session.core p.pkid) (ap is_acked e) _ (judges w.session.core (record p { pkid = id_for w.session.core p.pkid })) sound

pub ask_step : (w : World) (p : Publish) → Inv w → Step w (asks w p)
unfolding on_request
ask_step w p i = ask_as w p p.qos refl i (out_sound w.session (requests.Publish p) 0 i.sound)
