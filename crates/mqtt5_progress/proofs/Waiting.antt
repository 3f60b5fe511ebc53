-- In every world that is reached, what waits waits for an id in use.
use Rattle.std.proofs.Common.{◌≡◌, ◌≢◌, ℕ, Bool, true, false, cond, List, [], ◌∷◌, Option, Some, None, Result, Ok, Err, refl, sym, ap, ◌∙◌, subst, nat_lt, option_map}
use Rattle.std.specs.FinMap.{get}
use Rattle.mqtt5_base.specs.declared.quality.QoS.{QoS}
use Rattle.mqtt5_base.specs.declared.quality.QoS.TheVariants.{AtMostOnce, AtLeastOnce, ExactlyOnce}
use Rattle.mqtt5_publish.specs.declared.publish.Publish.{Publish}
use Rattle.mqtt5_codec.specs.declared.packet.Packet.{Packet}
use Rattle.mqtt5_codec.specs.declared.packet.Packet.TheVariants as packets
use Rattle.mqtt5_inflight.specs.declared.slot.Slot.{Slot}
use Rattle.mqtt5_inflight.specs.declared.slot.Slot.TheVariants.{Sent}
use Rattle.mqtt5_inflight.specs.declared.event.Request.TheVariants as requests
use Rattle.mqtt5_inflight.specs.declared.event.Outgoing.TheVariants as outgoing
use Rattle.mqtt5_inflight.specs.declared.error.StateError.{StateError}
use Rattle.mqtt5_inflight.specs.declared.error.StateError.TheVariants as errors
use Rattle.mqtt5_inflight.specs.InUse.{InUse}
use Rattle.mqtt5_inflight.specs.Unacked.{slot_again, in_use_again}
use Rattle.mqtt5_inflight.specs.Resent.{packets_of}
use Rattle.mqtt5_inflight.proofs.Exports.{get_again}
use Rattle.mqtt5_session.specs.Session.{Core, Session, Answer}
use Rattle.mqtt5_session.specs.Requests.{on_request, unless, over_maximum, with_event_at, Refuse, by_use, by_alias, verdict_of, out_acked, out_publish, id_for, last_after}
use Rattle.mqtt5_session.specs.Packets.{on_packet}
use Rattle.mqtt5_session.specs.Resuming.{on_clean}
use Rattle.mqtt5_session.specs.Again.{after_sent}
use Rattle.mqtt5_session.proofs.Exports.{Sound}
use Rattle.mqtt5_world.specs.declared.event.WorldEvent.{WorldEvent}
use Rattle.mqtt5_world.specs.declared.event.WorldEvent.TheVariants as events
use Rattle.mqtt5_world.specs.World.{World, after_request, asks, arrives, after_reply, takes_packet, returns, after_resume, resumes, taken_back, happens, run_world, start}
use Rattle.mqtt5_world.proofs.Step.{Inv, SlotAllowed}
use Rattle.mqtt5_world.proofs.Losses.{sends_again}
use Rattle.mqtt5_world.proofs.Runs.{inv_next, inv_start}
use Rattle.mqtt5_progress.proofs.Moves.{WaitsFor, Waits, not_free, waits_insert, Move, Still, LetsGo, Answers, moves}

-- ---- a publish is asked for

abbrev OfAnswer : Answer → Type 0
OfAnswer a = Waits a.1.core

module _ (s : Session) (p : Publish) (last : ℕ) (waits : Waits s.core) where
  by_use_waits : (x : Option Slot) (o : Option Publish) → get s.core.in_use p.pkid ≡ x → OfAnswer (out_acked (by_use x o) s p last 0)
  by_use_waits None o e = waits_insert s.core.in_use s.core.waiting p.pkid (Sent p) waits
  by_use_waits (Some x) None e = not_free _ x e
  by_use_waits (Some x) (Some q) e = waits

  by_alias_waits : (f : Option StateError) → OfAnswer (out_acked (by_alias f (by_use (get s.core.in_use p.pkid) s.core.waiting)) s p last 0)
  by_alias_waits (Some f) = waits
  by_alias_waits None = by_use_waits _ s.core.waiting refl

  acked_waits : OfAnswer (out_acked (verdict_of s.core p) s p last 0)
  acked_waits = by (nat_lt s.core.limit p.pkid)
    where
      by : (b : Bool) → OfAnswer (out_acked (cond b (Refuse (errors.Unsolicited p.pkid)) (by_alias (over_maximum s.core p) (by_use (get s.core.in_use p.pkid) s.core.waiting))) s p last 0)
      by true = waits
      by false = by_alias_waits (over_maximum s.core p)

publish_waits : (q : QoS) (s : Session) (p : Publish) → Waits s.core → OfAnswer (out_publish q s p 0)
publish_waits AtMostOnce s p w = by (over_maximum s.core p)
  where
    by : (f : Option StateError) → OfAnswer (unless f s (Ok (Some (packets.Publish p)), with_event_at s (outgoing.Publish p.pkid) 0))
    by None = w
    by (Some f) = w
publish_waits AtLeastOnce s p w = acked_waits s (record p { pkid = id_for s.core p.pkid }) (last_after s.core p.pkid) w
publish_waits ExactlyOnce s p w = acked_waits s (record p { pkid = id_for s.core p.pkid }) (last_after s.core p.pkid) w

asked_waits : (w : World) (p : Publish) (a : Answer) → OfAnswer a → Waits (after_request w p a.0 a.1).session.core
asked_waits w p (Ok reply, s) h = h
asked_waits w p (Err e, s) h = h

out_waits : (s : Session) (p : Publish) → Waits s.core → OfAnswer (on_request s (requests.Publish p) 0)
unfolding on_request
out_waits s p w = publish_waits p.qos s p w

-- ---- a packet arrives

arrives_session : (w : World) (us : List Packet) → (arrives w us).session ≡ w.session
arrives_session w [] = refl
arrives_session w (x ∷ us) = refl

move_waits : (c : Core) (x : Packet) (a : Answer) → Move c x a → Waits c → OfAnswer a
move_waits c x a (Still r t s e keeps) w = keeps w
move_waits c x a (LetsGo p r t s was is) w = subst (WaitsFor t.core.in_use) (sym is) (tt {0})
move_waits c x a (Answers y r t s one two le e keeps) w = keeps w

heard_waits : (w : World) (a : Answer) → OfAnswer a → Waits (after_reply w a.0 a.1).session.core
heard_waits w (Ok reply, s) h = h
heard_waits w (Err e, s) h = h

takes_waits : (w : World) (x : Packet) → Waits w.session.core → Waits (takes_packet w x).session.core
takes_waits w x h = heard_waits w (on_packet w.session x 0) (move_waits w.session.core x (on_packet w.session x 0) (moves w.session x) h)

returns_waits : (w : World) (ds : List Packet) → Waits w.session.core → Waits (returns w ds).session.core
returns_waits w [] h = h
returns_waits w (x ∷ ds) h = takes_waits (record w { down = ds }) x h

-- ---- a loss

waits_again : (h : InUse) (o : Option Publish) → WaitsFor h o → WaitsFor (in_use_again h) o
waits_again h None w = tt {0}
waits_again h (Some p) w = by (get h p.pkid) refl
  where
    by : (x : Option Slot) → get h p.pkid ≡ x → get (in_use_again h) p.pkid ≢ None
    by None e = absurd (w e)
    by (Some x) e = not_free _ (slot_again x) (get_again h p.pkid ∙ ap (option_map slot_again) e)

back_waits : (w : World) (s : Session) (m : ℕ) → s.core ≡ record w.session.core { current = m } → Inv w → Waits w.session.core → Waits (resumes (record w { session = s; up = []; down = [] })).session.core
back_waits w s m e i h =
    let sound : Sound s.core = subst Sound (sym e) i.sound in
    let allowed : (id : ℕ) → SlotAllowed s.core.alias_max (get s.core.in_use id) = subst (λ (c : Core). (id : ℕ) → SlotAllowed c.alias_max (get c.in_use id)) (sym e) i.allowed in
    let waits : Waits s.core = subst Waits (sym e) h in
    subst (λ r. Waits (after_resume (record w { session = s; up = []; down = [] }) r).session.core) (sym (sends_again s sound allowed)) (waits_again s.core.in_use s.core.waiting waits)

loss_waits : (w : World) (m : Option ℕ) → Inv w → Waits w.session.core → Waits (resumes (takes_packet (record w { up = []; down = [] }) (taken_back m))).session.core
unfolding on_packet
loss_waits w None i h = back_waits w _ w.session.core.current refl i h
loss_waits w (Some m) i h = back_waits w _ _ refl i h

-- ---- runs

waits_next : (w : World) (e : WorldEvent) → Inv w → Waits w.session.core → Waits (happens w e).session.core
waits_next w (events.Publish p) i h = asked_waits w p (on_request w.session (requests.Publish p) 0) (out_waits w.session p h)
waits_next w events.Up i h = subst (λ (s : Session). Waits s.core) (sym (arrives_session w w.up)) h
waits_next w events.Down i h = returns_waits w w.down h
waits_next w (events.Loss m) i h = loss_waits w m i h

waits_run : (es : List WorldEvent) (w : World) → Inv w → Waits w.session.core → Waits (run_world es w).session.core
waits_run [] w i h = h
waits_run (e ∷ es) w i h = waits_run es (happens w e) (inv_next w e i) (waits_next w e i h)

pub waits_reached : (limit : ℕ) (es : List WorldEvent) → Waits (run_world es (start limit)).session.core
waits_reached limit es = waits_run es (start limit) (inv_start limit) (tt {0})
