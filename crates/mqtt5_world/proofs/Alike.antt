-- What is said to calls depends on the core alone, but for pings, whatever the dup of what awaits an ack; and a resume
-- keeps the core but for that.
use Rattle.std.proofs.Common.{◌≡◌, ℕ, Bool, true, false, cond, List, [], ◌∷◌, ◌==◌, Option, Some, None, Result, Ok, Err, refl, sym, ap, ap₂, ◌++◌, ◌∙◌, subst, length, nat_lt}
use Rattle.std.specs.Prelude.{is_some, option_map, IsOk, IfOk}
use Rattle.std.specs.Ordering.{nat_cmp}
use Rattle.std.specs.FinMap.{get, insert, remove, get-empty}
use Rattle.std.specs.FinSet as set
use Rattle.mqtt5_base.specs.declared.quality.QoS.{QoS}
use Rattle.mqtt5_base.specs.declared.quality.QoS.TheVariants.{AtMostOnce, AtLeastOnce, ExactlyOnce}
use Rattle.mqtt5_publish.specs.declared.publish.Publish.{Publish}
use Rattle.mqtt5_publish.specs.declared.puback.PubAckReason.{PubAckReason}
use Rattle.mqtt5_publish.specs.declared.pubrel.PubRelReason.{PubRelReason}
use Rattle.mqtt5_publish.specs.declared.pubrel.PubRelReason.TheVariants as pubrel_reasons
use Rattle.mqtt5_control.specs.declared.connack.ConnectReturnCode.{ConnectReturnCode}
use Rattle.mqtt5_control.specs.declared.connack.ConnectReturnCode.TheVariants as return_codes
use Rattle.mqtt5_control.specs.declared.connack.ConnAckProperties.{ConnAckProperties}
use Rattle.mqtt5_subscribe.specs.declared.subscribe.Subscribe.{Subscribe}
use Rattle.mqtt5_codec.specs.declared.packet.Packet.{Packet}
use Rattle.mqtt5_codec.specs.declared.packet.Packet.TheVariants as packets
use Rattle.mqtt5_inflight.specs.declared.slot.Slot.{Slot}
use Rattle.mqtt5_inflight.specs.declared.slot.Slot.TheVariants.{Sent, Released}
use Rattle.mqtt5_inflight.specs.declared.event.Request.{Request}
use Rattle.mqtt5_inflight.specs.declared.event.Request.TheVariants as requests
use Rattle.mqtt5_inflight.specs.declared.event.Outgoing.{Outgoing}
use Rattle.mqtt5_inflight.specs.declared.error.StateError.{StateError}
use Rattle.mqtt5_inflight.specs.declared.error.StateError.TheVariants as errors
use Rattle.mqtt5_inflight.specs.InUse.{InUse}
use Rattle.mqtt5_inflight.specs.Aliases.{alias_of}
use Rattle.mqtt5_inflight.specs.Unacked.{slot_again, in_use_again, publish_again, release_again, requests_of}
use Rattle.mqtt5_inflight.specs.Resent.{packets_of}
use Rattle.mqtt5_inflight.proofs.Exports.{Fits, within_fits, get_again, again_twice, again_insert, again_remove, by_id_again}
use Rattle.mqtt5_session.specs.Session.{Core, Session, Answer, fresh}
use Rattle.mqtt5_session.specs.Requests.{on_request, gives_id, unless, over_maximum, Verdict, Refuse, Wait, Store, by_alias, by_use, verdict_of, out_acked, out_identified, out_publish, out_release, out_known, out_subscribe, id_for, last_after, ping_fault, counts_ping}
use Rattle.mqtt5_session.specs.Packets.{on_packet, answer_to, with_incoming, with_notice, event_of, freed_for, on_puback, on_received, on_pubrec, on_pubcomp, on_pubrel, on_released, on_publish, on_qos, answers, on_connack, is_taken, topic_of, topics_with, ids_with}
use Rattle.mqtt5_session.specs.Resuming.{on_clean, with_dup, resume_of}
use Rattle.mqtt5_session.specs.Again.{sent_unless}
use Rattle.mqtt5_session.specs.Ledger.{kept_by}
use Rattle.mqtt5_session.specs.Ledger as ledger
use Rattle.mqtt5_session.proofs.Exports.{resumes, Sound, out_sound, inc_sound, after_sound, resume_core}
use Rattle.mqtt5_world.specs.declared.calls.Call.{Call}
use Rattle.mqtt5_world.specs.declared.calls.Call.TheVariants as calls
use Rattle.mqtt5_world.specs.declared.calls.Twin.{Twin}
use Rattle.mqtt5_world.specs.Twins.{Said, Answered, GivenBack, all_said, reply_of, after_call, after_calls, replies_of, taken_up, aliases_over, SameReply, SameReplies}

-- ---- a resume

sound_start : (limit : ℕ) (manual : Bool) → Sound (fresh limit manual).core
sound_start limit manual = (λ k. subst (Fits limit k) (sym (get-empty nat_cmp k)) (tt {0}), tt {0})

sound_call : (s : Session) (call : Call) → Sound s.core → Sound (after_call s call).core
sound_call s (calls.Outgoing request at) i = out_sound s request at i
sound_call s (calls.Incoming packet at) i = inc_sound s packet at i
sound_call s calls.Clean i = after_sound s ledger.Clean i
sound_call s calls.ProtocolError i = i

sound_calls : (cs : List Call) (s : Session) → Sound s.core → Sound (after_calls cs s).core
sound_calls [] s i = i
sound_calls (call ∷ rest) s i = sound_calls rest (after_call s call) (sound_call s call i)

pub sound_after : (cs : List Call) (limit : ℕ) (manual : Bool) → Sound (after_calls cs (fresh limit manual)).core
sound_after cs limit manual = sound_calls cs (fresh limit manual) (sound_start limit manual)

pub in_one_piece : (s : Session) (at : ℕ) → Sound s.core → resume_of s at ≡ sent_unless (aliases_over s) (packets_of s.core.limit s.core.in_use) (in_use_again s.core.in_use) (on_clean s) at
in_one_piece s at i = resumes s at (within_fits s.core.limit s.core.in_use i.0)

pub within : (s : Session) (at : ℕ) → Sound s.core → aliases_over s ≡ [] → IsOk (resume_of s at)
within s at i e = subst IsOk (sym (in_one_piece s at i ∙ ap (λ xs. sent_unless xs (packets_of s.core.limit s.core.in_use) (in_use_again s.core.in_use) (on_clean s) at) e)) refl

pub over : (s : Session) (at alias : ℕ) (others : List ℕ) → Sound s.core → aliases_over s ≡ alias ∷ others → resume_of s at ≡ Err (errors.InvalidAlias alias s.core.alias_max)
over s at alias others i e = in_one_piece s at i ∙ ap (λ xs. sent_unless xs (packets_of s.core.limit s.core.in_use) (in_use_again s.core.in_use) (on_clean s) at) e

pub core_kept : (s : Session) (at : ℕ) → Sound s.core → with_dup (taken_up s at).core ≡ with_dup s.core
core_kept s at i = resume_core s at i

-- ---- a core that is marked

twice : (c : Core) → with_dup c ≡ with_dup (with_dup c)
twice c = ap (λ h. record c { in_use = h }) (sym (again_twice c.in_use))

put_in : (h : InUse) (id : ℕ) (x : Slot) → in_use_again (insert h id x) ≡ in_use_again (insert (in_use_again h) id x)
put_in h id x = again_insert h id x ∙ ap (λ g. insert g id (slot_again x)) (sym (again_twice h)) ∙ sym (again_insert (in_use_again h) id x)

taken_out : (h : InUse) (id : ℕ) → in_use_again (remove h id) ≡ in_use_again (remove (in_use_again h) id)
taken_out h id = again_remove h id ∙ ap (λ g. remove g id) (sym (again_twice h)) ∙ sym (again_remove (in_use_again h) id)

-- ---- sessions of one core, of which one is marked

-- two answers say the same, and their sessions have one core but for dup of what awaits an ack
abbrev Alike : Answer → Answer → Type 0
Alike a b = (◌≡◌ {A = Said} (Answered a.0) (Answered b.0)) × (with_dup a.1.core ≡ with_dup b.1.core)

-- the session with this core
abbrev with : Core → Session → Session
with c s = record s { core = c }

-- the ids in use are as they were
same : (a : Answer) → with_dup a.1.core ≡ with_dup (with_dup a.1.core)
same a = twice a.1.core

-- an id was put in, or taken out
with_slot : (a : Answer) (h : InUse) (id : ℕ) (x : Slot) → a.1.core.in_use ≡ insert h id x → with_dup a.1.core ≡ record a.1.core { in_use = in_use_again (insert (in_use_again h) id x) }
with_slot a h id x e = ap (λ g. record a.1.core { in_use = g }) (ap in_use_again e ∙ put_in h id x)

without : (a : Answer) (h : InUse) (id : ℕ) → a.1.core.in_use ≡ remove h id → with_dup a.1.core ≡ record a.1.core { in_use = in_use_again (remove (in_use_again h) id) }
without a h id e = ap (λ g. record a.1.core { in_use = g }) (ap in_use_again e ∙ taken_out h id)

choose : (b : Bool) (x y z w : Answer) → Alike x z → Alike y w → Alike (cond b x y) (cond b z w)
choose true x y z w h k = h
choose false x y z w h k = k

acked_alike : (v : Verdict) (c : Core) (s t : Session) (p : Publish) (last at : ℕ) → Alike (out_acked v (with c s) p last at) (out_acked v (with (with_dup c) t) p last at)
acked_alike (Refuse e) c s t p last at = (refl, twice c)
acked_alike Wait c s t p last at = (refl, same (out_acked Wait (with c s) p last at))
acked_alike Store c s t p last at = (refl, with_slot (out_acked Store (with c s) p last at) c.in_use p.pkid (Sent p) refl)

-- a publish is judged alike
used_alike : (x : Option Slot) (w : Option Publish) → by_use (option_map slot_again x) w ≡ by_use x w
used_alike None w = refl
used_alike (Some x) None = refl
used_alike (Some x) (Some p) = refl

judged_alike : (c : Core) (p : Publish) → verdict_of c p ≡ verdict_of (with_dup c) p
judged_alike c p =
    ap (λ v. cond (nat_lt c.limit p.pkid) (Refuse (errors.Unsolicited p.pkid)) (by_alias (over_maximum c p) v))
    (sym (ap (λ x. by_use x c.waiting) (get_again c.in_use p.pkid) ∙ used_alike (get c.in_use p.pkid) c.waiting))

identified_alike : (c : Core) (s t : Session) (p : Publish) (last at : ℕ) → Alike (out_identified (with c s) p last at) (out_identified (with (with_dup c) t) p last at)
identified_alike c s t p last at =
    subst (λ v. Alike (out_identified (with c s) p last at) (out_acked v (with (with_dup c) t) p last at)) (judged_alike c p) (acked_alike (verdict_of c p) c s t p last at)

once_alike : (o : Option StateError) (c : Core) (s t : Session) (x y : Answer) → Alike x y → Alike (unless o (with c s) x) (unless o (with (with_dup c) t) y)
once_alike None c s t x y h = h
once_alike (Some e) c s t x y h = (refl, twice c)

publish_alike : (q : QoS) (c : Core) (s t : Session) (p : Publish) (at : ℕ) → Alike (out_publish q (with c s) p at) (out_publish q (with (with_dup c) t) p at)
publish_alike AtMostOnce c s t p at = once_alike (over_maximum c p) c s t _ _ (refl, twice c)
publish_alike AtLeastOnce c s t p at = identified_alike c s t (record p { pkid = id_for c p.pkid }) (last_after c p.pkid) at
publish_alike ExactlyOnce c s t p at = identified_alike c s t (record p { pkid = id_for c p.pkid }) (last_after c p.pkid) at

known_alike : (x : Option Slot) (c : Core) (s t : Session) (id last at : ℕ) → Alike (out_known x (with c s) id last at) (out_known (option_map slot_again x) (with (with_dup c) t) id last at)
known_alike (Some (Sent p)) c s t id last at = (refl, twice c)
known_alike (Some Released) c s t id last at = (refl, with_slot (out_known (Some Released) (with c s) id last at) c.in_use id Released refl)
known_alike None c s t id last at = (refl, with_slot (out_known None (with c s) id last at) c.in_use id Released refl)

-- what is known of an id is looked up in the marked core
looked_up : (c : Core) (id : ℕ) (a : Answer) (f : Option Slot → Answer) → Alike a (f (option_map slot_again (get c.in_use id))) → Alike a (f (get (in_use_again c.in_use) id))
looked_up c id a f h = subst (λ x. Alike a (f x)) (sym (get_again c.in_use id)) h

release_alike : (c : Core) (s t : Session) (id last at : ℕ) → Alike (out_release (with c s) id last at) (out_release (with (with_dup c) t) id last at)
release_alike c s t id last at = choose (nat_lt c.limit id) (Err (errors.Unsolicited id), with c s) (out_known (get c.in_use id) (with c s) id last at) (Err (errors.Unsolicited id), with (with_dup c) t) (out_known (get (in_use_again c.in_use) id) (with (with_dup c) t) id last at) (refl, twice c)
    (looked_up c id (out_known (get c.in_use id) (with c s) id last at) (λ x. out_known x (with (with_dup c) t) id last at) (known_alike (get c.in_use id) c s t id last at))

subscribe_alike : (c : Core) (s t : Session) (p : Subscribe) (at : ℕ) → Alike (out_subscribe (with c s) p at) (out_subscribe (with (with_dup c) t) p at)
subscribe_alike c s t p at = choose (length p.filters == 0) _ _ _ _ (refl, twice c) (refl, twice (gives_id (with c s)).core)

-- what is said to a call is the same, and the core after it but for dup of what awaits an ack
abbrev Agrees : Call → Answer → Answer → Type 0
Agrees call a b = SameReply call (Answered a.0) (Answered b.0) × (with_dup a.1.core ≡ with_dup b.1.core)

unless_core : (o : Option StateError) (s : Session) (a : Answer) → a.1.core ≡ s.core → (unless o s a).1.core ≡ s.core
unless_core None s a h = h
unless_core (Some e) s a h = refl

ping_core : (s : Session) (at : ℕ) → (on_request s requests.PingReq at).1.core ≡ s.core
unfolding on_request
ping_core s at = unless_core (ping_fault s.core.waiting (counts_ping s).collision_pings s.awaits_ping) (counts_ping s) _ refl

out_agrees : (c : Core) (s t : Session) (r : Request) (at : ℕ) → Agrees (calls.Outgoing r at) (on_request (with c s) r at) (on_request (with (with_dup c) t) r at)
unfolding on_request
out_agrees c s t (requests.Publish p) at = publish_alike p.qos c s t p at
out_agrees c s t (requests.PubRel p) at = release_alike c s t (id_for c p.pkid) (last_after c p.pkid) at
out_agrees c s t (requests.Subscribe p) at = subscribe_alike c s t p at
out_agrees c s t (requests.Unsubscribe p) at = (refl, twice (gives_id (with c s)).core)
out_agrees c s t requests.PingReq at = (tt {0}, ap with_dup (ping_core (with c s) at) ∙ twice c ∙ ap with_dup (sym (ping_core (with (with_dup c) t) at)))
out_agrees c s t r at = (refl, twice c)

-- ---- packets

freed_alike : (w : Option Publish) (c : Core) (s t : Session) (id at : ℕ) → Alike (freed_for w (with c s) id at) (freed_for w (with (with_dup c) t) id at)
freed_alike None c s t id at = (refl, without (freed_for None (with c s) id at) c.in_use id refl)
freed_alike (Some p) c s t id at = choose (p.pkid == id) _ _ _ _
    (refl, ap (λ h. record c { in_use = h; waiting = None }) (put_in c.in_use id (Sent p)))
    (refl, without (freed_for None (with c s) id at) c.in_use id refl)

puback_alike : (x : Option Slot) (c : Core) (s t : Session) (id at : ℕ) → Alike (on_puback x (with c s) id at) (on_puback (option_map slot_again x) (with (with_dup c) t) id at)
puback_alike None c s t id at = (refl, twice c)
puback_alike (Some Released) c s t id at = (refl, twice c)
puback_alike (Some (Sent p)) c s t id at = freed_alike c.waiting c s t id at

received_alike : (b : Bool) (c : Core) (s t : Session) (id at : ℕ) → Alike (on_received b (with c s) id at) (on_received b (with (with_dup c) t) id at)
received_alike true c s t id at = (refl, with_slot (on_received true (with c s) id at) c.in_use id Released refl)
received_alike false c s t id at = freed_alike c.waiting c s t id at

pubrec_alike : (x : Option Slot) (c : Core) (s t : Session) (reason : PubAckReason) (id at : ℕ) → Alike (on_pubrec x (with c s) reason id at) (on_pubrec (option_map slot_again x) (with (with_dup c) t) reason id at)
pubrec_alike None c s t reason id at = (refl, twice c)
pubrec_alike (Some Released) c s t reason id at = (refl, twice c)
pubrec_alike (Some (Sent p)) c s t reason id at = received_alike (is_taken reason) c s t id at

pubcomp_alike : (x : Option Slot) (c : Core) (s t : Session) (id at : ℕ) → Alike (on_pubcomp x (with c s) id at) (on_pubcomp (option_map slot_again x) (with (with_dup c) t) id at)
pubcomp_alike None c s t id at = (refl, twice c)
pubcomp_alike (Some (Sent p)) c s t id at = (refl, twice c)
pubcomp_alike (Some Released) c s t id at = freed_alike c.waiting c s t id at

answers_alike : (b : Bool) (ack : Packet) (event : Outgoing) (c : Core) (s t : Session) (at : ℕ) → Alike (answers b ack event (with c s) at) (answers b ack event (with (with_dup c) t) at)
answers_alike true ack event c s t at = (refl, twice c)
answers_alike false ack event c s t at = (refl, twice c)

qos_alike : (q : QoS) (c : Core) (s t : Session) (id at : ℕ) → Alike (on_qos q (with c s) id at) (on_qos q (with (with_dup c) t) id at)
qos_alike AtMostOnce c s t id at = (refl, twice c)
qos_alike AtLeastOnce c s t id at = answers_alike c.manual_acks _ _ c s t at
qos_alike ExactlyOnce c s t id at = answers_alike c.manual_acks _ _ c s t at

heard_alike : (b : Bool) (c : Core) (s t : Session) (p : Publish) (at : ℕ) → Alike (on_publish b (with c s) p at) (on_publish b (with (with_dup c) t) p at)
heard_alike true c s t p at =
    qos_alike p.qos (record c { aliases = topics_with (alias_of p) p.topic c.aliases; incoming = ids_with p.qos c.incoming p.pkid }) s t p.pkid at
heard_alike false c s t p at = (refl, twice c)

connack_alike : (code : ConnectReturnCode) (properties : Option ConnAckProperties) (c : Core) (s t : Session) (at : ℕ) → Alike (on_connack code properties (with c s) at) (on_connack code properties (with (with_dup c) t) at)
connack_alike return_codes.Success properties c s t at = (refl, same (on_connack return_codes.Success properties (with c s) at))
connack_alike code properties c s t at = (refl, twice c)

released_alike : (reason : PubRelReason) (c : Core) (s t : Session) (id at : ℕ) → Alike (on_released reason (with c s) id at) (on_released reason (with (with_dup c) t) id at)
released_alike pubrel_reasons.Success c s t id at = (refl, twice c)
released_alike reason c s t id at = (refl, twice c)

pubrel_alike : (b : Bool) (c : Core) (s t : Session) (reason : PubRelReason) (id at : ℕ) → Alike (on_pubrel b (with c s) reason id at) (on_pubrel b (with (with_dup c) t) reason id at)
pubrel_alike true c s t reason id at = released_alike reason (record c { incoming = set.remove c.incoming id }) s t id at
pubrel_alike false c s t reason id at = (refl, twice c)

heard_agrees : (c : Core) (s t : Session) (packet : Packet) (at : ℕ) → Agrees (calls.Incoming packet at) (answer_to (with c s) packet at) (answer_to (with (with_dup c) t) packet at)
heard_agrees c s t (packets.PubAck p) at = looked_up c p.pkid (on_puback (get c.in_use p.pkid) (with c s) p.pkid at) (λ x. on_puback x (with (with_dup c) t) p.pkid at) (puback_alike (get c.in_use p.pkid) c s t p.pkid at)
heard_agrees c s t (packets.PubRec p) at = looked_up c p.pkid (on_pubrec (get c.in_use p.pkid) (with c s) p.reason p.pkid at) (λ x. on_pubrec x (with (with_dup c) t) p.reason p.pkid at) (pubrec_alike (get c.in_use p.pkid) c s t p.reason p.pkid at)
heard_agrees c s t (packets.PubComp p) at = looked_up c p.pkid (on_pubcomp (get c.in_use p.pkid) (with c s) p.pkid at) (λ x. on_pubcomp x (with (with_dup c) t) p.pkid at) (pubcomp_alike (get c.in_use p.pkid) c s t p.pkid at)
heard_agrees c s t (packets.PubRel p) at = pubrel_alike (set.contains c.incoming p.pkid) c s t p.reason p.pkid at
heard_agrees c s t (packets.Publish p) at = heard_alike (is_some (topic_of (with c s) p)) c s t p at
heard_agrees c s t (packets.ConnAck p) at = connack_alike p.code p.properties c s t at
heard_agrees c s t packet at = (refl, twice c)

inc_agrees : (c : Core) (s t : Session) (packet : Packet) (at : ℕ) → Agrees (calls.Incoming packet at) (on_packet (with c s) packet at) (on_packet (with (with_dup c) t) packet at)
unfolding on_packet
inc_agrees c s t packet at = by (event_of (with c s) packet)
  where
    by : (o : Option Packet) → Agrees (calls.Incoming packet at) (answer_to (with_notice (with c s) o) packet at) (answer_to (with_notice (with (with_dup c) t) o) packet at)
    by None = heard_agrees c s t packet at
    by (Some x) = heard_agrees c (with_incoming s x) (with_incoming t x) packet at

-- ---- any calls

-- two sessions say the same to a call, and have one core after it but for dup of what awaits an ack
abbrev pub Twins : Call → Session → Session → Type 0
Twins call s t = SameReply call (reply_of s call) (reply_of t call) × (with_dup (after_call s call).core ≡ with_dup (after_call t call).core)

-- a clean gives the same
pub given_alike : (limit : ℕ) (h : InUse) → requests_of limit h ≡ requests_of limit (in_use_again h)
given_alike limit h = ap₂ (λ xs ys. xs ++ ys) (sym (by_id_again publish_again published limit h)) (sym (by_id_again release_again released limit h))
  where
    published : (id : ℕ) (x : Option Slot) → publish_again id (option_map slot_again x) ≡ publish_again id x
    published id None = refl
    published id (Some Released) = refl
    published id (Some (Sent p)) = refl

    released : (id : ℕ) (x : Option Slot) → release_again id (option_map slot_again x) ≡ release_again id x
    released id None = refl
    released id (Some Released) = refl
    released id (Some (Sent p)) = refl

one_call : (call : Call) (c : Core) (s t : Session) → Twins call (with c s) (with (with_dup c) t)
one_call (calls.Outgoing request at) c s t = out_agrees c s t request at
one_call (calls.Incoming packet at) c s t = inc_agrees c s t packet at
one_call calls.Clean c s t = (ap GivenBack (given_alike c.limit c.in_use), refl)
one_call calls.ProtocolError c s t = (refl, twice c)

-- two that say what a third says
joined : (call : Call) (a b c : Said) → SameReply call a c → SameReply call b c → SameReply call a b
joined (calls.Outgoing requests.PingReq at) a b c h k = tt {0}
joined (calls.Outgoing request at) a b c h k = h ∙ sym k
joined (calls.Incoming packet at) a b c h k = h ∙ sym k
joined calls.Clean a b c h k = h ∙ sym k
joined calls.ProtocolError a b c h k = h ∙ sym k

pub any_call : (call : Call) (s t : Session) → with_dup s.core ≡ with_dup t.core → Twins call s t
any_call call s t e =
    let a = one_call call s.core s t in
    let b = subst (λ c. Twins call t (with c t)) (sym e) (one_call call t.core t t) in
    (joined call _ _ _ a.0 b.0, a.1 ∙ sym b.1)

pub same_replies : (cs : List Call) (s t : Session) → with_dup s.core ≡ with_dup t.core → SameReplies cs (replies_of cs s) (replies_of cs t)
same_replies [] s t e = tt {0}
same_replies (call ∷ rest) s t e = let h = any_call call s t e in (h.0, same_replies rest (after_call s call) (after_call t call) h.1)

-- ---- two runs

pub runs_alike : (before after : List Call) (limit : ℕ) (manual : Bool) (s : Session) (r : Result Twin StateError) → s ≡ after_calls before (fresh limit manual) → IfOk r (λ t. all_said t.plain.items ≡ replies_of after s) → IfOk r (λ t. all_said t.resumed.items ≡ replies_of after (taken_up s 0)) → IfOk r (λ t. SameReplies after (all_said t.plain.items) (all_said t.resumed.items))
runs_alike before after limit manual s (Err e) is p q = p
runs_alike before after limit manual s (Ok t) is p q =
    subst (λ xs. SameReplies after xs (all_said t.resumed.items)) (sym p) (subst (λ ys. SameReplies after (replies_of after s) ys) (sym q) (same_replies after s (taken_up s 0) (sym core)))
  where
    core : with_dup (taken_up s 0).core ≡ with_dup s.core
    core = core_kept s 0 (subst (λ u. Sound u.core) (sym is) (sound_after before limit manual))
