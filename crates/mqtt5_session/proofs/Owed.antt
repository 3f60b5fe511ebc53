-- What each call does to what is owed.
use Rattle.std.proofs.Common.{◌≡◌, ℕ, ◌+◌, ◌≤◌, Bool, true, false, cond, ◌==◌, length, Option, Some, None, Result, Err, refl, sym, ap, ◌∙◌, arith, nat_lt}
use Rattle.std.proofs.lemmas.Bool.{ltb-false}
use Rattle.std.specs.Prelude.{is_some, ◌&&◌}
use Rattle.std.specs.FinMap.{get, len, insert, remove, contains_key}
use Rattle.std.specs.FinSet as set
use Rattle.mqtt5_base.specs.declared.quality.QoS.{QoS}
use Rattle.mqtt5_base.specs.declared.quality.QoS.TheVariants.{AtMostOnce, AtLeastOnce, ExactlyOnce}
use Rattle.mqtt5_publish.specs.declared.publish.Publish.{Publish}
use Rattle.mqtt5_publish.specs.declared.puback.PubAckReason.{PubAckReason}
use Rattle.mqtt5_publish.specs.declared.pubrel.PubRelReason.{PubRelReason}
use Rattle.mqtt5_publish.specs.declared.pubrel.PubRelReason.TheVariants as pubrel_reasons
use Rattle.mqtt5_control.specs.declared.connack.ConnectReturnCode.{ConnectReturnCode}
use Rattle.mqtt5_control.specs.declared.connack.ConnectReturnCode.TheVariants as return_codes
use Rattle.mqtt5_control.specs.declared.connack.ConnAckProperties.{ConnAckProperties}
use Rattle.mqtt5_control.specs.declared.disconnect.Disconnect.{Disconnect}
use Rattle.mqtt5_control.specs.declared.auth.Auth.{Auth}
use Rattle.mqtt5_codec.specs.declared.packet.Packet.{Packet}
use Rattle.mqtt5_codec.specs.declared.packet.Packet.TheVariants as packets
use Rattle.mqtt5_inflight.specs.declared.slot.Slot.{Slot}
use Rattle.mqtt5_inflight.specs.declared.slot.Slot.TheVariants.{Sent, Released}
use Rattle.mqtt5_inflight.specs.declared.event.Request.{Request}
use Rattle.mqtt5_inflight.specs.declared.event.Request.TheVariants as requests
use Rattle.mqtt5_inflight.specs.declared.event.Outgoing.{Outgoing}
use Rattle.mqtt5_inflight.specs.declared.error.StateError.{StateError}
use Rattle.mqtt5_inflight.specs.declared.error.StateError.TheVariants as errors
use Rattle.mqtt5_inflight.proofs.Exports.{len_used, len_free, len_removed}
use Rattle.mqtt5_session.specs.Session.{Core, Session, Answer, Sends, Receives}
use Rattle.mqtt5_session.specs.Requests.{on_request, unless, over_maximum, verdict_of, by_alias, by_use, Verdict, Refuse, Wait, Store, out_acked, out_publish, out_release, out_known, id_for, last_after, counts_ping, ping_fault, may_leave_for, out_disconnect, may_answer_with, names_method, out_auth}
use Rattle.mqtt5_session.specs.Packets.{on_packet, answer_to, with_incoming, with_notice, event_of, freed_for, on_puback, on_received, on_pubrec, on_pubcomp, on_pubrel, on_publish, on_qos, answers, on_connack, is_taken, topic_of}
use Rattle.mqtt5_session.specs.Ledger.{one_of, number_owed, owed_at, adds, ends, unless_refused}

-- what an answer owes, where n is added on success
abbrev Adds : Session → ℕ → Answer → Type 0
Adds s n a = number_owed a.1.core ≡ number_owed s.core + unless_refused a.0 n

-- the same, where n is taken on success
abbrev Takes : Session → ℕ → Answer → Type 0
Takes s n a = number_owed a.1.core + unless_refused a.0 n ≡ number_owed s.core

pub choose : (P : Answer → Type 0) (b : Bool) (x y : Answer) → (b ≡ true → P x) → (b ≡ false → P y) → P (cond b x y)
choose P true x y f g = f refl
choose P false x y f g = g refl

-- a Disconnect with its reason changes no core, and no Auth does
pub leave_core : (s : Session) (p : Disconnect) (at : ℕ) → (out_disconnect s p at).1.core ≡ s.core
leave_core s p at = choose (λ a. a.1.core ≡ s.core) (may_leave_for p.reason_code) _ _ (λ _. refl) (λ _. refl)

pub auth_core : (s : Session) (p : Auth) (at : ℕ) → (out_auth s p at).1.core ≡ s.core
auth_core s p at = choose (λ a. a.1.core ≡ s.core) (may_answer_with p.code && names_method p.properties) _ _ (λ _. refl) (λ _. refl)

-- so the session has the core that it had, also where memory was refused
pub sends_core : (result : Result (Option Packet) StateError) (old new : Session) (a : Answer) → a.1.core ≡ old.core → Sends result old new a → new.core ≡ old.core
sends_core (Err errors.OutOfMemory) old new a same h = ap (λ s. s.core) h.0
sends_core result old new a same h = ap (λ s. s.core) h.1 ∙ same

unless_adds : (s : Session) (n : ℕ) (e : Option StateError) (a : Answer) → Adds s n a → Adds s n (unless e s a)
unless_adds s n None a h = h
unless_adds s n (Some e) a h = omega arith

-- ---- requests

-- the id of what was judged to be stored is free, and where a publish is to wait none waits; its alias isn't refused
abbrev pub Judges : Core → Publish → Verdict → Type 0
Judges c p (Refuse e) = Unit {0}
Judges c p Wait = (c.waiting ≡ None) × (over_maximum c p ≡ None)
Judges c p Store = (get c.in_use p.pkid ≡ None) × (p.pkid ≤ c.limit) × (over_maximum c p ≡ None)

judges_use : (c : Core) (p : Publish) (x : Option Slot) (w : Option Publish) → p.pkid ≤ c.limit → get c.in_use p.pkid ≡ x → c.waiting ≡ w → over_maximum c p ≡ None → Judges c p (by_use x w)
judges_use c p None w h e f o = (e, h, o)
judges_use c p (Some x) None h e f o = (f, o)
judges_use c p (Some x) (Some q) h e f o = tt {0}

judges_alias : (c : Core) (p : Publish) (e : Option StateError) (v : Verdict) → over_maximum c p ≡ e → (over_maximum c p ≡ None → Judges c p v) → Judges c p (by_alias e v)
judges_alias c p None v o h = h o
judges_alias c p (Some e) v o h = tt {0}

pub judges : (c : Core) (p : Publish) → Judges c p (verdict_of c p)
judges c p = by (nat_lt c.limit p.pkid) refl
  where
    by : (b : Bool) → nat_lt c.limit p.pkid ≡ b → Judges c p (cond b (Refuse (errors.Unsolicited p.pkid)) (by_alias (over_maximum c p) (by_use (get c.in_use p.pkid) c.waiting)))
    by true e = tt {0}
    by false e = judges_alias c p (over_maximum c p) (by_use (get c.in_use p.pkid) c.waiting) refl (judges_use c p (get c.in_use p.pkid) c.waiting (ltb-false c.limit p.pkid e) refl refl)

acked_adds : (v : Verdict) (s : Session) (p : Publish) (last at : ℕ) → Judges s.core p v → Adds s 1 (out_acked v s p last at)
acked_adds (Refuse e) s p last at h = omega arith
acked_adds Wait s p last at h = let w : one_of s.core.waiting ≡ 0 = ap one_of h.0 in omega arith
acked_adds Store s p last at h = let n : len (insert s.core.in_use p.pkid (Sent p)) ≡ len s.core.in_use + 1 = len_free s.core.in_use p.pkid (Sent p) h.0 in omega arith

publish_adds : (q : QoS) (s : Session) (p : Publish) (at : ℕ) → Adds s (owed_at q) (out_publish q s p at)
publish_adds AtMostOnce s p at = unless_adds s 0 (over_maximum s.core p) _ (omega arith)
publish_adds AtLeastOnce s p at = acked_adds _ s (record p { pkid = id_for s.core p.pkid }) (last_after s.core p.pkid) at (judges s.core (record p { pkid = id_for s.core p.pkid }))
publish_adds ExactlyOnce s p at = acked_adds _ s (record p { pkid = id_for s.core p.pkid }) (last_after s.core p.pkid) at (judges s.core (record p { pkid = id_for s.core p.pkid }))

known_adds : (x : Option Slot) (s : Session) (id last at : ℕ) → get s.core.in_use id ≡ x → Adds s (cond (is_some x) 0 1) (out_known x s id last at)
known_adds None s id last at e = let n : len (insert s.core.in_use id Released) ≡ len s.core.in_use + 1 = len_free s.core.in_use id Released e in omega arith
known_adds (Some Released) s id last at e = let n : len (insert s.core.in_use id Released) ≡ len s.core.in_use = len_used s.core.in_use id Released Released e in omega arith
known_adds (Some (Sent p)) s id last at e = omega arith

release_adds : (s : Session) (id last at : ℕ) → Adds s (cond (contains_key s.core.in_use id) 0 1) (out_release s id last at)
release_adds s id last at = choose (Adds s (cond (contains_key s.core.in_use id) 0 1)) (nat_lt s.core.limit id) _ _ (λ _. omega arith) (λ _. known_adds (get s.core.in_use id) s id last at refl)

pub out_adds : (s : Session) (r : Request) (at : ℕ) → Adds s (adds s.core r) (on_request s r at)
unfolding on_request
out_adds s (requests.Publish p) at = publish_adds p.qos s p at
out_adds s (requests.PubRel p) at = release_adds s (id_for s.core p.pkid) (last_after s.core p.pkid) at
out_adds s (requests.Subscribe p) at = choose (Adds s 0) (length p.filters == 0) _ _ (λ _. omega arith) (λ _. omega arith)
out_adds s (requests.Unsubscribe p) at = omega arith
out_adds s requests.PingReq at = unless_adds (counts_ping s) 0 (ping_fault s.core.waiting (counts_ping s).collision_pings s.awaits_ping) _ (omega arith)
out_adds s requests.Disconnect at = omega arith
out_adds s (requests.PubAck p) at = omega arith
out_adds s (requests.PubRec p) at = omega arith
out_adds s (requests.PubComp p) at = omega arith
out_adds s requests.PingResp at = omega arith
out_adds s (requests.SubAck p) at = omega arith
out_adds s (requests.UnsubAck p) at = omega arith

-- ---- packets

-- an id that was in use is ended
freed_takes : (w : Option Publish) (s : Session) (id at : ℕ) (x : Slot) → s.core.waiting ≡ w → get s.core.in_use id ≡ Some x → Takes s 1 (freed_for w s id at)
freed_takes None s id at x e f =
    let n : len (remove s.core.in_use id) + 1 ≡ len s.core.in_use = len_removed s.core.in_use id x f in
    omega arith
freed_takes (Some p) s id at x e f = choose (Takes s 1) (p.pkid == id) _ _
    (λ _. let n : len (insert s.core.in_use id (Sent p)) ≡ len s.core.in_use = len_used s.core.in_use id x (Sent p) f in let w : one_of s.core.waiting ≡ 1 = ap one_of e in omega arith)
    (λ _. let n : len (remove s.core.in_use id) + 1 ≡ len s.core.in_use = len_removed s.core.in_use id x f in omega arith)

puback_takes : (x : Option Slot) (s : Session) (id at : ℕ) → get s.core.in_use id ≡ x → Takes s 1 (on_puback x s id at)
puback_takes None s id at e = omega arith
puback_takes (Some Released) s id at e = omega arith
puback_takes (Some (Sent p)) s id at e = freed_takes s.core.waiting s id at (Sent p) refl e

pubcomp_takes : (x : Option Slot) (s : Session) (id at : ℕ) → get s.core.in_use id ≡ x → Takes s 1 (on_pubcomp x s id at)
pubcomp_takes None s id at e = omega arith
pubcomp_takes (Some (Sent p)) s id at e = omega arith
pubcomp_takes (Some Released) s id at e = freed_takes s.core.waiting s id at Released refl e

received_takes : (b : Bool) (s : Session) (id at : ℕ) (x : Slot) → get s.core.in_use id ≡ Some x → Takes s (cond b 0 1) (on_received b s id at)
received_takes true s id at x e = let n : len (insert s.core.in_use id Released) ≡ len s.core.in_use = len_used s.core.in_use id x Released e in omega arith
received_takes false s id at x e = freed_takes s.core.waiting s id at x refl e

pubrec_takes : (x : Option Slot) (s : Session) (reason : PubAckReason) (id at : ℕ) → get s.core.in_use id ≡ x → Takes s (cond (is_taken reason) 0 1) (on_pubrec x s reason id at)
pubrec_takes None s reason id at e = omega arith
pubrec_takes (Some Released) s reason id at e = omega arith
pubrec_takes (Some (Sent p)) s reason id at e = received_takes (is_taken reason) s id at (Sent p) e

pubrel_takes : (b : Bool) (s : Session) (reason : PubRelReason) (id at : ℕ) → Takes s 0 (on_pubrel b s reason id at)
pubrel_takes false s reason id at = omega arith
pubrel_takes true s pubrel_reasons.Success id at = omega arith
pubrel_takes true s reason id at = omega arith

answers_takes : (b : Bool) (ack : Packet) (event : Outgoing) (s : Session) (at : ℕ) → Takes s 0 (answers b ack event s at)
answers_takes true ack event s at = omega arith
answers_takes false ack event s at = omega arith

qos_takes : (q : QoS) (s : Session) (id at : ℕ) → Takes s 0 (on_qos q s id at)
qos_takes AtMostOnce s id at = omega arith
qos_takes AtLeastOnce s id at = answers_takes s.core.manual_acks _ _ s at
qos_takes ExactlyOnce s id at = answers_takes s.core.manual_acks _ _ s at

publish_takes : (b : Bool) (s : Session) (p : Publish) (at : ℕ) → Takes s 0 (on_publish b s p at)
publish_takes true s p at = qos_takes p.qos _ p.pkid at
publish_takes false s p at = omega arith

connack_takes : (code : ConnectReturnCode) (properties : Option ConnAckProperties) (s : Session) (at : ℕ) → Takes s 0 (on_connack code properties s at)
connack_takes return_codes.Success properties s at = omega arith
connack_takes code properties s at = omega arith

heard_takes : (s : Session) (packet : Packet) (at : ℕ) → Takes s (ends packet) (answer_to s packet at)
heard_takes s (packets.PubAck p) at = puback_takes (get s.core.in_use p.pkid) s p.pkid at refl
heard_takes s (packets.PubRec p) at = pubrec_takes (get s.core.in_use p.pkid) s p.reason p.pkid at refl
heard_takes s (packets.PubComp p) at = pubcomp_takes (get s.core.in_use p.pkid) s p.pkid at refl
heard_takes s (packets.PubRel p) at = pubrel_takes (set.contains s.core.incoming p.pkid) s p.reason p.pkid at
heard_takes s (packets.Publish p) at = publish_takes (is_some (topic_of s p)) s p at
heard_takes s (packets.ConnAck p) at = connack_takes p.code p.properties s at
heard_takes s packet at = omega arith

pub inc_takes : (s : Session) (packet : Packet) (at : ℕ) → Takes s (ends packet) (on_packet s packet at)
unfolding on_packet
inc_takes s packet at = noted (event_of s packet)
  where
    noted : (o : Option Packet) → Takes s (ends packet) (answer_to (with_notice s o) packet at)
    noted None = heard_takes s packet at
    noted (Some x) = heard_takes (with_incoming s x) packet at

-- ---- the clauses of calls

pub adds_of : (result : Result (Option Packet) StateError) (old new : Session) (n : ℕ) (a : Answer) → Adds old n a → Sends result old new a → number_owed new.core ≡ number_owed old.core + unless_refused result n
adds_of (Err errors.OutOfMemory) old new n a law h = let e = ap (λ s. number_owed s.core) h.0 in omega arith
adds_of result old new n a law h = ap (λ s. number_owed s.core) h.1 ∙ law ∙ ap (λ x. number_owed old.core + unless_refused x n) (sym h.0)

pub takes_of : (result : Result (Option Packet) StateError) (old new : Session) (n : ℕ) (a : Answer) → Takes old n a → Receives result old new a → number_owed new.core + unless_refused result n ≡ number_owed old.core
takes_of (Err errors.OutOfMemory) old new n a law h = let e = ap (λ s. number_owed s.core) h in omega arith
takes_of result old new n a law h = ap (λ s. number_owed s.core + unless_refused result n) h.1 ∙ ap (λ x. number_owed a.1.core + unless_refused x n) h.0 ∙ law
