-- Each call keeps the ids in use within the limit and publishes under their own ids; so what is owed adds up.
use Rattle.std.proofs.Common.{◌≡◌, ◌≢◌, ℕ, zero, suc, ◌+◌, ◌<◌, ◌≤◌, Bool, true, false, cond, List, [], ◌∷◌, ◌==◌, length, Option, Some, None, refl, sym, ap, subst, arith, nat_lt, ne_eqb}
use Rattle.std.proofs.lemmas.Bool.{ltb-false, eqb-true}
use Rattle.std.specs.Prelude.{is_some}
use Rattle.std.specs.FinMap.{get, len, len-empty}
use Rattle.std.specs.FinSet as set
use Rattle.std.specs.Ordering.{nat_cmp}
use Rattle.mqtt5_base.specs.declared.quality.QoS.{QoS}
use Rattle.mqtt5_base.specs.declared.quality.QoS.TheVariants.{AtMostOnce, AtLeastOnce, ExactlyOnce}
use Rattle.mqtt5_publish.specs.declared.publish.Publish.{Publish}
use Rattle.mqtt5_publish.specs.declared.puback.PubAckReason.{PubAckReason}
use Rattle.mqtt5_publish.specs.declared.pubrel.PubRelReason.{PubRelReason}
use Rattle.mqtt5_publish.specs.declared.pubrel.PubRelReason.TheVariants as pubrel_reasons
use Rattle.mqtt5_control.specs.declared.connack.ConnectReturnCode.{ConnectReturnCode}
use Rattle.mqtt5_control.specs.declared.connack.ConnectReturnCode.TheVariants as return_codes
use Rattle.mqtt5_control.specs.declared.connack.ConnAckProperties.{ConnAckProperties}
use Rattle.mqtt5_codec.specs.declared.packet.Packet.{Packet}
use Rattle.mqtt5_codec.specs.declared.packet.Packet.TheVariants as packets
use Rattle.mqtt5_inflight.specs.declared.slot.Slot.{Slot}
use Rattle.mqtt5_inflight.specs.declared.slot.Slot.TheVariants.{Sent, Released}
use Rattle.mqtt5_inflight.specs.declared.event.Request.{Request}
use Rattle.mqtt5_inflight.specs.declared.event.Request.TheVariants as requests
use Rattle.mqtt5_inflight.specs.declared.event.Outgoing.{Outgoing}
use Rattle.mqtt5_inflight.specs.declared.error.StateError.{StateError}
use Rattle.mqtt5_inflight.specs.InUse.{InUse}
use Rattle.mqtt5_inflight.specs.Unacked.{alias_again, by_id, in_use_again}
use Rattle.mqtt5_inflight.specs.Resent.{packets_of}
use Rattle.mqtt5_inflight.proofs.Exports.{no_ids, Fits, IsUsed, with_used, without, none_used, within_fits, again_twice, fits_again, len_again, requests_len}
use Rattle.mqtt5_session.specs.Freeing.{IsCounted}
use Rattle.mqtt5_session.specs.Session.{Core, Session, Answer, fresh}
use Rattle.mqtt5_session.specs.Requests.{on_request, next_id, unless, over_maximum, Verdict, Refuse, Wait, Store, out_acked, out_publish, out_release, out_known, id_for, last_after, ping_fault, counts_ping}
use Rattle.mqtt5_session.specs.Packets.{on_packet, answer_to, with_incoming, with_notice, event_of, freed_for, on_puback, on_received, on_pubrec, on_pubcomp, on_pubrel, on_publish, on_qos, answers, on_connack, is_taken, topic_of}
use Rattle.mqtt5_session.specs.Resuming.{on_clean, with_dup, resume_of}
use Rattle.mqtt5_session.specs.Again.{sent_unless}
use Rattle.mqtt5_session.specs.Ledger.{number_owed, one_of, Call, Ask, Hear, Error, Leave, Authenticate, Clean, Resume, Pop, SetAcks, kept_by, after, added_in, taken_in, after_all, added_by, taken_by, IsLedger}
use Rattle.mqtt5_session.proofs.Resume.{resumes}
use Rattle.mqtt5_session.proofs.Owed.{choose, leave_core, auth_core, Judges, judges, out_adds, inc_takes}

-- ids in use lie in 1..=limit, publishes stand under their own, and what waits isn't of QoS 0
abbrev pub Sound : Core → Type 0
Sound c = ((k : ℕ) → Fits c.limit k (get c.in_use k)) × IsCounted c.waiting

unless_sound : (s : Session) (e : Option StateError) (a : Answer) → Sound s.core → Sound a.1.core → Sound (unless e s a).1.core
unless_sound s None a i h = h
unless_sound s (Some e) a i h = i

used : (limit id : ℕ) (h : InUse) (x : Slot) → ((k : ℕ) → Fits limit k (get h k)) → get h id ≡ Some x → IsUsed limit id x
used limit id h x fit e = subst (Fits limit id) e (fit id)

-- ---- requests

pub id_positive : (c : Core) (id : ℕ) → 0 < id_for c id
id_positive c zero = omega arith
id_positive c (suc id) = subst (λ b. 0 < cond b (next_id c) (suc id)) (sym (ne_eqb (suc id) 0 (λ e. absurd (omega arith)))) (omega arith)

acked_sound : (v : Verdict) (s : Session) (p : Publish) (last at : ℕ) → Sound s.core → 0 < p.pkid → p.qos ≢ AtMostOnce → Judges s.core p v → Sound (out_acked v s p last at).1.core
acked_sound (Refuse e) s p last at i low counted h = i
acked_sound Wait s p last at i low counted h = (i.0, counted)
acked_sound Store s p last at i low counted h = (with_used s.core.limit p.pkid s.core.in_use (Sent p) i.0 (record { low = low; high = h.1; own = (refl, counted) }), i.1)

publish_sound : (q : QoS) (s : Session) (p : Publish) (at : ℕ) → p.qos ≡ q → Sound s.core → Sound (out_publish q s p at).1.core
publish_sound AtMostOnce s p at e i = unless_sound s (over_maximum s.core p) _ i i
publish_sound AtLeastOnce s p at e i = acked_sound _ s (record p { pkid = id_for s.core p.pkid }) (last_after s.core p.pkid) at i (id_positive s.core p.pkid) (λ f. absurd cc) (judges s.core (record p { pkid = id_for s.core p.pkid }))
publish_sound ExactlyOnce s p at e i = acked_sound _ s (record p { pkid = id_for s.core p.pkid }) (last_after s.core p.pkid) at i (id_positive s.core p.pkid) (λ f. absurd cc) (judges s.core (record p { pkid = id_for s.core p.pkid }))

known_sound : (x : Option Slot) (s : Session) (id last at : ℕ) → 0 < id → id ≤ s.core.limit → Sound s.core → Sound (out_known x s id last at).1.core
known_sound (Some (Sent p)) s id last at low high i = i
known_sound (Some Released) s id last at low high i = (with_used s.core.limit id s.core.in_use Released i.0 (record { low = low; high = high; own = tt {0} }), i.1)
known_sound None s id last at low high i = (with_used s.core.limit id s.core.in_use Released i.0 (record { low = low; high = high; own = tt {0} }), i.1)

abbrev IsSound : Answer → Type 0
IsSound a = Sound a.1.core

release_sound : (s : Session) (id last at : ℕ) → 0 < id → Sound s.core → Sound (out_release s id last at).1.core
release_sound s id last at low i = choose IsSound (nat_lt s.core.limit id) _ _ (λ _. i) (λ e. known_sound (get s.core.in_use id) s id last at low (ltb-false s.core.limit id e) i)

pub out_sound : (s : Session) (r : Request) (at : ℕ) → Sound s.core → Sound (on_request s r at).1.core
unfolding on_request
out_sound s (requests.Publish p) at i = publish_sound p.qos s p at refl i
out_sound s (requests.PubRel p) at i = release_sound s (id_for s.core p.pkid) (last_after s.core p.pkid) at (id_positive s.core p.pkid) i
out_sound s (requests.Subscribe p) at i = choose IsSound (length p.filters == 0) _ _ (λ _. i) (λ _. i)
out_sound s (requests.Unsubscribe p) at i = i
out_sound s requests.PingReq at i = unless_sound (counts_ping s) (ping_fault s.core.waiting (counts_ping s).collision_pings s.awaits_ping) _ i i
out_sound s requests.Disconnect at i = i
out_sound s (requests.PubAck p) at i = i
out_sound s (requests.PubRec p) at i = i
out_sound s (requests.PubComp p) at i = i
out_sound s requests.PingResp at i = i
out_sound s (requests.SubAck p) at i = i
out_sound s (requests.UnsubAck p) at i = i

-- ---- packets

freed_sound : (w : Option Publish) (s : Session) (id at : ℕ) (x : Slot) → s.core.waiting ≡ w → get s.core.in_use id ≡ Some x → Sound s.core → Sound (freed_for w s id at).1.core
freed_sound None s id at x e f i = (without s.core.limit id s.core.in_use i.0, i.1)
freed_sound (Some p) s id at x e f i = choose IsSound (p.pkid == id) _ _
    (λ same. (with_used s.core.limit id s.core.in_use (Sent p) i.0 (record { low = old.low; high = old.high; own = (eqb-true p.pkid id same, subst IsCounted e i.1) }), tt {0}))
    (λ _. (without s.core.limit id s.core.in_use i.0, i.1))
  where
    old : IsUsed s.core.limit id x
    old = used s.core.limit id s.core.in_use x i.0 f

puback_sound : (x : Option Slot) (s : Session) (id at : ℕ) → get s.core.in_use id ≡ x → Sound s.core → Sound (on_puback x s id at).1.core
puback_sound None s id at e i = i
puback_sound (Some Released) s id at e i = i
puback_sound (Some (Sent p)) s id at e i = freed_sound s.core.waiting s id at (Sent p) refl e i

pubcomp_sound : (x : Option Slot) (s : Session) (id at : ℕ) → get s.core.in_use id ≡ x → Sound s.core → Sound (on_pubcomp x s id at).1.core
pubcomp_sound None s id at e i = i
pubcomp_sound (Some (Sent p)) s id at e i = i
pubcomp_sound (Some Released) s id at e i = freed_sound s.core.waiting s id at Released refl e i

received_sound : (b : Bool) (s : Session) (id at : ℕ) (x : Slot) → get s.core.in_use id ≡ Some x → Sound s.core → Sound (on_received b s id at).1.core
received_sound true s id at x e i =
    let old = used s.core.limit id s.core.in_use x i.0 e in
    (with_used s.core.limit id s.core.in_use Released i.0 (record { low = old.low; high = old.high; own = tt {0} }), i.1)
received_sound false s id at x e i = freed_sound s.core.waiting s id at x refl e i

pubrec_sound : (x : Option Slot) (s : Session) (reason : PubAckReason) (id at : ℕ) → get s.core.in_use id ≡ x → Sound s.core → Sound (on_pubrec x s reason id at).1.core
pubrec_sound None s reason id at e i = i
pubrec_sound (Some Released) s reason id at e i = i
pubrec_sound (Some (Sent p)) s reason id at e i = received_sound (is_taken reason) s id at (Sent p) e i

pubrel_sound : (b : Bool) (s : Session) (reason : PubRelReason) (id at : ℕ) → Sound s.core → Sound (on_pubrel b s reason id at).1.core
pubrel_sound false s reason id at i = i
pubrel_sound true s pubrel_reasons.Success id at i = i
pubrel_sound true s reason id at i = i

answers_sound : (b : Bool) (ack : Packet) (event : Outgoing) (s : Session) (at : ℕ) → Sound s.core → Sound (answers b ack event s at).1.core
answers_sound true ack event s at i = i
answers_sound false ack event s at i = i

qos_sound : (q : QoS) (s : Session) (id at : ℕ) → Sound s.core → Sound (on_qos q s id at).1.core
qos_sound AtMostOnce s id at i = i
qos_sound AtLeastOnce s id at i = answers_sound s.core.manual_acks _ _ s at i
qos_sound ExactlyOnce s id at i = answers_sound s.core.manual_acks _ _ s at i

publish_heard : (b : Bool) (s : Session) (p : Publish) (at : ℕ) → Sound s.core → Sound (on_publish b s p at).1.core
publish_heard true s p at i = qos_sound p.qos _ p.pkid at i
publish_heard false s p at i = i

connack_sound : (code : ConnectReturnCode) (properties : Option ConnAckProperties) (s : Session) (at : ℕ) → Sound s.core → Sound (on_connack code properties s at).1.core
connack_sound return_codes.Success properties s at i = i
connack_sound code properties s at i = i

heard_sound : (s : Session) (packet : Packet) (at : ℕ) → Sound s.core → Sound (answer_to s packet at).1.core
heard_sound s (packets.PubAck p) at i = puback_sound (get s.core.in_use p.pkid) s p.pkid at refl i
heard_sound s (packets.PubRec p) at i = pubrec_sound (get s.core.in_use p.pkid) s p.reason p.pkid at refl i
heard_sound s (packets.PubComp p) at i = pubcomp_sound (get s.core.in_use p.pkid) s p.pkid at refl i
heard_sound s (packets.PubRel p) at i = pubrel_sound (set.contains s.core.incoming p.pkid) s p.reason p.pkid at i
heard_sound s (packets.Publish p) at i = publish_heard (is_some (topic_of s p)) s p at i
heard_sound s (packets.ConnAck p) at i = connack_sound p.code p.properties s at i
heard_sound s packet at i = i

pub inc_sound : (s : Session) (packet : Packet) (at : ℕ) → Sound s.core → Sound (on_packet s packet at).1.core
unfolding on_packet
inc_sound s packet at i = noted (event_of s packet)
  where
    noted : (o : Option Packet) → Sound (answer_to (with_notice s o) packet at).1.core
    noted None = heard_sound s packet at i
    noted (Some x) = heard_sound (with_incoming s x) packet at i

-- ---- any call

-- a resume sets dup of the publishes that await their acks, or changes nothing
resume_either : (P : Core → Type 0) (s : Session) (at : ℕ) → Sound s.core → P (with_dup s.core) → P s.core → P (kept_by s (resume_of s at)).core
resume_either P s at i sent kept =
    subst (λ r. P (kept_by s r).core) (sym (resumes s at (within_fits s.core.limit s.core.in_use i.0))) (by (by_id (alias_again s.core.alias_max) s.core.limit s.core.in_use))
  where
    by : (xs : List ℕ) → P (kept_by s (sent_unless xs (packets_of s.core.limit s.core.in_use) (in_use_again s.core.in_use) (on_clean s) at)).core
    by [] = sent
    by (x ∷ xs) = kept

-- it keeps all else that decides ids and deliveries
pub resume_core : (s : Session) (at : ℕ) → Sound s.core → with_dup (kept_by s (resume_of s at)).core ≡ with_dup s.core
resume_core s at i = resume_either (λ c. with_dup c ≡ with_dup s.core) s at i (ap (λ h. record s.core { in_use = h }) (again_twice s.core.in_use)) refl

pub marked_sound : (c : Core) → Sound c → Sound (with_dup c)
marked_sound c i = (fits_again c.limit c.in_use i.0, i.1)

pub owed_marked : (c : Core) → number_owed (with_dup c) ≡ number_owed c
owed_marked c = ap (λ n. n + one_of c.waiting) (len_again c.in_use)

pub after_sound : (s : Session) (call : Call) → Sound s.core → Sound (after s call).core
after_sound s (Ask request at) i = out_sound s request at i
after_sound s (Hear packet at) i = inc_sound s packet at i
after_sound s Error i = i
after_sound s (Leave p at) i = subst Sound (sym (leave_core s p at)) i
after_sound s (Authenticate p at) i = subst Sound (sym (auth_core s p at)) i
after_sound s Clean i = (none_used s.core.limit, i.1)
after_sound s (Resume at) i = resume_either Sound s at i (marked_sound s.core i) i
after_sound s Pop i = i
after_sound s (SetAcks manual) i = i

one_call : (s : Session) (call : Call) → Sound s.core → number_owed (after s call).core + taken_in s call ≡ number_owed s.core + added_in s call
one_call s (Ask request at) i = let e = out_adds s request at in omega arith
one_call s (Hear packet at) i = let e = inc_takes s packet at in omega arith
one_call s Error i = omega arith
one_call s (Leave p at) i = let e = ap number_owed (leave_core s p at) in omega arith
one_call s (Authenticate p at) i = let e = ap number_owed (auth_core s p at) in omega arith
one_call s Clean i = let e = requests_len s.core.limit s.core.in_use i.0 in let none : len no_ids ≡ 0 = len-empty nat_cmp _ in omega arith
one_call s (Resume at) i = let e = resume_either (λ c. number_owed c ≡ number_owed s.core) s at i (owed_marked s.core) refl in omega arith
one_call s Pop i = omega arith
one_call s (SetAcks manual) i = omega arith

adds_up : (s : Session) (calls : List Call) → Sound s.core → number_owed (after_all s calls).core + taken_by s calls ≡ number_owed s.core + added_by s calls
adds_up s [] i = omega arith
adds_up s (call ∷ calls) i =
    let one = one_call s call i in
    let rest = adds_up (after s call) calls (after_sound s call i) in
    omega arith

pub ledger : (limit : ℕ) (manual : Bool) (calls : List Call) → IsLedger limit manual calls
ledger limit manual calls =
    let all = adds_up (fresh limit manual) calls (none_used limit, tt {0}) in
    let none : len no_ids ≡ 0 = len-empty nat_cmp _ in
    omega arith
