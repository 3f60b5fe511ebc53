-- What a packet from the broker is answered with is said in short.
use Rattle.std.proofs.Common.{◌≡◌, ℕ, Bool, true, false, ◌==◌, Option, Some, None, Result, Ok, Err, refl, sym, ap, ◌∙◌, subst}
use Rattle.std.proofs.lemmas.Bool.{eqb-true}
use Rattle.std.specs.Prelude.{is_some, option_map}
use Rattle.std.specs.FinMap.{get, insert}
use Rattle.std.specs.FinSet as set
use Rattle.mqtt5_base.specs.declared.quality.QoS.{QoS}
use Rattle.mqtt5_base.specs.declared.quality.QoS.TheVariants.{AtMostOnce, AtLeastOnce, ExactlyOnce}
use Rattle.mqtt5_publish.specs.declared.publish.Publish.{Publish}
use Rattle.mqtt5_publish.specs.declared.puback.PubAckReason.{PubAckReason}
use Rattle.mqtt5_publish.specs.declared.pubrel.PubRelReason.{PubRelReason}
use Rattle.mqtt5_publish.specs.declared.pubrel.PubRelReason.TheVariants as pubrel_reasons
use Rattle.mqtt5_control.specs.declared.connack.ConnectReturnCode.{ConnectReturnCode}
use Rattle.mqtt5_control.specs.declared.connack.ConnectReturnCode.TheVariants as return_codes
use Rattle.mqtt5_control.specs.declared.connack.ConnAckProperties.{ConnAckProperties}
use Rattle.mqtt5_codec.specs.declared.packet.Packet.{Packet}
use Rattle.mqtt5_codec.specs.declared.packet.Packet.TheVariants as packets
use Rattle.mqtt5_inflight.specs.declared.slot.Slot.{Slot}
use Rattle.mqtt5_inflight.specs.declared.slot.Slot.TheVariants.{Sent, Released}
use Rattle.mqtt5_inflight.specs.declared.event.Outgoing.{Outgoing}
use Rattle.mqtt5_inflight.specs.declared.error.StateError.{StateError}
use Rattle.mqtt5_inflight.specs.InUse.{InUse, awaiting_ack}
use Rattle.mqtt5_inflight.proofs.Exports.{get_insert_same}
use Rattle.mqtt5_session.specs.declared.reply.Reply.{Reply}
use Rattle.mqtt5_session.specs.declared.reply.Reply.TheVariants as replies
use Rattle.mqtt5_session.specs.Session.{Session, Answer, Receives, Sends}
use Rattle.mqtt5_session.specs.Requests.{Verdict, Wait, verdict_of, awaits, out_acked, out_identified}
use Rattle.mqtt5_session.specs.Packets.{on_packet, answer_to, with_notice, event_of, freed_for, on_puback, on_received, on_pubrec, on_pubcomp, on_pubrel, on_publish, on_qos, answers, on_connack, is_taken, topic_of}
use Rattle.mqtt5_session.specs.Replies.{packet_of, in_full}
use Rattle.mqtt5_session.specs.Short.{in_short}
use Rattle.mqtt5_session.specs.Planned.{Stores}
use Rattle.mqtt5_session.specs.Ledger.{unless_refused}
use Rattle.mqtt5_session.proofs.Owed.{choose}

-- a publish that was stored is the reply of its id
pub stands : (in_use : InUse) (p : Publish) (id : ℕ) → p.pkid ≡ id → option_map packets.Publish (awaiting_ack (get (insert in_use id (Sent p)) p.pkid)) ≡ Some (packets.Publish p)
stands in_use p id e =
    ap (λ (k : ℕ). option_map packets.Publish (awaiting_ack (get (insert in_use id (Sent p)) k))) e
    ∙ ap (λ (x : Option Slot). option_map packets.Publish (awaiting_ack x)) (get_insert_same in_use id (Sent p))

-- an answer is said in short
abbrev IsSaid : Result (Option Packet) StateError → Session → Type 0
IsSaid (Ok reply) t = packet_of (in_short reply) t ≡ reply
IsSaid (Err e) t = Unit {0}

abbrev Said : Answer → Type 0
Said a = IsSaid a.0 a.1

freed_said : (w : Option Publish) (s : Session) (id at : ℕ) → Said (freed_for w s id at)
freed_said None s id at = refl
freed_said (Some p) s id at = choose Said (p.pkid == id) _ _ (λ e. stands s.core.in_use p id (eqb-true p.pkid id e)) (λ _. refl)

puback_said : (x : Option Slot) (s : Session) (id at : ℕ) → Said (on_puback x s id at)
puback_said None s id at = tt {0}
puback_said (Some Released) s id at = tt {0}
puback_said (Some (Sent p)) s id at = freed_said s.core.waiting s id at

pubcomp_said : (x : Option Slot) (s : Session) (id at : ℕ) → Said (on_pubcomp x s id at)
pubcomp_said None s id at = tt {0}
pubcomp_said (Some (Sent p)) s id at = tt {0}
pubcomp_said (Some Released) s id at = freed_said s.core.waiting s id at

received_said : (b : Bool) (s : Session) (id at : ℕ) → Said (on_received b s id at)
received_said true s id at = refl
received_said false s id at = freed_said s.core.waiting s id at

pubrec_said : (x : Option Slot) (s : Session) (reason : PubAckReason) (id at : ℕ) → Said (on_pubrec x s reason id at)
pubrec_said None s reason id at = tt {0}
pubrec_said (Some Released) s reason id at = tt {0}
pubrec_said (Some (Sent p)) s reason id at = received_said (is_taken reason) s id at

pubrel_said : (b : Bool) (s : Session) (reason : PubRelReason) (id at : ℕ) → Said (on_pubrel b s reason id at)
pubrel_said false s reason id at = refl
pubrel_said true s pubrel_reasons.Success id at = refl
pubrel_said true s reason id at = refl

connack_said : (code : ConnectReturnCode) (properties : Option ConnAckProperties) (s : Session) (at : ℕ) → Said (on_connack code properties s at)
connack_said return_codes.Success properties s at = refl
connack_said code properties s at = tt {0}

-- an ack is
acks_said : (b : Bool) (id : ℕ) (ack : Packet) (event : Outgoing) (s : Session) (at : ℕ) → ((t : Session) → packet_of (in_short (Some ack)) t ≡ Some ack) → Said (answers b ack event s at)
acks_said true id ack event s at h = refl
acks_said false id ack event s at h = h _

qos_said : (q : QoS) (s : Session) (id at : ℕ) → Said (on_qos q s id at)
qos_said AtMostOnce s id at = refl
qos_said AtLeastOnce s id at = acks_said s.core.manual_acks id _ _ s at (λ t. refl)
qos_said ExactlyOnce s id at = acks_said s.core.manual_acks id _ _ s at (λ t. refl)

publish_said : (b : Bool) (s : Session) (p : Publish) (at : ℕ) → Said (on_publish b s p at)
publish_said true s p at = qos_said p.qos _ p.pkid at
publish_said false s p at = refl

heard_said : (s : Session) (packet : Packet) (at : ℕ) → Said (answer_to s packet at)
heard_said s (packets.PubAck p) at = puback_said (get s.core.in_use p.pkid) s p.pkid at
heard_said s (packets.PubRec p) at = pubrec_said (get s.core.in_use p.pkid) s p.reason p.pkid at
heard_said s (packets.PubComp p) at = pubcomp_said (get s.core.in_use p.pkid) s p.pkid at
heard_said s (packets.PubRel p) at = pubrel_said (set.contains s.core.incoming p.pkid) s p.reason p.pkid at
heard_said s (packets.Publish p) at = publish_said (is_some (topic_of s p)) s p at
heard_said s (packets.ConnAck p) at = connack_said p.code p.properties s at
heard_said s (packets.PingResp p) at = refl
heard_said s (packets.SubAck p) at = refl
heard_said s (packets.UnsubAck p) at = refl
heard_said s (packets.Auth p) at = refl
heard_said s packet at = tt {0}

pub inc_said : (s : Session) (packet : Packet) (at : ℕ) → IsSaid (on_packet s packet at).0 (on_packet s packet at).1
unfolding on_packet
inc_said s packet at = heard_said (with_notice s (event_of s packet)) packet at

-- what is said in short of an answer is that answer
pub hears_short : (answer : Option Packet) (old new : Session) (packet : Packet) (at : ℕ) → Receives (Ok answer) old new (on_packet old packet at) → Receives (in_full (Ok (in_short answer)) new) old new (on_packet old packet at)
hears_short answer old new packet at h =
    let said : IsSaid (Ok answer) new = subst (λ (r : Result (Option Packet) StateError). IsSaid r new) (sym h.0) (subst (λ (t : Session). IsSaid (on_packet old packet at).0 t) (sym h.1) (inc_said old packet at)) in
    (ap Ok said ∙ h.0, h.1)

-- ---- a copy of a publish

-- one that is stored is sent
pub stored_is : (id : ℕ) (old new : Session) (p : Publish) (last at : ℕ) → Stores (Ok (Some id)) old new p last at → Sends (in_full (Ok (replies.Publish id)) new) old new (out_identified old p last at)
stored_is id old new p last at h =
    let said : packet_of (replies.Publish id) new ≡ Some (packets.Publish p) =
    ap (λ (k : ℕ). packet_of (replies.Publish k) new) h.0 ∙ ap (λ (t : Session). packet_of (replies.Publish p.pkid) t) h.2 ∙ stands old.core.in_use p p.pkid refl in
    subst (λ (v : Verdict). Sends (Ok (packet_of (replies.Publish id) new)) old new (out_acked v old p last at)) (sym h.1) (ap Ok said, h.2)

-- one that has to wait waits
pub waits_is : (r : Result Reply StateError) (old mid new : Session) (p : Publish) (last at : ℕ) → mid ≡ old → verdict_of old.core p ≡ Wait → Sends (in_full r new) mid new (Ok None, awaits mid p last at) → Sends (in_full r new) old new (out_identified old p last at)
waits_is r old mid new p last at same waits h =
    subst (λ (v : Verdict). Sends (in_full r new) old new (out_acked v old p last at)) (sym waits)
    (subst (λ (s : Session). Sends (in_full r new) s new (Ok None, awaits s p last at)) same h)

-- ---- what is said in short is accepted

pub accepted_full : (r : Result Reply StateError) (s : Session) (n : ℕ) → unless_refused (in_full r s) n ≡ unless_refused r n
accepted_full (Ok reply) s n = refl
accepted_full (Err e) s n = refl
