-- What is said to calls doesn't depend on the topics of aliases, but for publishes of the broker's that have an alias alone.
use Rattle.std.proofs.Common.{◌≡◌, ℕ, Bool, true, false, cond, ◌==◌, Option, Some, None, refl, sym, ap, ◌∙◌, subst, length, nat_lt}
use Rattle.std.specs.Prelude.{is_some}
use Rattle.std.specs.FinMap.{get}
use Rattle.std.specs.FinSet as set
use Rattle.mqtt5_base.specs.declared.quality.QoS.{QoS}
use Rattle.mqtt5_base.specs.declared.quality.QoS.TheVariants.{AtMostOnce, AtLeastOnce, ExactlyOnce}
use Rattle.mqtt5_publish.specs.declared.publish.Publish.{Publish}
use Rattle.mqtt5_publish.specs.declared.puback.PubAckReason.{PubAckReason}
use Rattle.mqtt5_publish.specs.declared.pubrel.PubRelReason.{PubRelReason}
use Rattle.mqtt5_publish.specs.declared.pubrel.PubRelReason.TheVariants as pubrel_reasons
use Rattle.mqtt5_control.specs.declared.connack.ConnectReturnCode.{ConnectReturnCode}
use Rattle.mqtt5_control.specs.declared.connack.ConnectReturnCode.TheVariants as return_codes
use Rattle.mqtt5_control.specs.declared.connack.ConnAckProperties.{ConnAckProperties}
use Rattle.mqtt5_subscribe.specs.declared.subscribe.Subscribe.{Subscribe}
use Rattle.mqtt5_codec.specs.declared.packet.Packet.{Packet}
use Rattle.mqtt5_codec.specs.declared.packet.Packet.TheVariants as packets
use Rattle.mqtt5_inflight.specs.declared.slot.Slot.{Slot}
use Rattle.mqtt5_inflight.specs.declared.slot.Slot.TheVariants.{Sent, Released}
use Rattle.mqtt5_inflight.specs.declared.event.Request.{Request}
use Rattle.mqtt5_inflight.specs.declared.event.Request.TheVariants as requests
use Rattle.mqtt5_inflight.specs.declared.event.Outgoing.{Outgoing}
use Rattle.mqtt5_inflight.specs.declared.error.StateError.{StateError}
use Rattle.mqtt5_inflight.specs.Aliases.{alias_of}
use Rattle.mqtt5_session.specs.Session.{Topics, Core, Session, Answer}
use Rattle.mqtt5_session.specs.Requests.{on_request, unless, over_maximum, Verdict, Refuse, Wait, Store, verdict_of, out_acked, out_publish, out_release, out_known, out_subscribe, id_for, last_after, ping_fault, counts_ping}
use Rattle.mqtt5_session.specs.Packets.{on_packet, answer_to, with_incoming, with_notice, event_of, freed_for, on_puback, on_received, on_pubrec, on_pubcomp, on_pubrel, on_released, on_publish, on_qos, answers, on_connack, is_taken, topic_under, topics_with, ids_with}

-- the session with these topics, and the answer with them
abbrev pub with_topics : Topics → Session → Session
with_topics a s = record s { core = record s.core { aliases = a } }

abbrev pub under : Topics → Answer → Answer
under a x = (x.0, with_topics a x.1)

choose : (b : Bool) (a : Topics) (x y z w : Answer) → z ≡ under a x → w ≡ under a y → cond b z w ≡ under a (cond b x y)
choose true a x y z w h k = h
choose false a x y z w h k = k

-- ---- requests

acked_under : (v : Verdict) (a : Topics) (s : Session) (p : Publish) (last at : ℕ) → out_acked v (with_topics a s) p last at ≡ under a (out_acked v s p last at)
acked_under (Refuse e) a s p last at = refl
acked_under Wait a s p last at = refl
acked_under Store a s p last at = refl

unless_under : (o : Option StateError) (a : Topics) (s : Session) (x z : Answer) → z ≡ under a x → unless o (with_topics a s) z ≡ under a (unless o s x)
unless_under None a s x z h = h
unless_under (Some e) a s x z h = refl

publish_under : (q : QoS) (a : Topics) (s : Session) (p : Publish) (at : ℕ) → out_publish q (with_topics a s) p at ≡ under a (out_publish q s p at)
publish_under AtMostOnce a s p at = unless_under (over_maximum s.core p) a s _ _ refl
publish_under AtLeastOnce a s p at = acked_under (verdict_of s.core (record p { pkid = id_for s.core p.pkid })) a s (record p { pkid = id_for s.core p.pkid }) (last_after s.core p.pkid) at
publish_under ExactlyOnce a s p at = acked_under (verdict_of s.core (record p { pkid = id_for s.core p.pkid })) a s (record p { pkid = id_for s.core p.pkid }) (last_after s.core p.pkid) at

known_under : (x : Option Slot) (a : Topics) (s : Session) (id last at : ℕ) → out_known x (with_topics a s) id last at ≡ under a (out_known x s id last at)
known_under None a s id last at = refl
known_under (Some Released) a s id last at = refl
known_under (Some (Sent p)) a s id last at = refl

release_under : (a : Topics) (s : Session) (id last at : ℕ) → out_release (with_topics a s) id last at ≡ under a (out_release s id last at)
release_under a s id last at = choose (nat_lt s.core.limit id) a _ _ _ _ refl (known_under (get s.core.in_use id) a s id last at)

subscribe_under : (a : Topics) (s : Session) (p : Subscribe) (at : ℕ) → out_subscribe (with_topics a s) p at ≡ under a (out_subscribe s p at)
subscribe_under a s p at = choose (length p.filters == 0) a _ _ _ _ refl refl

pub request_under : (a : Topics) (s : Session) (r : Request) (at : ℕ) → on_request (with_topics a s) r at ≡ under a (on_request s r at)
unfolding on_request
request_under a s (requests.Publish p) at = publish_under p.qos a s p at
request_under a s (requests.PubRel p) at = release_under a s (id_for s.core p.pkid) (last_after s.core p.pkid) at
request_under a s (requests.Subscribe p) at = subscribe_under a s p at
request_under a s requests.PingReq at = unless_under (ping_fault s.core.waiting (counts_ping s).collision_pings s.awaits_ping) a (counts_ping s) _ _ refl
request_under a s r at = refl

-- ---- packets

freed_under : (o : Option Publish) (a : Topics) (s : Session) (id at : ℕ) → freed_for o (with_topics a s) id at ≡ under a (freed_for o s id at)
freed_under None a s id at = refl
freed_under (Some p) a s id at = choose (p.pkid == id) a _ _ _ _ refl refl

puback_under : (x : Option Slot) (a : Topics) (s : Session) (id at : ℕ) → on_puback x (with_topics a s) id at ≡ under a (on_puback x s id at)
puback_under None a s id at = refl
puback_under (Some Released) a s id at = refl
puback_under (Some (Sent p)) a s id at = freed_under s.core.waiting a s id at

received_under : (b : Bool) (a : Topics) (s : Session) (id at : ℕ) → on_received b (with_topics a s) id at ≡ under a (on_received b s id at)
received_under true a s id at = refl
received_under false a s id at = freed_under s.core.waiting a s id at

pubrec_under : (x : Option Slot) (a : Topics) (s : Session) (reason : PubAckReason) (id at : ℕ) → on_pubrec x (with_topics a s) reason id at ≡ under a (on_pubrec x s reason id at)
pubrec_under None a s reason id at = refl
pubrec_under (Some Released) a s reason id at = refl
pubrec_under (Some (Sent p)) a s reason id at = received_under (is_taken reason) a s id at

pubcomp_under : (x : Option Slot) (a : Topics) (s : Session) (id at : ℕ) → on_pubcomp x (with_topics a s) id at ≡ under a (on_pubcomp x s id at)
pubcomp_under None a s id at = refl
pubcomp_under (Some (Sent p)) a s id at = refl
pubcomp_under (Some Released) a s id at = freed_under s.core.waiting a s id at

released_under : (reason : PubRelReason) (a : Topics) (s : Session) (id at : ℕ) → on_released reason (with_topics a s) id at ≡ under a (on_released reason s id at)
released_under pubrel_reasons.Success a s id at = refl
released_under reason a s id at = refl

pubrel_under : (b : Bool) (a : Topics) (s : Session) (reason : PubRelReason) (id at : ℕ) → on_pubrel b (with_topics a s) reason id at ≡ under a (on_pubrel b s reason id at)
pubrel_under true a s reason id at = released_under reason a (record s { core = record s.core { incoming = set.remove s.core.incoming id } }) id at
pubrel_under false a s reason id at = refl

connack_under : (code : ConnectReturnCode) (properties : Option ConnAckProperties) (a : Topics) (s : Session) (at : ℕ) → on_connack code properties (with_topics a s) at ≡ under a (on_connack code properties s at)
connack_under return_codes.Success properties a s at = refl
connack_under code properties a s at = refl

abbrev pub IsPublish : Packet → Type 0
IsPublish (packets.Publish p) = Unit {0}
IsPublish packet = ⊥

pub packet_under : (a : Topics) (s : Session) (x : Packet) (at : ℕ) → (IsPublish x → ⊥) → on_packet (with_topics a s) x at ≡ under a (on_packet s x at)
unfolding on_packet
packet_under a s (packets.Publish p) at other = absurd (other (tt {0}))
packet_under a s (packets.PubAck p) at other = puback_under (get s.core.in_use p.pkid) a (with_incoming s (packets.PubAck p)) p.pkid at
packet_under a s (packets.PubRec p) at other = pubrec_under (get s.core.in_use p.pkid) a (with_incoming s (packets.PubRec p)) p.reason p.pkid at
packet_under a s (packets.PubComp p) at other = pubcomp_under (get s.core.in_use p.pkid) a (with_incoming s (packets.PubComp p)) p.pkid at
packet_under a s (packets.PubRel p) at other = pubrel_under (set.contains s.core.incoming p.pkid) a (with_incoming s (packets.PubRel p)) p.reason p.pkid at
packet_under a s (packets.ConnAck p) at other = connack_under p.code p.properties a (with_incoming s (packets.ConnAck p)) at
packet_under a s x at other = refl

-- ---- publishes of the broker's

answers_under : (b : Bool) (ack : Packet) (event : Outgoing) (a : Topics) (s : Session) (at : ℕ) → answers b ack event (with_topics a s) at ≡ under a (answers b ack event s at)
answers_under true ack event a s at = refl
answers_under false ack event a s at = refl

qos_under : (q : QoS) (a : Topics) (s : Session) (id at : ℕ) → on_qos q (with_topics a s) id at ≡ under a (on_qos q s id at)
qos_under AtMostOnce a s id at = refl
qos_under AtLeastOnce a s id at = answers_under s.core.manual_acks _ _ a s at
qos_under ExactlyOnce a s id at = answers_under s.core.manual_acks _ _ a s at

-- the topics once a publish was taken, or wasn't
abbrev pub topics_after : Bool → Publish → Topics → Topics
topics_after b p a = cond b (topics_with (alias_of p) p.topic a) a

heard_under : (b : Bool) (a : Topics) (s : Session) (p : Publish) (at : ℕ) → on_publish b (with_topics a s) p at ≡ under (topics_after b p a) (on_publish b s p at)
heard_under true a s p at = qos_under p.qos (topics_with (alias_of p) p.topic a) (record s { core = record s.core { aliases = topics_with (alias_of p) p.topic s.core.aliases; incoming = ids_with p.qos s.core.incoming p.pkid } }) p.pkid at
heard_under false a s p at = refl

-- whether its topic is known
abbrev pub has_topic : Topics → Publish → Bool
has_topic a p = is_some (topic_under (alias_of p) p.topic a)

-- the reply to it is the same, and the core after it but for the topics
abbrev pub Replies : Topics → Publish → Answer → Answer → Type 0
Replies a p x z = (z.0 ≡ x.0) × (z.1.core ≡ record x.1.core { aliases = topics_after (has_topic a p) p a })

-- the same core gives the same
abbrev SameOf : Answer → Answer → Type 0
SameOf x z = (x.0 ≡ z.0) × (x.1.core ≡ z.1.core)

answers_core : (b : Bool) (ack : Packet) (event : Outgoing) (c : Core) (n m : Session) (at : ℕ) → SameOf (answers b ack event (record n { core = c }) at) (answers b ack event (record m { core = c }) at)
answers_core true ack event c n m at = (refl, refl)
answers_core false ack event c n m at = (refl, refl)

qos_core : (q : QoS) (c : Core) (n m : Session) (id at : ℕ) → SameOf (on_qos q (record n { core = c }) id at) (on_qos q (record m { core = c }) id at)
qos_core AtMostOnce c n m id at = (refl, refl)
qos_core AtLeastOnce c n m id at = answers_core c.manual_acks _ _ c n m at
qos_core ExactlyOnce c n m id at = answers_core c.manual_acks _ _ c n m at

heard_core : (b : Bool) (c : Core) (n m : Session) (p : Publish) (at : ℕ) → SameOf (on_publish b (record n { core = c }) p at) (on_publish b (record m { core = c }) p at)
heard_core true c n m p at = qos_core p.qos (record c { aliases = topics_with (alias_of p) p.topic c.aliases; incoming = ids_with p.qos c.incoming p.pkid }) n m p.pkid at
heard_core false c n m p at = (refl, refl)

heard_two : (b : Bool) (a : Topics) (n m : Session) (p : Publish) (at : ℕ) → m.core ≡ record n.core { aliases = a } → ((on_publish b m p at).0 ≡ (on_publish b n p at).0) × ((on_publish b m p at).1.core ≡ record (on_publish b n p at).1.core { aliases = topics_after b p a })
heard_two b a n m p at e =
    let c = record n.core { aliases = a } in
    let h = subst (λ x. SameOf (on_publish b (record m { core = x }) p at) (on_publish b (with_topics a n) p at)) (sym e) (heard_core b c m (with_topics a n) p at) in
    let k = heard_under b a n p at in
    (h.0 ∙ ap (λ y. y.0) k, h.1 ∙ ap (λ y. y.1.core) k)

step : (a : Topics) (n m : Session) (p : Publish) (at : ℕ) → m.core ≡ record n.core { aliases = a } → has_topic a p ≡ has_topic n.core.aliases p → Replies a p (on_publish (has_topic n.core.aliases p) n p at) (on_publish (has_topic a p) m p at)
step a n m p at e same = subst (λ b. Replies a p (on_publish b n p at) (on_publish (has_topic a p) m p at)) same (heard_two (has_topic a p) a n m p at e)

-- where its topic is known under both, or under none
pub publish_taken : (a : Topics) (s : Session) (p : Publish) (at : ℕ) → has_topic a p ≡ has_topic s.core.aliases p → Replies a p (on_packet s (packets.Publish p) at) (on_packet (with_topics a s) (packets.Publish p) at)
unfolding on_packet
publish_taken a s p at same = by (event_of s (packets.Publish p)) (event_of (with_topics a s) (packets.Publish p))
  where
    by : (o r : Option Packet) → Replies a p (answer_to (with_notice s o) (packets.Publish p) at) (answer_to (with_notice (with_topics a s) r) (packets.Publish p) at)
    by None None = step a s (with_topics a s) p at refl same
    by None (Some y) = step a s (with_incoming (with_topics a s) y) p at refl same
    by (Some x) None = step a (with_incoming s x) (with_topics a s) p at refl same
    by (Some x) (Some y) = step a (with_incoming s x) (with_incoming (with_topics a s) y) p at refl same
