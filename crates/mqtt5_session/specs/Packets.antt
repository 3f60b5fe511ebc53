-- What each packet from the broker makes of the session: a reply or a refusal, and the session
-- after it (MQTT 5.0 sections 3 and 4.3).
use Rattle.std.specs.Prelude.{ℕ, Bool, true, false, ◌&&◌, List, [], ◌∷◌, ◌++◌, length, Option, Some}
use Rattle.std.specs.Prelude.{None, Ok, Err, ◌==◌, unwrap_or, is_some, option_map, min}
use Rattle.std.specs.Prelude.{if◌then◌else◌}
use Rattle.std.specs.Ordering.{nat_cmp}
use Rattle.std.specs.FinMap as map
use Rattle.std.specs.FinSet as set
use Rattle.mqtt5_base.specs.declared.text.Text.{Text}
use Rattle.mqtt5_base.specs.declared.quality.QoS.{QoS}
use Rattle.mqtt5_base.specs.declared.quality.QoS.TheVariants.{AtMostOnce, AtLeastOnce, ExactlyOnce}
use Rattle.mqtt5_publish.specs.declared.publish.Publish.{Publish}
use Rattle.mqtt5_publish.specs.declared.puback.PubAckReason.{PubAckReason}
use Rattle.mqtt5_publish.specs.declared.puback.PubAckReason.TheVariants.{Success}
use Rattle.mqtt5_publish.specs.declared.puback.PubAckReason.TheVariants.{NoMatchingSubscribers}
use Rattle.mqtt5_publish.specs.declared.pubrel.PubRelReason.{PubRelReason}
use Rattle.mqtt5_publish.specs.declared.pubrel.PubRelReason.TheVariants as pubrel_reasons
use Rattle.mqtt5_control.specs.declared.connack.ConnectReturnCode.{ConnectReturnCode}
use Rattle.mqtt5_control.specs.declared.connack.ConnectReturnCode.TheVariants as return_codes
use Rattle.mqtt5_control.specs.declared.connack.ConnAckProperties.{ConnAckProperties}
use Rattle.mqtt5_control.specs.declared.disconnect.DisconnectReasonCode.TheVariants.{ProtocolError}
use Rattle.mqtt5_control.specs.declared.disconnect.DisconnectProperties.{DisconnectProperties}
use Rattle.mqtt5_codec.specs.declared.packet.Packet.{Packet}
use Rattle.mqtt5_codec.specs.declared.packet.Packet.TheVariants as packets
use Rattle.mqtt5_inflight.specs.declared.slot.Slot.{Slot}
use Rattle.mqtt5_inflight.specs.declared.slot.Slot.TheVariants.{Sent, Released}
use Rattle.mqtt5_inflight.specs.declared.event.Event.TheVariants as events
use Rattle.mqtt5_inflight.specs.declared.event.Outgoing.{Outgoing}
use Rattle.mqtt5_inflight.specs.declared.event.Outgoing.TheVariants as outgoing
use Rattle.mqtt5_inflight.specs.declared.error.StateError.TheVariants as errors
use Rattle.mqtt5_inflight.specs.Aliases.{alias_of}
use Rattle.mqtt5_session.specs.Session.{Topics, Session, Answer, with_event}
use Rattle.mqtt5_session.specs.Requests.{release_of, disconnect_of}

-- an event of the broker is told
abbrev pub with_incoming : Session → Packet → Session
with_incoming s packet = record s { events = s.events ++ events.Incoming packet ∷ [] }

-- a packet was taken at this moment, with nothing to send
abbrev pub takes : Session → ℕ → Answer
takes s at = (Ok None, record s { last_incoming = at })

-- ---- acks of what the client sent

-- let go: an id is made free, and the publish that waits for that id is stored and sent (2.2.1)
abbrev pub freed_for : Option Publish → Session → ℕ → ℕ → Answer
freed_for None s id at =
    takes (record s { core = record s.core { in_use = map.remove s.core.in_use id } }) at
freed_for (Some p) s id at =
    if p.pkid == id then (
      Ok (Some (packets.Publish p)),
      record (with_event s (outgoing.Publish id)) {
        core = record s.core { in_use = map.insert s.core.in_use id (Sent p); waiting = None };
        collision_pings = 0;
        last_incoming = at;
      },
    )
    else takes (record s { core = record s.core { in_use = map.remove s.core.in_use id } }) at

-- a PubAck ends the publish that awaits it, whatever its reason (4.3.2)
abbrev pub on_puback : Option Slot → Session → ℕ → ℕ → Answer
on_puback (Some (Sent p)) s id at = freed_for s.core.waiting s id at
on_puback other s id at = (Err (errors.Unsolicited id), s)

-- whether a publish of QoS 2 was taken, by the reason of its PubRec (3.5.2.1)
abbrev pub is_taken : PubAckReason → Bool
is_taken Success = true
is_taken NoMatchingSubscribers = true
is_taken other = false

-- a publish that was taken is released; one that wasn't is ended (4.3.3)
abbrev pub on_received : Bool → Session → ℕ → ℕ → Answer
on_received true s id at = (
  Ok (Some (release_of id)),
  record (with_event s
      (outgoing.PubRel id)) {
        core = record s.core {
          in_use = map.insert s.core.in_use id Released;
        };
        last_incoming = at;
      },
)
on_received false s id at = freed_for s.core.waiting s id at

-- a PubRec answers the publish that awaits it (4.3.3)
abbrev pub on_pubrec : Option Slot → Session → PubAckReason → ℕ → ℕ → Answer
on_pubrec (Some (Sent p)) s reason id at = on_received (is_taken reason) s id at
on_pubrec other s reason id at = (Err (errors.Unsolicited id), s)

-- a PubComp ends the release that awaits it, whatever its reason (4.3.3)
abbrev pub on_pubcomp : Option Slot → Session → ℕ → ℕ → Answer
on_pubcomp (Some Released) s id at = freed_for s.core.waiting s id at
on_pubcomp other s id at = (Err (errors.Unsolicited id), s)

-- ---- what the broker publishes

-- the answer to a release (3.7)
abbrev pub pubcomp_of : ℕ → PubRelReason → Packet
pubcomp_of id reason = packets.PubComp (record { pkid = id; reason = reason; properties = None })

-- a release of success of an id that was there is answered (4.3.3)
abbrev pub on_released : PubRelReason → Session → ℕ → ℕ → Answer
on_released pubrel_reasons.Success s id at = (
  Ok (Some (pubcomp_of id pubrel_reasons.Success)),
  record (with_event s (outgoing.PubComp id)) { last_incoming = at },
)
on_released other s id at = takes s at

-- a PubRel takes out the id of a publish that came; of another id it is answered that it isn't
-- there (4.3.3, 3.7.2.1)
abbrev pub on_pubrel : Bool → Session → PubRelReason → ℕ → ℕ → Answer
on_pubrel true s reason id at =
    on_released reason
    (record s { core = record s.core { incoming = set.remove s.core.incoming id } }) id at
on_pubrel false s reason id at = (
  Ok (Some (pubcomp_of id pubrel_reasons.PacketIdentifierNotFound)),
  record (with_event s (outgoing.PubComp id)) { last_incoming = at },
)

-- the topic of a publish: its own, or where that is empty the one that its alias stands for; None
-- where the alias isn't known (3.3.2.3.4)
abbrev pub topic_under : Option ℕ → List ℕ → Topics → Option (List ℕ)
topic_under None topic topics = Some topic
topic_under (Some alias) topic topics =
    if length topic == 0 then map.get topics alias else Some topic

-- the topic of a publish of this session
abbrev pub topic_of : Session → Publish → Option (List ℕ)
topic_of s p = topic_under (alias_of p) p.topic s.core.aliases

-- an alias stands for a topic that came with it (3.3.2.3.4)
abbrev pub topics_with : Option ℕ → List ℕ → Topics → Topics
topics_with None topic topics = topics
topics_with (Some alias) topic topics =
    if length topic == 0 then topics else map.insert topics alias topic

-- an ack is sent, unless the user does it (4.3.2, 4.3.3)
abbrev pub answers : Bool → Packet → Outgoing → Session → ℕ → Answer
answers true ack event s at = takes s at
answers false ack event s at = (Ok (Some ack), record (with_event s event) { last_incoming = at })

-- the ids of publishes that aren't released: one of QoS 2 adds its own, also where it is among them
-- (4.3.3)
abbrev pub ids_with : QoS → set.FinSet nat_cmp → ℕ → set.FinSet nat_cmp
ids_with AtMostOnce ids id = ids
ids_with AtLeastOnce ids id = ids
ids_with ExactlyOnce ids id = set.insert ids id

-- the ack of a publish of QoS 1 (3.4)
abbrev pub puback_of : ℕ → Packet
puback_of id = packets.PubAck (record { pkid = id; reason = Success; properties = None })

-- the first ack of a publish of QoS 2 (3.5)
abbrev pub pubrec_of : ℕ → Packet
pubrec_of id = packets.PubRec (record { pkid = id; reason = Success; properties = None })

-- a publish is acked by its QoS (4.3)
abbrev pub on_qos : QoS → Session → ℕ → ℕ → Answer
on_qos AtMostOnce s id at = takes s at
on_qos AtLeastOnce s id at = answers s.core.manual_acks (puback_of id) (outgoing.PubAck id) s at
on_qos ExactlyOnce s id at = answers s.core.manual_acks (pubrec_of id) (outgoing.PubRec id) s at

-- a publish is taken where its topic is known; else its alias is an error of the broker (3.3.2.3.4)
abbrev pub on_publish : Bool → Session → Publish → ℕ → Answer
on_publish true s p at =
    on_qos p.qos
    (record
    s {
      core = record s.core {
        aliases = topics_with (alias_of p) p.topic s.core.aliases;
        incoming = ids_with p.qos s.core.incoming p.pkid;
      };
    })
    p.pkid at
on_publish false s p at = (
  Ok (Some (disconnect_of ProtocolError)),
  record (with_event s outgoing.Disconnect) { last_incoming = at },
)

-- ---- the connection

-- the broker's maximum of topic aliases, where it says one; else it stays (3.2.2.3.8)
abbrev pub aliases_allowed : Option ConnAckProperties → ℕ → ℕ
aliases_allowed None max = max
aliases_allowed (Some set) max = unwrap_or set.topic_alias_max max

-- the current maximum: what the broker takes ahead of its acks, within the limit, where it says so;
-- else it stays (3.2.2.3.3)
abbrev pub current_allowed : Option ConnAckProperties → ℕ → ℕ → ℕ
current_allowed None limit current = current
current_allowed (Some set) limit current =
    unwrap_or (option_map (λ max. min max limit) set.receive_max) current

-- a ConnAck says what the broker allows, or why it refuses the connection (3.2)
abbrev pub on_connack : ConnectReturnCode → Option ConnAckProperties → Session → ℕ → Answer
on_connack return_codes.Success properties s at =
    takes
    (record
    s {
      core = record s.core {
        alias_max = aliases_allowed properties s.core.alias_max;
        current = current_allowed properties s.core.limit s.core.current;
      };
    })
    at
on_connack code properties s at = (Err (errors.ConnFail code), s)

-- why the broker ends the connection, as a text (3.14.2.2.3)
abbrev pub reason_in : Option DisconnectProperties → Option Text
reason_in None = None
reason_in (Some set) = set.reason_string

-- ---- packets

-- a packet that was told of
abbrev pub answer_to : Session → Packet → ℕ → Answer
answer_to s (packets.PubAck p) at = on_puback (map.get s.core.in_use p.pkid) s p.pkid at
answer_to s (packets.PubRec p) at = on_pubrec (map.get s.core.in_use p.pkid) s p.reason p.pkid at
answer_to s (packets.PubComp p) at = on_pubcomp (map.get s.core.in_use p.pkid) s p.pkid at
answer_to s (packets.PubRel p) at =
    on_pubrel (set.contains s.core.incoming p.pkid) s p.reason p.pkid at
answer_to s (packets.Publish p) at = on_publish (is_some (topic_of s p)) s p at
answer_to s (packets.ConnAck p) at = on_connack p.code p.properties s at
answer_to s (packets.PingResp p) at = takes (record s { awaits_ping = false }) at
answer_to s (packets.SubAck p) at = takes s at
answer_to s (packets.UnsubAck p) at = takes s at
answer_to s (packets.Auth p) at = takes s at
answer_to s (packets.Disconnect p) at =
    (Err (errors.ServerDisconnect p.reason_code (reason_in p.properties)), s)
answer_to s other at = (Err errors.WrongPacket, s)

-- whether a publish is of QoS 2 (4.3.3)
abbrev pub is_exactly_once : QoS → Bool
is_exactly_once ExactlyOnce = true
is_exactly_once qos = false

-- what is told of a packet: itself, a publish with the topic that its alias stands for (3.3.2.3.4);
-- nothing of a publish of QoS 2 under an id of one that the broker hasn't released, which is a
-- duplicate (4.3.3)
abbrev pub event_of : Session → Packet → Option Packet
event_of s (packets.Publish p) =
    if is_exactly_once p.qos && set.contains s.core.incoming p.pkid then None
    else Some (packets.Publish (record p { topic = unwrap_or (topic_of s p) p.topic }))
event_of s packet = Some packet

-- it is told
abbrev pub with_notice : Session → Option Packet → Session
with_notice s None = s
with_notice s (Some packet) = with_incoming s packet

-- a packet: its reply or its refusal, and the session after it, which has its event in both cases,
-- unless it is a duplicate
unfoldable pub on_packet : Session → Packet → ℕ → Answer
on_packet s packet at = answer_to (with_notice s (event_of s packet)) packet at
