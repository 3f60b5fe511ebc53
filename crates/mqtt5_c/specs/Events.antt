-- Events as numbers; what an event hasn't is 0.
use Rattle.std.specs.Prelude.{◌≡◌, ℕ, Bool, true, false, ◌&&◌, nat_le, List, [], ◌∷◌, ◌++◌, length}
use Rattle.std.specs.Prelude.{Option, None, Some, IsSome, IfSome, drop}
use Rattle.mqtt5_base.specs.Views.{qos_number}
use Rattle.mqtt5_publish.specs.declared.publish.Publish.{Publish}
use Rattle.mqtt5_publish.specs.Acks.{puback_code}
use Rattle.mqtt5_subscribe.specs.declared.suback.SubscribeReasonCode.{SubscribeReasonCode}
use Rattle.mqtt5_subscribe.specs.declared.unsuback.UnsubAckReason.{UnsubAckReason}
use Rattle.mqtt5_subscribe.specs.SubAcks.{suback_code}
use Rattle.mqtt5_subscribe.specs.UnsubAcks.{unsuback_code}
use Rattle.mqtt5_control.specs.declared.connack.ConnAck.{ConnAck}
use Rattle.mqtt5_control.specs.ConnAcks.{connack_code}
use Rattle.mqtt5_control.specs.Disconnects.{disconnect_code}
use Rattle.mqtt5_codec.specs.declared.packet.Packet.{Packet}
use Rattle.mqtt5_codec.specs.declared.packet.Packet.TheVariants as packets
use Rattle.mqtt5_inflight.specs.declared.event.Event.{Event}
use Rattle.mqtt5_inflight.specs.declared.event.Event.TheVariants as events
use Rattle.mqtt5_inflight.specs.declared.event.Outgoing.{Outgoing}
use Rattle.mqtt5_inflight.specs.declared.event.Outgoing.TheVariants as outgoing
use Rattle.mqtt5_client.specs.declared.client.Client.{Client}
use Rattle.mqtt5_holder.specs.declared.holder.Holder.{Holder}
use Rattle.mqtt5_c.specs.declared.event.EventInfo.{EventInfo}
use Rattle.mqtt5_c.specs.Numbers.{small_buffer}

-- no event
abbrev pub nothing_told : EventInfo
nothing_told = record {
  kind = 0;
  packet = 0;
  pkid = 0;
  code = 0;
  qos = 0;
  dup = false;
  retain = false;
  session_present = false;
  topic_len = 0;
  payload_len = 0;
}

-- a packet of a type (MQTT 5.0 section 2.1.2) that came, with its packet identifier and its reason
-- code
abbrev pub came : ℕ → ℕ → ℕ → EventInfo
came packet pkid code = record nothing_told { kind = 1; packet = packet; pkid = pkid; code = code }

-- one that was answered to send
abbrev pub sent : ℕ → ℕ → EventInfo
sent packet pkid = record (came packet pkid 0) { kind = 2 }

-- a Publish that came (3.3)
abbrev pub publish_told : Publish → EventInfo
publish_told p = record (came 3 p.pkid 0) {
  qos = qos_number p.qos;
  dup = p.dup;
  retain = p.retain;
  topic_len = length p.topic;
  payload_len = length p.payload;
}

-- a ConnAck that came (3.2)
abbrev pub connack_told : ConnAck → EventInfo
connack_told a = record (came 2 0 (connack_code a.code)) { session_present = a.session_present }

-- the code of the first filter (3.9.3)
abbrev pub first_sub : List SubscribeReasonCode → ℕ
first_sub [] = 0
first_sub (code ∷ codes) = suback_code code

-- the code of the first filter (3.11.3)
abbrev pub first_unsub : List UnsubAckReason → ℕ
first_unsub [] = 0
first_unsub (reason ∷ reasons) = unsuback_code reason

-- a packet that came
abbrev pub packet_told : Packet → EventInfo
packet_told (packets.Connect connect will login) = came 1 0 0
packet_told (packets.ConnAck a) = connack_told a
packet_told (packets.Publish p) = publish_told p
packet_told (packets.PubAck a) = came 4 a.pkid (puback_code a.reason)
packet_told (packets.PubRec a) = came 5 a.pkid (puback_code a.reason)
packet_told (packets.PubRel a) = came 6 a.pkid 0
packet_told (packets.PubComp a) = came 7 a.pkid 0
packet_told (packets.Subscribe s) = came 8 s.pkid 0
packet_told (packets.SubAck a) = came 9 a.pkid (first_sub a.return_codes)
packet_told (packets.Unsubscribe u) = came 10 u.pkid 0
packet_told (packets.UnsubAck a) = came 11 a.pkid (first_unsub a.reasons)
packet_told (packets.PingReq p) = came 12 0 0
packet_told (packets.PingResp p) = came 13 0 0
packet_told (packets.Disconnect d) = came 14 0 (disconnect_code d.reason_code)
packet_told (packets.Auth a) = came 15 0 0

-- one that was answered to send, or a publish that waits
abbrev pub outgoing_told : Outgoing → EventInfo
outgoing_told (outgoing.Publish id) = sent 3 id
outgoing_told (outgoing.PubAck id) = sent 4 id
outgoing_told (outgoing.PubRec id) = sent 5 id
outgoing_told (outgoing.PubRel id) = sent 6 id
outgoing_told (outgoing.PubComp id) = sent 7 id
outgoing_told (outgoing.Subscribe id) = sent 8 id
outgoing_told (outgoing.Unsubscribe id) = sent 10 id
outgoing_told outgoing.PingReq = sent 12 0
outgoing_told outgoing.Disconnect = sent 14 0
outgoing_told outgoing.Auth = sent 15 0
outgoing_told (outgoing.AwaitAck id) = record (came 3 id 0) { kind = 3 }

-- an event
abbrev pub event_told : Event → EventInfo
event_told (events.Incoming packet) = packet_told packet
event_told (events.Outgoing o) = outgoing_told o

-- the oldest event, or none
abbrev pub first_told : Option Event → EventInfo
first_told None = nothing_told
first_told (Some event) = event_told event

-- the topic of a Publish that came; of another event nothing
abbrev pub topic_in : Event → List ℕ
topic_in (events.Incoming (packets.Publish p)) = p.topic
topic_in event = []

-- the payload of a Publish that came; of another event nothing
abbrev pub payload_in : Event → List ℕ
payload_in (events.Incoming (packets.Publish p)) = p.payload
payload_in event = []

-- those of the oldest event
abbrev pub first_topic : Option Event → List ℕ
first_topic None = []
first_topic (Some event) = topic_in event

abbrev pub first_payload : Option Event → List ℕ
first_payload None = []
first_payload (Some event) = payload_in event

-- whether a topic and a payload fit into buffers of these lengths
abbrev pub both_fit : List ℕ → List ℕ → ℕ → ℕ → Bool
both_fit topic payload topic_len payload_len =
    nat_le (length topic) topic_len && nat_le (length payload) payload_len

-- whether those of the oldest event do
abbrev pub has_room : Option Event → ℕ → ℕ → Bool
has_room first topic_len payload_len =
    both_fit (first_topic first) (first_payload first) topic_len payload_len

-- a buffer whose beginning is these bytes
abbrev pub over : List ℕ → List ℕ → List ℕ
over bytes buffer = bytes ++ drop (length bytes) buffer

-- the same with room; without it the buffer is as before
abbrev pub over_if : Bool → List ℕ → List ℕ → List ℕ
over_if true bytes buffer = over bytes buffer
over_if false bytes buffer = buffer

-- with room the oldest event is taken out, and nothing else is; without it the client is as before
abbrev pub Pops : Bool → Client → ℕ → Client → Type 0
Pops true old code new =
    (code ≡ 0)
    × (new ≡ record old { state = record old.state { events = drop 1 old.state.events } })
Pops false old code new = (code ≡ small_buffer) × (new ≡ old)

-- the same in a holder, of which the rest is as before
abbrev pub PopsIn : Bool → Holder → ℕ → Option Holder → Type 0
PopsIn room old code after =
    IsSome after
    × IfSome after
    (λ new. (new ≡ record old { client = new.client }) × Pops room old.client code new.client)
