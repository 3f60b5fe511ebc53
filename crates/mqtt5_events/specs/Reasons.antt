-- The reason codes of a packet that came (MQTT 5.0 section 2.4).
use Rattle.std.specs.Prelude.{ℕ, Option, None, Some, option_map, slice_get, ◌==◌, if◌then◌else◌}
use Rattle.mqtt5_publish.specs.Acks.{puback_code, pubrel_code}
use Rattle.mqtt5_subscribe.specs.SubAcks.{suback_code}
use Rattle.mqtt5_subscribe.specs.UnsubAcks.{unsuback_code}
use Rattle.mqtt5_control.specs.ConnAcks.{connack_code}
use Rattle.mqtt5_control.specs.Disconnects.{disconnect_code}
use Rattle.mqtt5_control.specs.Auths.{auth_code}
use Rattle.mqtt5_codec.specs.declared.packet.Packet.{Packet}
use Rattle.mqtt5_codec.specs.declared.packet.Packet.TheVariants as packets
use Rattle.mqtt5_inflight.specs.declared.event.Event.{Event}
use Rattle.mqtt5_inflight.specs.declared.event.Event.TheVariants as events

-- the one code of a packet
abbrev pub only : ℕ → ℕ → Option ℕ
only code i = if i == 0 then Some code else None

-- a packet's code at a place, from 0 on: of a SubAck and an UnsubAck one for each filter (3.9.3,
-- 3.11.3)
abbrev pub reason_of : Packet → ℕ → Option ℕ
reason_of (packets.ConnAck a) i = only (connack_code a.code) i
reason_of (packets.PubAck a) i = only (puback_code a.reason) i
reason_of (packets.PubRec a) i = only (puback_code a.reason) i
reason_of (packets.PubRel a) i = only (pubrel_code a.reason) i
reason_of (packets.PubComp a) i = only (pubrel_code a.reason) i
reason_of (packets.SubAck a) i = option_map suback_code (slice_get a.return_codes i)
reason_of (packets.UnsubAck a) i = option_map unsuback_code (slice_get a.reasons i)
reason_of (packets.Disconnect d) i = only (disconnect_code d.reason_code) i
reason_of (packets.Auth a) i = only (auth_code a.code) i
reason_of packet i = None

-- that of the packet that came
abbrev pub reason_in : Event → ℕ → Option ℕ
reason_in (events.Incoming packet) i = reason_of packet i
reason_in (events.Outgoing o) i = None
