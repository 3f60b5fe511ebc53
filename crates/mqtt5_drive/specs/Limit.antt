-- The longest packet that the broker takes, as its ConnAck says (MQTT 5.0 section 3.2.2.3.6).
use Rattle.std.specs.Prelude.{ℕ, List, [], ◌∷◌, Option, None, Some}
use Rattle.mqtt5_control.specs.declared.connack.ConnectReturnCode.{ConnectReturnCode}
use Rattle.mqtt5_control.specs.declared.connack.ConnectReturnCode.TheVariants as return_codes
use Rattle.mqtt5_control.specs.declared.connack.ConnAckProperties.{ConnAckProperties}
use Rattle.mqtt5_codec.specs.declared.packet.Packet.TheVariants as packets
use Rattle.mqtt5_codec.specs.declared.codec.Codec.{Codec}
use Rattle.mqtt5_inflight.specs.declared.event.Event.{Event}
use Rattle.mqtt5_inflight.specs.declared.event.Event.TheVariants as events

-- what the properties of a ConnAck say of it; where they don't, there is no limit
abbrev pub size_in : Option ConnAckProperties → Option ℕ
size_in None = None
size_in (Some set) = set.max_packet_size

-- a ConnAck of success sets it; one that refuses the connection doesn't
abbrev pub size_by : ConnectReturnCode → Option ConnAckProperties → Option ℕ → Option ℕ
size_by return_codes.Success properties limit = size_in properties
size_by code properties limit = limit

-- nor does any other event
abbrev pub size_after : Event → Option ℕ → Option ℕ
size_after (events.Incoming (packets.ConnAck a)) limit = size_by a.code a.properties limit
size_after event limit = limit

-- after these events, one after the other
abbrev pub size_allowed : List Event → Option ℕ → Option ℕ
size_allowed [] limit = limit
size_allowed (event ∷ events) limit = size_allowed events (size_after event limit)

-- the codec with that limit
abbrev pub codec_after : List Event → Codec → Codec
codec_after events codec = record codec {
  max_outgoing_size = size_allowed events codec.max_outgoing_size;
}
