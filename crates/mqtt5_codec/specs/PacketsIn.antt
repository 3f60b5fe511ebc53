-- This file serves the logic alone: the packet of a frame, as a function of its bytes; frame_laws
-- says what it answers.
use Rattle.std.specs.Prelude.{ℕ, ◌/◌, ◌==◌, List, [], ◌∷◌, Result, Ok, if◌then◌else◌}
use Rattle.mqtt5_base.specs.declared.error.Error.{Error}
use Rattle.mqtt5_base.specs.Grammar.{Content}
use Rattle.mqtt5_base.specs.Reading.{◌>>=◌, frame_at}
use Rattle.mqtt5_publish.specs.FromValues.{publish_of}
use Rattle.mqtt5_publish.specs.FromValues.{puback_of, pubrec_of, pubrel_of, pubcomp_of}
use Rattle.mqtt5_subscribe.specs.FromValues.{subscribe_of}
use Rattle.mqtt5_subscribe.specs.FromValues.{suback_of}
use Rattle.mqtt5_subscribe.specs.FromValues.{unsubscribe_of}
use Rattle.mqtt5_subscribe.specs.FromValues.{unsuback_of}
use Rattle.mqtt5_connect.specs.FromValues.{connect_of, connect_will, connect_login}
use Rattle.mqtt5_control.specs.FromValues.{connack_of}
use Rattle.mqtt5_control.specs.FromValues.{disconnect_of}
use Rattle.mqtt5_control.specs.FromValues.{auth_of}
use Rattle.mqtt5_codec.specs.declared.packet.Packet.{Packet}
use Rattle.mqtt5_codec.specs.declared.packet.Packet.TheVariants as packets
use Rattle.mqtt5_codec.specs.Packets.{packet_rows}

-- a packet from its type and its values
abbrev pub packet_of : ℕ → Content → Packet
packet_of kind c =
    if kind == 1 then packets.Connect (connect_of c) (connect_will c) (connect_login c)
    else if kind == 2 then packets.ConnAck (connack_of c)
    else if kind == 4 then packets.PubAck (puback_of c)
    else if kind == 5 then packets.PubRec (pubrec_of c)
    else if kind == 6 then packets.PubRel (pubrel_of c)
    else if kind == 7 then packets.PubComp (pubcomp_of c)
    else if kind == 8 then packets.Subscribe (subscribe_of c)
    else if kind == 9 then packets.SubAck (suback_of c)
    else if kind == 10 then packets.Unsubscribe (unsubscribe_of c)
    else if kind == 11 then packets.UnsubAck (unsuback_of c)
    else if kind == 12 then packets.PingReq (record {})
    else if kind == 13 then packets.PingResp (record {})
    else if kind == 14 then packets.Disconnect (disconnect_of c)
    else if kind == 15 then packets.Auth (auth_of c)
    else packets.Publish (publish_of c)

-- a frame's first byte; of no bytes 0
abbrev pub first_of : List ℕ → ℕ
first_of [] = 0
first_of (b ∷ bs) = b

-- the packet of a whole frame, or its fault
unfoldable pub packet_in : List ℕ → Result Packet Error
packet_in frame = frame_at packet_rows frame >>= λ c. Ok (packet_of (first_of frame / 16) c)
