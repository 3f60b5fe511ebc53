-- Packets of every type that is read and written, and their frames (MQTT 5.0 sections 2 and 3).
use Rattle.std.specs.Prelude.{◌≡◌, ℕ, ◌/◌, List, [], ◌∷◌, map, length, Option, Some, None, Result}
use Rattle.std.specs.Prelude.{Err, nat_lt, min, if◌then◌else◌}
use Rattle.mqtt5_base.specs.declared.error.Error.{Error}
use Rattle.mqtt5_base.specs.declared.error.Error.TheVariants.{OutgoingPacketTooLarge}
use Rattle.mqtt5_base.specs.Grammar.{Row, Content}
use Rattle.mqtt5_base.specs.Frames.{Rows, IsWhole, IsFrame, FrameFault}
use Rattle.mqtt5_base.specs.Layout.{WrittenPacket, plainly, content_of_packet, layout, writing}
use Rattle.mqtt5_publish.specs.Rows.{publish_row, puback_row, pubrel_row, ping_row}
use Rattle.mqtt5_publish.specs.Publishes.{publish_packet}
use Rattle.mqtt5_publish.specs.Acks.{puback_packet, pubrec_packet, pubrel_packet, pubcomp_packet}
use Rattle.mqtt5_subscribe.specs.Rows.{subscribe_row, suback_row, unsubscribe_row, unsuback_row}
use Rattle.mqtt5_subscribe.specs.Subscribes.{subscribe_packet}
use Rattle.mqtt5_subscribe.specs.SubAcks.{suback_packet, suback_settled}
use Rattle.mqtt5_subscribe.specs.Unsubscribes.{unsubscribe_packet}
use Rattle.mqtt5_subscribe.specs.UnsubAcks.{unsuback_packet}
use Rattle.mqtt5_connect.specs.Rows.{connect_row}
use Rattle.mqtt5_control.specs.Rows.{connack_row, disconnect_row, auth_row}
use Rattle.mqtt5_connect.specs.Connects.{connect_packet}
use Rattle.mqtt5_control.specs.ConnAcks.{connack_packet}
use Rattle.mqtt5_control.specs.Disconnects.{disconnect_packet}
use Rattle.mqtt5_control.specs.Auths.{auth_packet}
use Rattle.mqtt5_codec.specs.declared.packet.Packet.{Packet}
use Rattle.mqtt5_codec.specs.declared.packet.Packet.TheVariants as packets

-- the row of each packet type (2.1.2)
abbrev pub packet_rows : Rows
packet_rows =
    (1, connect_row) ∷ (2, connack_row) ∷ (3, publish_row) ∷ (4, puback_row) ∷ (5, puback_row)
    ∷ (6, pubrel_row) ∷ (7, pubrel_row) ∷ (8, subscribe_row)
    ∷ (9, suback_row) ∷ (10, unsubscribe_row) ∷ (11, unsuback_row) ∷ (12, ping_row) ∷ (13, ping_row)
    ∷ (14, disconnect_row) ∷ (15, auth_row) ∷ []

-- ---- a packet and its frame

-- the number of a packet's type (2.1.2), its row, and the packet as it is written (3)
abbrev pub typed_packet : Packet → ℕ × Row × WrittenPacket
typed_packet (packets.Connect c will login) = (1, connect_row, connect_packet c will login)
typed_packet (packets.ConnAck p) = (2, connack_row, connack_packet p)
typed_packet (packets.Publish p) = (3, publish_row, publish_packet p)
typed_packet (packets.PubAck p) = (4, puback_row, puback_packet p)
typed_packet (packets.PubRec p) = (5, puback_row, pubrec_packet p)
typed_packet (packets.PubRel p) = (6, pubrel_row, pubrel_packet p)
typed_packet (packets.PubComp p) = (7, pubrel_row, pubcomp_packet p)
typed_packet (packets.Subscribe p) = (8, subscribe_row, subscribe_packet p)
typed_packet (packets.SubAck p) = (9, suback_row, suback_packet p)
typed_packet (packets.Unsubscribe p) = (10, unsubscribe_row, unsubscribe_packet p)
typed_packet (packets.UnsubAck p) = (11, unsuback_row, unsuback_packet p)
typed_packet (packets.PingReq p) = (12, ping_row, plainly 192 [])
typed_packet (packets.PingResp p) = (13, ping_row, plainly 208 [])
typed_packet (packets.Disconnect p) = (14, disconnect_row, disconnect_packet p)
typed_packet (packets.Auth p) = (15, auth_row, auth_packet p)

-- a packet's type as its number (2.1.2)
abbrev pub packet_type : Packet → ℕ
packet_type p = (typed_packet p).0

-- the row of a packet's type (3)
abbrev pub packet_row : Packet → Row
packet_row p = (typed_packet p).1

-- the packet as it is written (3)
abbrev pub written_packet : Packet → WrittenPacket
written_packet p = (typed_packet p).2

-- the packet as the values of its row (3)
abbrev pub packet_content : Packet → Content
packet_content p = content_of_packet (written_packet p)

-- what reading can give: a failure in a SubAck is read as unspecified (3.9.3)
abbrev pub IsRead : Packet → Type 0
IsRead (packets.SubAck p) = map suback_settled p.return_codes ≡ p.return_codes
IsRead p = Unit {0}

-- The whole frame is of that packet: its first byte has the packet's type, and its body is the
-- packet's by its row (2.1).
unfoldable pub IsFrameOf : List ℕ → Packet → Type 0
IsFrameOf frame p =
    (first : ℕ) × (body : List ℕ) × IsWhole frame first body × (first / 16 ≡ packet_type p)
    × IsRead p × IsFrame packet_rows first body (packet_content p)

-- the first fault of a whole frame (4.13.1)
unfoldable pub IsFaultOf : List ℕ → Error → Type 0
IsFaultOf frame e =
    (first : ℕ) × (body : List ℕ) × IsWhole frame first body × FrameFault packet_rows first body e

-- ---- writing

-- how many bytes a packet takes
abbrev pub packet_len : Packet → ℕ
packet_len p = length (layout (packet_row p) (written_packet p))

-- a packet's bytes, or why it isn't writable
abbrev pub packet_writing : Packet → Result (List ℕ) Error
packet_writing p = writing (packet_row p) (written_packet p)

-- the same under a limit on the whole frame, which is judged first (3.2.2.3.6)
abbrev pub writing_under : Option ℕ → Packet → Result (List ℕ) Error
writing_under None p = packet_writing p
writing_under (Some max) p =
    if nat_lt max (packet_len p)
    then Err (OutgoingPacketTooLarge (min (packet_len p) 4294967295) max)
    else packet_writing p
