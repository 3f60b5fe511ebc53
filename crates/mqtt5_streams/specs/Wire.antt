-- The frames of packets, and what the codec says of them (MQTT 5.0 sections 2.1 and 3).
use Rattle.std.specs.Prelude.{◌≡◌, ℕ, ◌<◌, ◌≤◌, List, [], ◌++◌, length, Option, None, Result, Ok}
use Rattle.std.specs.Prelude.{option_map}
use Rattle.mqtt5_base.specs.declared.error.Error.{Error}
use Rattle.mqtt5_base.specs.Front.{IsFront, Admits, More, Whole}
use Rattle.mqtt5_base.specs.FrontAt.{front}
use Rattle.mqtt5_base.specs.Sets.{IsBlockOf}
use Rattle.mqtt5_base.specs.Layout.{layout, body_bytes}
use Rattle.mqtt5_publish.specs.declared.publish.Publish.{Publish}
use Rattle.mqtt5_base.specs.AckSets.{ack_table, ack_found}
use Rattle.mqtt5_publish.specs.Rows.{publish_table}
use Rattle.mqtt5_publish.specs.Publishes.{publish_found}
use Rattle.mqtt5_codec.specs.declared.packet.Packet.{Packet}
use Rattle.mqtt5_codec.specs.declared.packet.Packet.TheVariants as packets
use Rattle.mqtt5_codec.specs.Packets.{packet_row, written_packet, writing_under}
use Rattle.mqtt5_codec.specs.PacketsIn.{packet_in}
use Rattle.mqtt5_codec.specs.Norms.{norm}
use Rattle.mqtt5_inflight.specs.Unacked.{again}
use Rattle.mqtt5_session.specs.Requests.{release_of}
use Rattle.mqtt5_progress.specs.Packets.{IsAck}

-- ---- frames

-- a packet's frame (2.1)
unfoldable pub wire_of : Packet → List ℕ
wire_of p = layout (packet_row p) (written_packet p)

-- its remaining length (2.1.4)
unfoldable pub remaining : Packet → ℕ
remaining p = length (body_bytes (packet_row p) (written_packet p))

-- the bytes that are written for a packet under a limit on whole frames, or why it isn't written
-- (3.2.2.3.6)
unfoldable pub bytes_of : Option ℕ → Packet → Result (List ℕ) Error
bytes_of limit p = writing_under limit p

-- a packet can be written under a limit
abbrev pub IsWritable : Option ℕ → Packet → Type 0
IsWritable limit p = bytes_of limit p ≡ Ok (wire_of p)

-- ---- packets on a stream

-- what the types of its fields say of a packet between a publisher and its broker; no other goes
-- over these streams (4.3)
abbrev pub IsTyped : Packet → Type 0
IsTyped (packets.Publish p) =
    (p.pkid < 65536) × IsBlockOf publish_table (option_map publish_found p.properties)
IsTyped (packets.PubAck p) =
    (p.pkid < 65536) × IsBlockOf ack_table (option_map ack_found p.properties)
IsTyped (packets.PubRec p) =
    (p.pkid < 65536) × IsBlockOf ack_table (option_map ack_found p.properties)
IsTyped (packets.PubRel p) =
    (p.pkid < 65536) × IsBlockOf ack_table (option_map ack_found p.properties)
IsTyped (packets.PubComp p) =
    (p.pkid < 65536) × IsBlockOf ack_table (option_map ack_found p.properties)
IsTyped other = ⊥

-- ---- the laws

-- A stream of no bytes needs two, and what is decided of a front stays so. What is written is the
-- packet's frame, and such a packet can be written under no limit. A frame that can be written
-- stands at the front whatever follows, under a limit that admits it, and is read as the packet's
-- norm. An ack can be written, and has a remaining length of at most four. A release can be written
-- where a publish can, and so can the publish that is sent again (3.3.1.1).
pub record IsWire : Type 0 where
  pub empty : (limit : Option ℕ) → front limit [] ≡ More 2
  pub stays : (limit : Option ℕ) → IsFront (front limit)
  pub written : (limit : Option ℕ) (p : Packet) (bytes : List ℕ) → bytes_of limit p ≡ Ok bytes
      → (bytes ≡ wire_of p) × IsWritable None p
  pub stands : (limit : Option ℕ) (p : Packet) (more : List ℕ) → IsTyped p → IsWritable None p
      → Admits limit (remaining p) → front limit (wire_of p ++ more) ≡ Whole (wire_of p) more
  pub read : (p : Packet) → IsTyped p → IsWritable None p → packet_in (wire_of p) ≡ Ok (norm p)
  pub acks : (p : Packet) → IsAck p → IsWritable None p × (remaining p ≤ 4)
  pub releases : (limit : Option ℕ) (p : Publish) (id : ℕ) → IsWritable limit (packets.Publish p)
      → IsWritable limit (release_of id)
  pub again : (limit : Option ℕ) (p : Publish) → IsWritable limit (packets.Publish p)
      → IsWritable limit (packets.Publish (again p))
