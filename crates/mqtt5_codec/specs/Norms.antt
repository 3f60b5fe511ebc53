-- What a packet is read as after it was written (MQTT 5.0 sections 2.2 and 3).
use Rattle.std.specs.Prelude.{◌≡◌, ℕ, List, ◌++◌, length, Option, Ok}
use Rattle.mqtt5_base.specs.Front.{Admits, Whole}
use Rattle.mqtt5_base.specs.FrontAt.{front}
use Rattle.mqtt5_base.specs.Layout.{body_bytes}
use Rattle.mqtt5_publish.specs.Norms.{publish_norm, puback_norm, pubrec_norm, pubrel_norm}
use Rattle.mqtt5_publish.specs.Norms.{pubcomp_norm}
use Rattle.mqtt5_subscribe.specs.Norms.{subscribe_norm, suback_norm, unsubscribe_norm}
use Rattle.mqtt5_subscribe.specs.Norms.{unsuback_norm}
use Rattle.mqtt5_connect.specs.Norms.{connect_norm, will_norm, login_norm}
use Rattle.mqtt5_control.specs.Norms.{connack_norm, disconnect_norm, auth_norm}
use Rattle.mqtt5_codec.specs.declared.packet.Packet.{Packet}
use Rattle.mqtt5_codec.specs.declared.packet.Packet.TheVariants as packets
use Rattle.mqtt5_codec.specs.Packets.{packet_row, written_packet, packet_writing, IsFrameOf}

-- Empty property sets are none (2.2.2.1), a Publish of QoS 0 has identifier 0 (2.2.1), a failure in
-- a SubAck is unspecified (3.9.3), and a login of two empty texts is none.
abbrev pub norm : Packet → Packet
norm (packets.Connect c will login) =
    packets.Connect (connect_norm c) (will_norm will) (login_norm login)
norm (packets.ConnAck p) = packets.ConnAck (connack_norm p)
norm (packets.Publish p) = packets.Publish (publish_norm p)
norm (packets.PubAck p) = packets.PubAck (puback_norm p)
norm (packets.PubRec p) = packets.PubRec (pubrec_norm p)
norm (packets.PubRel p) = packets.PubRel (pubrel_norm p)
norm (packets.PubComp p) = packets.PubComp (pubcomp_norm p)
norm (packets.Subscribe p) = packets.Subscribe (subscribe_norm p)
norm (packets.SubAck p) = packets.SubAck (suback_norm p)
norm (packets.Unsubscribe p) = packets.Unsubscribe (unsubscribe_norm p)
norm (packets.UnsubAck p) = packets.UnsubAck (unsuback_norm p)
norm (packets.PingReq p) = packets.PingReq p
norm (packets.PingResp p) = packets.PingResp p
norm (packets.Disconnect p) = packets.Disconnect (disconnect_norm p)
norm (packets.Auth p) = packets.Auth (auth_norm p)

-- What is written for a packet is a whole frame of its norm, whatever follows, under a limit that
-- admits it.
pub record IsReadBack (p : Packet) : Type 0 where
  pub again : (limit : Option ℕ) (bytes rest : List ℕ) → packet_writing p ≡ Ok bytes
      → Admits limit (length (body_bytes (packet_row p) (written_packet p)))
      → (front limit (bytes ++ rest) ≡ Whole bytes rest) × IsFrameOf bytes (norm p)
  pub once : norm (norm p) ≡ norm p
