-- What is to be sent, in short, and the packet that it stands for.
use Rattle.std.specs.Prelude.{Option, Some, None, Result, Ok, Err, option_map}
use Rattle.std.specs.FinMap as map
use Rattle.mqtt5_codec.specs.declared.packet.Packet.{Packet}
use Rattle.mqtt5_codec.specs.declared.packet.Packet.TheVariants as packets
use Rattle.mqtt5_inflight.specs.declared.error.StateError.{StateError}
use Rattle.mqtt5_inflight.specs.InUse.{awaiting_ack}
use Rattle.mqtt5_session.specs.declared.reply.Reply.{Reply}
use Rattle.mqtt5_session.specs.declared.reply.Reply.TheVariants.{Publish, PubAck, PubRec, PubRel}
use Rattle.mqtt5_session.specs.declared.reply.Reply.TheVariants.{PubComp, Disconnect}
use Rattle.mqtt5_session.specs.Session.{Session}
use Rattle.mqtt5_session.specs.Requests.{release_of, disconnect_of}
use Rattle.mqtt5_session.specs.Packets.{puback_of, pubrec_of, pubcomp_of}

-- the packet of an ack or a Disconnect
abbrev pub made_of : Reply → Option Packet
made_of (PubAck id) = Some (puback_of id)
made_of (PubRec id) = Some (pubrec_of id)
made_of (PubRel id) = Some (release_of id)
made_of (PubComp id reason) = Some (pubcomp_of id reason)
made_of (Disconnect code) = Some (disconnect_of code)
made_of reply = None

-- the packet of a reply: a publish is the one that awaits its ack under that id
abbrev pub packet_of : Reply → Session → Option Packet
packet_of (Publish id) s = option_map packets.Publish (awaiting_ack (map.get s.core.in_use id))
packet_of reply s = made_of reply

-- an answer in short, as that of the packet
abbrev pub in_full : Result Reply StateError → Session → Result (Option Packet) StateError
in_full (Ok reply) s = Ok (packet_of reply s)
in_full (Err e) s = Err e
