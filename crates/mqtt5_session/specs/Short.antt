-- This file serves the logic alone: the reply that a packet is, in short.
use Rattle.std.specs.Prelude.{Option, Some}
use Rattle.mqtt5_codec.specs.declared.packet.Packet.{Packet}
use Rattle.mqtt5_codec.specs.declared.packet.Packet.TheVariants as packets
use Rattle.mqtt5_session.specs.declared.reply.Reply.{Reply}
use Rattle.mqtt5_session.specs.declared.reply.Reply.TheVariants.{Nothing, Publish, PubAck, PubRec}
use Rattle.mqtt5_session.specs.declared.reply.Reply.TheVariants.{PubRel, PubComp, Disconnect}

-- what an answer of the session is in short
abbrev pub in_short : Option Packet → Reply
in_short (Some (packets.Publish p)) = Publish p.pkid
in_short (Some (packets.PubAck p)) = PubAck p.pkid
in_short (Some (packets.PubRec p)) = PubRec p.pkid
in_short (Some (packets.PubRel p)) = PubRel p.pkid
in_short (Some (packets.PubComp p)) = PubComp p.pkid p.reason
in_short (Some (packets.Disconnect p)) = Disconnect p.reason_code
in_short answer = Nothing
