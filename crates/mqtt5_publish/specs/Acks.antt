-- PubAck, PubRec, PubRel and PubComp as the values of their rows (MQTT 5.0 sections 3.4 to 3.7).
use Rattle.std.specs.Prelude.{ℕ, [], ◌∷◌, Option, option_map}
use Rattle.mqtt5_base.specs.AckSets.{ack_found}
use Rattle.mqtt5_base.specs.Grammar.{number, Found, plain, properties}
use Rattle.mqtt5_base.specs.Layout.{WrittenPacket, plainly}
use Rattle.mqtt5_publish.specs.declared.puback.PubAckReason.{PubAckReason}
use Rattle.mqtt5_publish.specs.declared.puback.PubAckReason.TheVariants as answers
use Rattle.mqtt5_publish.specs.declared.pubrel.PubRelReason.{PubRelReason}
use Rattle.mqtt5_publish.specs.declared.pubrel.PubRelReason.TheVariants as releases
use Rattle.mqtt5_publish.specs.declared.puback.PubAck.{PubAck}
use Rattle.mqtt5_publish.specs.declared.pubrec.PubRec.{PubRec}
use Rattle.mqtt5_publish.specs.declared.pubrel.PubRel.{PubRel}
use Rattle.mqtt5_publish.specs.declared.pubcomp.PubComp.{PubComp}

-- ---- what they share

-- an ack with this first byte as it is written: an identifier, a reason code and properties
abbrev pub ack_packet : ℕ → ℕ → ℕ → Option Found → WrittenPacket
ack_packet first id code p =
    plainly first (plain (number id) ∷ plain (number code) ∷ properties p ∷ [])

-- ---- the packets

-- each reason's code, of a PubAck and of a PubRec (3.4.2.1, 3.5.2.1)
abbrev pub puback_code : PubAckReason → ℕ
puback_code answers.Success = 0
puback_code answers.NoMatchingSubscribers = 16
puback_code answers.UnspecifiedError = 128
puback_code answers.ImplementationSpecificError = 131
puback_code answers.NotAuthorized = 135
puback_code answers.TopicNameInvalid = 144
puback_code answers.PacketIdentifierInUse = 145
puback_code answers.QuotaExceeded = 151
puback_code answers.PayloadFormatInvalid = 153

-- of a PubRel and of a PubComp (3.6.2.1, 3.7.2.1)
abbrev pub pubrel_code : PubRelReason → ℕ
pubrel_code releases.Success = 0
pubrel_code releases.PacketIdentifierNotFound = 146

-- a PubAck as it is written (3.4)
abbrev pub puback_packet : PubAck → WrittenPacket
puback_packet p = ack_packet 64 p.pkid (puback_code p.reason) (option_map ack_found p.properties)

-- a PubRec as it is written (3.5)
abbrev pub pubrec_packet : PubRec → WrittenPacket
pubrec_packet p = ack_packet 80 p.pkid (puback_code p.reason) (option_map ack_found p.properties)

-- a PubRel, whose first byte has a flag that is always set (3.6.1)
abbrev pub pubrel_packet : PubRel → WrittenPacket
pubrel_packet p = ack_packet 98 p.pkid (pubrel_code p.reason) (option_map ack_found p.properties)

-- a PubComp as it is written (3.7)
abbrev pub pubcomp_packet : PubComp → WrittenPacket
pubcomp_packet p = ack_packet 112 p.pkid (pubrel_code p.reason) (option_map ack_found p.properties)
