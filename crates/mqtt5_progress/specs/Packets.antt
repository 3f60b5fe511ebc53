-- What is said of the packets of a run (MQTT 5.0 sections 2.2.1 and 4.3).
use Rattle.std.specs.Prelude.{ℕ, List, [], ◌∷◌}
use Rattle.mqtt5_base.specs.declared.quality.QoS.{QoS}
use Rattle.mqtt5_base.specs.declared.quality.QoS.TheVariants.{AtMostOnce}
use Rattle.mqtt5_publish.specs.declared.publish.Publish.{Publish}
use Rattle.mqtt5_publish.specs.declared.pubrel.PubRelReason.{PubRelReason}
use Rattle.mqtt5_codec.specs.declared.packet.Packet.{Packet}
use Rattle.mqtt5_session.specs.Session.{Core}
use Rattle.mqtt5_session.specs.Requests.{id_for}
use Rattle.mqtt5_session.specs.Packets.{puback_of, pubrec_of, pubcomp_of}

-- it is said of each
abbrev pub Every : {A : Type 0} → (A → Type 0) → List A → Type 0
Every P [] = Unit {0}
Every P (x ∷ xs) = P x × Every P xs

-- what the broker answers (4.3.2, 4.3.3)
pub data IsAck : Packet → Type 0 where
  OfPublish : (id : ℕ) → IsAck (puback_of id)
  OfFirst : (id : ℕ) → IsAck (pubrec_of id)
  OfRelease : (id : ℕ) (reason : PubRelReason) → IsAck (pubcomp_of id reason)

-- a publish with the id that it is given, one of QoS 0 with its own (2.2.1)
abbrev pub numbered : QoS → Core → Publish → Publish
numbered AtMostOnce c p = p
numbered qos c p = record p { pkid = id_for c p.pkid }
