-- A broker that keeps the session of one client, as the receiver of its publishes (MQTT 5.0 section
-- 4.3).
use Rattle.std.specs.Prelude.{Bool, true, false, List, [], ◌∷◌, ◌++◌, Option, Some, None}
use Rattle.std.specs.Prelude.{if◌then◌else◌}
use Rattle.std.specs.Ordering.{nat_cmp}
use Rattle.std.specs.FinSet as set
use Rattle.mqtt5_base.specs.declared.quality.QoS.{QoS}
use Rattle.mqtt5_base.specs.declared.quality.QoS.TheVariants.{AtMostOnce, AtLeastOnce, ExactlyOnce}
use Rattle.mqtt5_publish.specs.declared.publish.Publish.{Publish}
use Rattle.mqtt5_publish.specs.declared.pubrel.PubRelReason.{PubRelReason}
use Rattle.mqtt5_publish.specs.declared.pubrel.PubRelReason.TheVariants.{Success}
use Rattle.mqtt5_publish.specs.declared.pubrel.PubRelReason.TheVariants.{PacketIdentifierNotFound}
use Rattle.mqtt5_codec.specs.declared.packet.Packet.{Packet}
use Rattle.mqtt5_codec.specs.declared.packet.Packet.TheVariants as packets
use Rattle.mqtt5_session.specs.Packets.{puback_of, pubrec_of, pubcomp_of}

-- the ids of publishes of QoS 2 that aren't released, and the publishes that were handed on to
-- subscribers (4.3.3)
pub record Broker : Type 0 where
  pub ids : set.FinSet nat_cmp
  pub handed : List Publish

-- a broker that has nothing of the client
abbrev pub idle : Broker
idle = record { ids = set.empty; handed = [] }

-- the reply, and the broker after it
abbrev pub Served : Type 0
Served = Option Packet × Broker

-- a publish is handed on by its QoS: of QoS 2 once, until its id is released (4.3)
abbrev pub serve_publish : QoS → Broker → Publish → Served
serve_publish AtMostOnce b p = (None, record b { handed = b.handed ++ p ∷ [] })
serve_publish AtLeastOnce b p = (Some (puback_of p.pkid), record b { handed = b.handed ++ p ∷ [] })
serve_publish ExactlyOnce b p = (
  Some (pubrec_of p.pkid),
  record {
    ids = set.insert b.ids p.pkid;
    handed = if set.contains b.ids p.pkid then b.handed else b.handed ++ p ∷ [];
  },
)

-- the reason of the answer to a release: whether its id was there (3.7.2.1)
abbrev pub reason_for : Bool → PubRelReason
reason_for true = Success
reason_for false = PacketIdentifierNotFound

-- a packet from the client (4.3)
abbrev pub serve : Broker → Packet → Served
serve b (packets.Publish p) = serve_publish p.qos b p
serve b (packets.PubRel p) = (
  Some (pubcomp_of p.pkid (reason_for (set.contains b.ids p.pkid))),
  record b { ids = set.remove b.ids p.pkid },
)
serve b other = (None, b)
