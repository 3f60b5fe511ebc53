-- What Publish and the acks are read as after they were written (MQTT 5.0 sections 2.2 and 3.3 to
-- 3.7).
use Rattle.std.specs.Prelude.{◌==◌, if◌then◌else◌}
use Rattle.mqtt5_base.specs.Views.{qos_number}
use Rattle.mqtt5_base.specs.Tidy.{tidy}
use Rattle.mqtt5_base.specs.AckSets.{ack_found}
use Rattle.mqtt5_publish.specs.declared.puback.PubAck.{PubAck}
use Rattle.mqtt5_publish.specs.declared.pubrec.PubRec.{PubRec}
use Rattle.mqtt5_publish.specs.declared.pubrel.PubRel.{PubRel}
use Rattle.mqtt5_publish.specs.declared.pubcomp.PubComp.{PubComp}
use Rattle.mqtt5_publish.specs.declared.publish.Publish.{Publish}
use Rattle.mqtt5_publish.specs.Publishes.{publish_found}

-- an empty property set is none (2.2.2.1)
abbrev pub puback_norm : PubAck → PubAck
puback_norm p = record p { properties = tidy ack_found p.properties }

-- the same of a PubRec
abbrev pub pubrec_norm : PubRec → PubRec
pubrec_norm p = record p { properties = tidy ack_found p.properties }

-- the same of a PubRel
abbrev pub pubrel_norm : PubRel → PubRel
pubrel_norm p = record p { properties = tidy ack_found p.properties }

-- the same of a PubComp
abbrev pub pubcomp_norm : PubComp → PubComp
pubcomp_norm p = record p { properties = tidy ack_found p.properties }

-- a Publish of QoS 0 has no packet identifier (2.2.1), and an empty property set is none
abbrev pub publish_norm : Publish → Publish
publish_norm p = record p {
  pkid = if qos_number p.qos == 0 then 0 else p.pkid;
  properties = tidy publish_found p.properties;
}
