-- Packets are what is made again of their values.
use Rattle.std.proofs.Common.{◌≡◌, rules}
use Rattle.mqtt5_base.specs.Layout.{content_of_packet}
use Rattle.mqtt5_base.proofs.ViewsBack.{qos_back, bit_back, numbers_back, contents_back, texts_back, pairs_back, identifiers_back, set_back}
use Rattle.mqtt5_base.specs.AckSets.{ack_found}
use Rattle.mqtt5_base.specs.FromValues.{ack_set}
use Rattle.mqtt5_base.proofs.AckSets.{ack_set_back}
use Rattle.mqtt5_publish.specs.declared.puback.PubAckReason.{PubAckReason}
use Rattle.mqtt5_publish.specs.declared.pubrel.PubRelReason.{PubRelReason}
use Rattle.mqtt5_publish.specs.declared.puback.PubAck.{PubAck}
use Rattle.mqtt5_publish.specs.declared.pubrec.PubRec.{PubRec}
use Rattle.mqtt5_publish.specs.declared.pubrel.PubRel.{PubRel}
use Rattle.mqtt5_publish.specs.declared.pubcomp.PubComp.{PubComp}
use Rattle.mqtt5_publish.specs.declared.publish.PublishProperties.{PublishProperties}
use Rattle.mqtt5_publish.specs.declared.publish.Publish.{Publish}
use Rattle.mqtt5_publish.specs.Acks.{puback_code, pubrel_code, puback_packet, pubrec_packet, pubrel_packet, pubcomp_packet}
use Rattle.mqtt5_publish.specs.FromValues.{puback_reason, pubrel_reason, puback_of, pubrec_of, pubrel_of, pubcomp_of, publish_set, publish_of}
use Rattle.mqtt5_publish.specs.Publishes.{publish_found, publish_packet}

-- ---- acks

-- a reason is that of its code
puback_reason_back : (r : PubAckReason) → puback_reason (puback_code r) ≡ r
puback_reason_back = search rules

-- a reason is that of its code
pubrel_reason_back : (r : PubRelReason) → pubrel_reason (pubrel_code r) ≡ r
pubrel_reason_back = search rules

-- A PubAck is the one of its values.
pub puback_back : (p : PubAck) → puback_of (content_of_packet (puback_packet p)) ≡ p
puback_back p = λ i. record { pkid = p.pkid; reason = puback_reason_back p.reason i; properties = set_back ack_found ack_set ack_set_back p.properties i }

-- A PubRec is the one of its values.
pub pubrec_back : (p : PubRec) → pubrec_of (content_of_packet (pubrec_packet p)) ≡ p
pubrec_back p = λ i. record { pkid = p.pkid; reason = puback_reason_back p.reason i; properties = set_back ack_found ack_set ack_set_back p.properties i }

-- A PubRel is the one of its values.
pub pubrel_back : (p : PubRel) → pubrel_of (content_of_packet (pubrel_packet p)) ≡ p
pubrel_back p = λ i. record { pkid = p.pkid; reason = pubrel_reason_back p.reason i; properties = set_back ack_found ack_set ack_set_back p.properties i }

-- A PubComp is the one of its values.
pub pubcomp_back : (p : PubComp) → pubcomp_of (content_of_packet (pubcomp_packet p)) ≡ p
pubcomp_back p = λ i. record { pkid = p.pkid; reason = pubrel_reason_back p.reason i; properties = set_back ack_found ack_set ack_set_back p.properties i }

-- ---- Publish

-- the properties are those of their values
publish_set_back : (s : PublishProperties) → publish_set (publish_found s) ≡ s
publish_set_back s = λ i. record {
  payload_format_indicator = numbers_back s.payload_format_indicator i;
  message_expiry_interval = numbers_back s.message_expiry_interval i;
  topic_alias = numbers_back s.topic_alias i;
  response_topic = texts_back s.response_topic i;
  correlation_data = contents_back s.correlation_data i;
  user_properties = pairs_back s.user_properties i;
  subscription_identifiers = identifiers_back s.subscription_identifiers i;
  content_type = texts_back s.content_type i;
}

-- A Publish is the one of its values.
pub publish_back : (p : Publish) → publish_of (content_of_packet (publish_packet p)) ≡ p
publish_back p = λ i. record {
  dup = bit_back p.dup i;
  qos = qos_back p.qos i;
  retain = bit_back p.retain i;
  topic = p.topic;
  pkid = p.pkid;
  payload = p.payload;
  properties = set_back publish_found publish_set publish_set_back p.properties i;
}
