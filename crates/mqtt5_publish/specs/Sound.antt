-- This file serves the logic alone: the derived `==` of each type finds equal values alone.
use Rattle.std.proofs.Common.{rules}
use Rattle.mqtt5_base.specs.Sound.{Sound, both, bool_sound, number_sound, option_sound, list_sound}
use Rattle.mqtt5_base.specs.Sound.{bytes_sound, text_sound, pair_sound, qos_sound}
use Rattle.mqtt5_base.specs.Sound.{ack_properties_sound}
use Rattle.mqtt5_publish.specs.contracts.puback.PubAckReasonPartialEq.TheImpl as puback_reason
use Rattle.mqtt5_publish.specs.contracts.pubrel.PubRelReasonPartialEq.TheImpl as pubrel_reason
use Rattle.mqtt5_publish.specs.contracts.puback.PubAckPartialEq.TheImpl as puback
use Rattle.mqtt5_publish.specs.contracts.pubrec.PubRecPartialEq.TheImpl as pubrec
use Rattle.mqtt5_publish.specs.contracts.pubrel.PubRelPartialEq.TheImpl as pubrel
use Rattle.mqtt5_publish.specs.contracts.pubcomp.PubCompPartialEq.TheImpl as pubcomp
use Rattle.mqtt5_publish.specs.contracts.ping.PingReqPartialEq.TheImpl as pingreq
use Rattle.mqtt5_publish.specs.contracts.ping.PingRespPartialEq.TheImpl as pingresp
use Rattle.mqtt5_publish.specs.contracts.publish.PublishPropertiesPartialEq.TheImpl as publish_properties
use Rattle.mqtt5_publish.specs.contracts.publish.PublishPartialEq.TheImpl as publish

pub puback_reason_sound : Sound puback_reason.eq-value.it
puback_reason_sound = search rules

pub pubrel_reason_sound : Sound pubrel_reason.eq-value.it
pubrel_reason_sound = search rules

pub puback_sound : Sound puback.eq-value.it
puback_sound x y h =
    let e =
    both (number_sound x.pkid y.pkid)
    (both (puback_reason_sound x.reason y.reason)
    (option_sound ack_properties_sound x.properties y.properties))
    h in
    λ i. record { pkid = e.0 i; reason = e.1.0 i; properties = e.1.1 i }

pub pubrec_sound : Sound pubrec.eq-value.it
pubrec_sound x y h =
    let e =
    both (number_sound x.pkid y.pkid)
    (both (puback_reason_sound x.reason y.reason)
    (option_sound ack_properties_sound x.properties y.properties))
    h in
    λ i. record { pkid = e.0 i; reason = e.1.0 i; properties = e.1.1 i }

pub pubrel_sound : Sound pubrel.eq-value.it
pubrel_sound x y h =
    let e =
    both (number_sound x.pkid y.pkid)
    (both (pubrel_reason_sound x.reason y.reason)
    (option_sound ack_properties_sound x.properties y.properties))
    h in
    λ i. record { pkid = e.0 i; reason = e.1.0 i; properties = e.1.1 i }

pub pubcomp_sound : Sound pubcomp.eq-value.it
pubcomp_sound x y h =
    let e =
    both (number_sound x.pkid y.pkid)
    (both (pubrel_reason_sound x.reason y.reason)
    (option_sound ack_properties_sound x.properties y.properties))
    h in
    λ i. record { pkid = e.0 i; reason = e.1.0 i; properties = e.1.1 i }

pub pingreq_sound : Sound pingreq.eq-value.it
pingreq_sound = search rules

pub pingresp_sound : Sound pingresp.eq-value.it
pingresp_sound = search rules

pub publish_properties_sound : Sound publish_properties.eq-value.it
publish_properties_sound x y h =
    let e =
    both (option_sound number_sound x.payload_format_indicator y.payload_format_indicator)
    (both (option_sound number_sound x.message_expiry_interval y.message_expiry_interval)
    (both (option_sound number_sound x.topic_alias y.topic_alias)
    (both (option_sound text_sound x.response_topic y.response_topic)
    (both (option_sound bytes_sound x.correlation_data y.correlation_data)
    (both (list_sound (pair_sound text_sound text_sound) x.user_properties y.user_properties)
    (both (list_sound number_sound x.subscription_identifiers y.subscription_identifiers)
    (option_sound text_sound x.content_type y.content_type))))))) h in
    λ i. record {
      payload_format_indicator = e.0 i;
      message_expiry_interval = e.1.0 i;
      topic_alias = e.1.1.0 i;
      response_topic = e.1.1.1.0 i;
      correlation_data = e.1.1.1.1.0 i;
      user_properties = e.1.1.1.1.1.0 i;
      subscription_identifiers = e.1.1.1.1.1.1.0 i;
      content_type = e.1.1.1.1.1.1.1 i;
    }

pub publish_sound : Sound publish.eq-value.it
publish_sound x y h =
    let e =
    both (bool_sound x.dup y.dup)
    (both (qos_sound x.qos y.qos)
    (both (bool_sound x.retain y.retain)
    (both (bytes_sound x.topic y.topic)
    (both (number_sound x.pkid y.pkid)
    (both (bytes_sound x.payload y.payload)
    (option_sound publish_properties_sound x.properties y.properties)))))) h in
    λ i. record {
      dup = e.0 i;
      qos = e.1.0 i;
      retain = e.1.1.0 i;
      topic = e.1.1.1.0 i;
      pkid = e.1.1.1.1.0 i;
      payload = e.1.1.1.1.1.0 i;
      properties = e.1.1.1.1.1.1 i;
    }
