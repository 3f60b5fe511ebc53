-- This file serves the logic alone: the derived `==` of each type finds equal values alone.
use Rattle.std.proofs.Common.{rules}
use Rattle.mqtt5_base.specs.Sound.{Sound, both, bool_sound, number_sound, option_sound, list_sound}
use Rattle.mqtt5_base.specs.Sound.{text_sound, pair_sound, qos_sound}
use Rattle.mqtt5_base.specs.Sound.{ack_properties_sound}
use Rattle.mqtt5_subscribe.specs.contracts.filter.RetainForwardRulePartialEq.TheImpl as rule
use Rattle.mqtt5_subscribe.specs.contracts.filter.FilterPartialEq.TheImpl as filter
use Rattle.mqtt5_subscribe.specs.contracts.subscribe.SubscribePropertiesPartialEq.TheImpl as subscribe_properties
use Rattle.mqtt5_subscribe.specs.contracts.subscribe.SubscribePartialEq.TheImpl as subscribe
use Rattle.mqtt5_subscribe.specs.contracts.suback.SubscribeReasonCodePartialEq.TheImpl as suback_reason
use Rattle.mqtt5_subscribe.specs.contracts.suback.SubAckPartialEq.TheImpl as suback
use Rattle.mqtt5_subscribe.specs.contracts.unsubscribe.UnsubscribePropertiesPartialEq.TheImpl as unsubscribe_properties
use Rattle.mqtt5_subscribe.specs.contracts.unsubscribe.UnsubscribePartialEq.TheImpl as unsubscribe
use Rattle.mqtt5_subscribe.specs.contracts.unsuback.UnsubAckReasonPartialEq.TheImpl as unsuback_reason
use Rattle.mqtt5_subscribe.specs.contracts.unsuback.UnsubAckPartialEq.TheImpl as unsuback

pub rule_sound : Sound rule.eq-value.it
rule_sound = search rules

pub filter_sound : Sound filter.eq-value.it
filter_sound x y h =
    let e =
    both (text_sound x.path y.path)
    (both (qos_sound x.qos y.qos)
    (both (bool_sound x.nolocal y.nolocal)
    (both (bool_sound x.preserve_retain y.preserve_retain)
    (rule_sound x.retain_forward_rule y.retain_forward_rule)))) h in
    λ i.
    record {
      path = e.0 i;
      qos = e.1.0 i;
      nolocal = e.1.1.0 i;
      preserve_retain = e.1.1.1.0 i;
      retain_forward_rule = e.1.1.1.1 i;
    }

pub subscribe_properties_sound : Sound subscribe_properties.eq-value.it
subscribe_properties_sound x y h =
    let e =
    both (option_sound number_sound x.id y.id)
    (list_sound (pair_sound text_sound text_sound) x.user_properties y.user_properties) h in
    λ i. record { id = e.0 i; user_properties = e.1 i }

pub subscribe_sound : Sound subscribe.eq-value.it
subscribe_sound x y h =
    let e =
    both (number_sound x.pkid y.pkid)
    (both (list_sound filter_sound x.filters y.filters)
    (option_sound subscribe_properties_sound x.properties y.properties))
    h in
    λ i. record { pkid = e.0 i; filters = e.1.0 i; properties = e.1.1 i }

pub suback_reason_sound : Sound suback_reason.eq-value.it
suback_reason_sound = search rules

pub suback_sound : Sound suback.eq-value.it
suback_sound x y h =
    let e =
    both (number_sound x.pkid y.pkid)
    (both (list_sound suback_reason_sound x.return_codes y.return_codes)
    (option_sound ack_properties_sound x.properties y.properties))
    h in
    λ i. record { pkid = e.0 i; return_codes = e.1.0 i; properties = e.1.1 i }

pub unsubscribe_properties_sound : Sound unsubscribe_properties.eq-value.it
unsubscribe_properties_sound x y h =
    let e = list_sound (pair_sound text_sound text_sound) x.user_properties y.user_properties h in
    λ i. record { user_properties = e i }

pub unsubscribe_sound : Sound unsubscribe.eq-value.it
unsubscribe_sound x y h =
    let e =
    both (number_sound x.pkid y.pkid)
    (both (list_sound text_sound x.filters y.filters)
    (option_sound unsubscribe_properties_sound x.properties y.properties))
    h in
    λ i. record { pkid = e.0 i; filters = e.1.0 i; properties = e.1.1 i }

pub unsuback_reason_sound : Sound unsuback_reason.eq-value.it
unsuback_reason_sound = search rules

pub unsuback_sound : Sound unsuback.eq-value.it
unsuback_sound x y h =
    let e =
    both (number_sound x.pkid y.pkid)
    (both (list_sound unsuback_reason_sound x.reasons y.reasons)
    (option_sound ack_properties_sound x.properties y.properties))
    h in
    λ i. record { pkid = e.0 i; reasons = e.1.0 i; properties = e.1.1 i }
