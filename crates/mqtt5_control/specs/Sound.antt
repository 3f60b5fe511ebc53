-- This file serves the logic alone: the derived `==` of each type finds equal values alone.
use Rattle.std.proofs.Common.{rules}
use Rattle.mqtt5_base.specs.Sound.{Sound, both, bool_sound, number_sound, option_sound, list_sound}
use Rattle.mqtt5_base.specs.Sound.{bytes_sound, text_sound, pair_sound}
use Rattle.mqtt5_control.specs.contracts.connack.ConnectReturnCodePartialEq.TheImpl as connack_reason
use Rattle.mqtt5_control.specs.contracts.connack.ConnAckPropertiesPartialEq.TheImpl as connack_properties
use Rattle.mqtt5_control.specs.contracts.connack.ConnAckPartialEq.TheImpl as connack
use Rattle.mqtt5_control.specs.contracts.disconnect.DisconnectReasonCodePartialEq.TheImpl as disconnect_reason
use Rattle.mqtt5_control.specs.contracts.disconnect.DisconnectPropertiesPartialEq.TheImpl as disconnect_properties
use Rattle.mqtt5_control.specs.contracts.disconnect.DisconnectPartialEq.TheImpl as disconnect
use Rattle.mqtt5_control.specs.contracts.auth.AuthReasonCodePartialEq.TheImpl as auth_reason
use Rattle.mqtt5_control.specs.contracts.auth.AuthPropertiesPartialEq.TheImpl as auth_properties
use Rattle.mqtt5_control.specs.contracts.auth.AuthPartialEq.TheImpl as auth

pub disconnect_reason_sound : Sound disconnect_reason.eq-value.it
disconnect_reason_sound = search rules

pub disconnect_properties_sound : Sound disconnect_properties.eq-value.it
disconnect_properties_sound x y h =
    let e =
    both (option_sound number_sound x.session_expiry_interval y.session_expiry_interval)
    (both (option_sound text_sound x.reason_string y.reason_string)
    (both (list_sound (pair_sound text_sound text_sound) x.user_properties y.user_properties)
    (option_sound text_sound x.server_reference y.server_reference))) h in
    λ i.
    record {
      session_expiry_interval = e.0 i;
      reason_string = e.1.0 i;
      user_properties = e.1.1.0 i;
      server_reference = e.1.1.1 i;
    }

pub disconnect_sound : Sound disconnect.eq-value.it
disconnect_sound x y h =
    let e =
    both (disconnect_reason_sound x.reason_code y.reason_code)
    (option_sound disconnect_properties_sound x.properties y.properties) h in
    λ i. record { reason_code = e.0 i; properties = e.1 i }

pub auth_reason_sound : Sound auth_reason.eq-value.it
auth_reason_sound = search rules

pub auth_properties_sound : Sound auth_properties.eq-value.it
auth_properties_sound x y h =
    let e =
    both (option_sound text_sound x.method y.method)
    (both (option_sound bytes_sound x.auth_data y.auth_data)
    (both (option_sound text_sound x.reason y.reason)
    (list_sound (pair_sound text_sound text_sound) x.user_properties y.user_properties))) h in
    λ i.
    record { method = e.0 i; auth_data = e.1.0 i; reason = e.1.1.0 i; user_properties = e.1.1.1 i }

pub auth_sound : Sound auth.eq-value.it
auth_sound x y h =
    let e =
    both (auth_reason_sound x.code y.code)
    (option_sound auth_properties_sound x.properties y.properties) h in
    λ i. record { code = e.0 i; properties = e.1 i }

pub connack_reason_sound : Sound connack_reason.eq-value.it
connack_reason_sound = search rules

pub connack_properties_sound : Sound connack_properties.eq-value.it
connack_properties_sound x y h =
    let e =
    both (option_sound number_sound x.session_expiry_interval y.session_expiry_interval)
    (both (option_sound number_sound x.receive_max y.receive_max)
    (both (option_sound number_sound x.max_qos y.max_qos)
    (both (option_sound number_sound x.retain_available y.retain_available)
    (both (option_sound number_sound x.max_packet_size y.max_packet_size)
    (both (option_sound text_sound x.assigned_client_identifier y.assigned_client_identifier)
    (both (option_sound number_sound x.topic_alias_max y.topic_alias_max)
    (both (option_sound text_sound x.reason_string y.reason_string)
    (both (list_sound (pair_sound text_sound text_sound) x.user_properties y.user_properties)
    (both
    (option_sound number_sound x.wildcard_subscription_available y.wildcard_subscription_available)
    (both
    (option_sound number_sound x.subscription_identifiers_available
    y.subscription_identifiers_available)
    (both
    (option_sound number_sound x.shared_subscription_available y.shared_subscription_available)
    (both (option_sound number_sound x.server_keep_alive y.server_keep_alive)
    (both (option_sound text_sound x.response_information y.response_information)
    (both (option_sound text_sound x.server_reference y.server_reference)
    (both (option_sound text_sound x.authentication_method y.authentication_method)
    (option_sound bytes_sound x.authentication_data y.authentication_data)))))))))))))))) h in
    λ i. record {
      session_expiry_interval = e.0 i;
      receive_max = e.1.0 i;
      max_qos = e.1.1.0 i;
      retain_available = e.1.1.1.0 i;
      max_packet_size = e.1.1.1.1.0 i;
      assigned_client_identifier = e.1.1.1.1.1.0 i;
      topic_alias_max = e.1.1.1.1.1.1.0 i;
      reason_string = e.1.1.1.1.1.1.1.0 i;
      user_properties = e.1.1.1.1.1.1.1.1.0 i;
      wildcard_subscription_available = e.1.1.1.1.1.1.1.1.1.0 i;
      subscription_identifiers_available = e.1.1.1.1.1.1.1.1.1.1.0 i;
      shared_subscription_available = e.1.1.1.1.1.1.1.1.1.1.1.0 i;
      server_keep_alive = e.1.1.1.1.1.1.1.1.1.1.1.1.0 i;
      response_information = e.1.1.1.1.1.1.1.1.1.1.1.1.1.0 i;
      server_reference = e.1.1.1.1.1.1.1.1.1.1.1.1.1.1.0 i;
      authentication_method = e.1.1.1.1.1.1.1.1.1.1.1.1.1.1.1.0 i;
      authentication_data = e.1.1.1.1.1.1.1.1.1.1.1.1.1.1.1.1 i;
    }

pub connack_sound : Sound connack.eq-value.it
connack_sound x y h =
    let e =
    both (bool_sound x.session_present y.session_present)
    (both (connack_reason_sound x.code y.code)
    (option_sound connack_properties_sound x.properties y.properties))
    h in
    λ i. record { session_present = e.0 i; code = e.1.0 i; properties = e.1.1 i }
