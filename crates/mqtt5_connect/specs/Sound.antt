-- This file serves the logic alone: the derived `==` of each type of a Connect finds equal values
-- alone.
use Rattle.mqtt5_base.specs.Sound.{Sound, both, bool_sound, number_sound, option_sound, list_sound}
use Rattle.mqtt5_base.specs.Sound.{bytes_sound, text_sound, pair_sound, qos_sound}
use Rattle.mqtt5_connect.specs.contracts.connect.ConnectPropertiesPartialEq.TheImpl as connect_properties
use Rattle.mqtt5_connect.specs.contracts.connect.ConnectPartialEq.TheImpl as connect
use Rattle.mqtt5_connect.specs.contracts.will.LastWillPropertiesPartialEq.TheImpl as will_properties
use Rattle.mqtt5_connect.specs.contracts.will.LastWillPartialEq.TheImpl as will
use Rattle.mqtt5_connect.specs.contracts.login.LoginPartialEq.TheImpl as login

pub connect_properties_sound : Sound connect_properties.eq-value.it
connect_properties_sound x y h =
    let e =
    both (option_sound number_sound x.session_expiry_interval y.session_expiry_interval)
    (both (option_sound number_sound x.receive_maximum y.receive_maximum)
    (both (option_sound number_sound x.max_packet_size y.max_packet_size)
    (both (option_sound number_sound x.topic_alias_max y.topic_alias_max)
    (both (option_sound number_sound x.request_response_info y.request_response_info)
    (both (option_sound number_sound x.request_problem_info y.request_problem_info)
    (both (list_sound (pair_sound text_sound text_sound) x.user_properties y.user_properties)
    (both (option_sound text_sound x.authentication_method y.authentication_method)
    (option_sound bytes_sound x.authentication_data y.authentication_data)))))))) h in
    λ i. record {
      session_expiry_interval = e.0 i;
      receive_maximum = e.1.0 i;
      max_packet_size = e.1.1.0 i;
      topic_alias_max = e.1.1.1.0 i;
      request_response_info = e.1.1.1.1.0 i;
      request_problem_info = e.1.1.1.1.1.0 i;
      user_properties = e.1.1.1.1.1.1.0 i;
      authentication_method = e.1.1.1.1.1.1.1.0 i;
      authentication_data = e.1.1.1.1.1.1.1.1 i;
    }

pub connect_sound : Sound connect.eq-value.it
connect_sound x y h =
    let e =
    both (number_sound x.keep_alive y.keep_alive)
    (both (text_sound x.client_id y.client_id)
    (both (bool_sound x.clean_start y.clean_start)
    (option_sound connect_properties_sound x.properties y.properties))) h in
    λ i.
    record {
      keep_alive = e.0 i;
      client_id = e.1.0 i;
      clean_start = e.1.1.0 i;
      properties = e.1.1.1 i;
    }

pub will_properties_sound : Sound will_properties.eq-value.it
will_properties_sound x y h =
    let e =
    both (option_sound number_sound x.delay_interval y.delay_interval)
    (both (option_sound number_sound x.payload_format_indicator y.payload_format_indicator)
    (both (option_sound number_sound x.message_expiry_interval y.message_expiry_interval)
    (both (option_sound text_sound x.content_type y.content_type)
    (both (option_sound text_sound x.response_topic y.response_topic)
    (both (option_sound bytes_sound x.correlation_data y.correlation_data)
    (list_sound (pair_sound text_sound text_sound) x.user_properties y.user_properties)))))) h in
    λ i. record {
      delay_interval = e.0 i;
      payload_format_indicator = e.1.0 i;
      message_expiry_interval = e.1.1.0 i;
      content_type = e.1.1.1.0 i;
      response_topic = e.1.1.1.1.0 i;
      correlation_data = e.1.1.1.1.1.0 i;
      user_properties = e.1.1.1.1.1.1 i;
    }

pub will_sound : Sound will.eq-value.it
will_sound x y h =
    let e =
    both (bytes_sound x.topic y.topic)
    (both (bytes_sound x.message y.message)
    (both (qos_sound x.qos y.qos)
    (both (bool_sound x.retain y.retain)
    (option_sound will_properties_sound x.properties y.properties)))) h in
    λ i.
    record {
      topic = e.0 i;
      message = e.1.0 i;
      qos = e.1.1.0 i;
      retain = e.1.1.1.0 i;
      properties = e.1.1.1.1 i;
    }

pub login_sound : Sound login.eq-value.it
login_sound x y h =
    let e = both (text_sound x.username y.username) (text_sound x.password y.password) h in
    λ i. record { username = e.0 i; password = e.1 i }
