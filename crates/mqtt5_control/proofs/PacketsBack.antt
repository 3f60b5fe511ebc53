-- Packets are what is made again of their values.
use Rattle.std.proofs.Common.{◌≡◌, rules}
use Rattle.mqtt5_base.specs.Layout.{content_of_packet}
use Rattle.mqtt5_base.proofs.ViewsBack.{bit_back, numbers_back, contents_back, texts_back, pairs_back, set_back}
use Rattle.mqtt5_control.specs.declared.connack.ConnectReturnCode.{ConnectReturnCode}
use Rattle.mqtt5_control.specs.declared.connack.ConnAckProperties.{ConnAckProperties}
use Rattle.mqtt5_control.specs.declared.connack.ConnAck.{ConnAck}
use Rattle.mqtt5_control.specs.declared.disconnect.DisconnectReasonCode.{DisconnectReasonCode}
use Rattle.mqtt5_control.specs.declared.disconnect.DisconnectProperties.{DisconnectProperties}
use Rattle.mqtt5_control.specs.declared.disconnect.Disconnect.{Disconnect}
use Rattle.mqtt5_control.specs.declared.auth.AuthReasonCode.{AuthReasonCode}
use Rattle.mqtt5_control.specs.declared.auth.AuthProperties.{AuthProperties}
use Rattle.mqtt5_control.specs.declared.auth.Auth.{Auth}
use Rattle.mqtt5_control.specs.ConnAcks.{connack_code, connack_found, connack_packet}
use Rattle.mqtt5_control.specs.Disconnects.{disconnect_code, disconnect_found, disconnect_packet}
use Rattle.mqtt5_control.specs.Auths.{auth_code, auth_found, auth_packet}
use Rattle.mqtt5_control.specs.FromValues.{connack_reason, connack_set, connack_of, disconnect_reason, disconnect_set, disconnect_of, auth_reason, auth_set, auth_of}

-- ---- ConnAck

-- a code is that of its number
connack_reason_back : (r : ConnectReturnCode) → connack_reason (connack_code r) ≡ r
connack_reason_back = search rules

-- the properties are those of their values
connack_set_back : (s : ConnAckProperties) → connack_set (connack_found s) ≡ s
connack_set_back s = λ i. record {
  session_expiry_interval = numbers_back s.session_expiry_interval i;
  receive_max = numbers_back s.receive_max i;
  max_qos = numbers_back s.max_qos i;
  retain_available = numbers_back s.retain_available i;
  max_packet_size = numbers_back s.max_packet_size i;
  assigned_client_identifier = texts_back s.assigned_client_identifier i;
  topic_alias_max = numbers_back s.topic_alias_max i;
  reason_string = texts_back s.reason_string i;
  user_properties = pairs_back s.user_properties i;
  wildcard_subscription_available = numbers_back s.wildcard_subscription_available i;
  subscription_identifiers_available = numbers_back s.subscription_identifiers_available i;
  shared_subscription_available = numbers_back s.shared_subscription_available i;
  server_keep_alive = numbers_back s.server_keep_alive i;
  response_information = texts_back s.response_information i;
  server_reference = texts_back s.server_reference i;
  authentication_method = texts_back s.authentication_method i;
  authentication_data = contents_back s.authentication_data i;
}

-- A ConnAck is the one of its values.
pub connack_back : (a : ConnAck) → connack_of (content_of_packet (connack_packet a)) ≡ a
connack_back a = λ i. record { session_present = bit_back a.session_present i; code = connack_reason_back a.code i; properties = set_back connack_found connack_set connack_set_back a.properties i }

-- ---- Disconnect

-- a reason is that of its code
disconnect_reason_back : (r : DisconnectReasonCode) → disconnect_reason (disconnect_code r) ≡ r
disconnect_reason_back = search rules

-- the properties are those of their values
disconnect_set_back : (s : DisconnectProperties) → disconnect_set (disconnect_found s) ≡ s
disconnect_set_back s = λ i. record {
  session_expiry_interval = numbers_back s.session_expiry_interval i;
  reason_string = texts_back s.reason_string i;
  user_properties = pairs_back s.user_properties i;
  server_reference = texts_back s.server_reference i;
}

-- A Disconnect is the one of its values.
pub disconnect_back : (d : Disconnect) → disconnect_of (content_of_packet (disconnect_packet d)) ≡ d
disconnect_back d = λ i. record { reason_code = disconnect_reason_back d.reason_code i; properties = set_back disconnect_found disconnect_set disconnect_set_back d.properties i }

-- ---- Auth

-- a reason is that of its code
auth_reason_back : (r : AuthReasonCode) → auth_reason (auth_code r) ≡ r
auth_reason_back = search rules

-- the properties are those of their values
auth_set_back : (s : AuthProperties) → auth_set (auth_found s) ≡ s
auth_set_back s = λ i. record { method = texts_back s.method i; auth_data = contents_back s.auth_data i; reason = texts_back s.reason i; user_properties = pairs_back s.user_properties i }

-- An Auth is the one of its values.
pub auth_back : (a : Auth) → auth_of (content_of_packet (auth_packet a)) ≡ a
auth_back a = λ i. record { code = auth_reason_back a.code i; properties = set_back auth_found auth_set auth_set_back a.properties i }
