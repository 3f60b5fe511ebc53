-- This file serves the logic alone: packets from the values of their rows.
use Rattle.std.specs.Prelude.{ℕ, ◌==◌, option_map, if◌then◌else◌}
use Rattle.mqtt5_base.specs.Grammar.{Found, Content, number_in}
use Rattle.mqtt5_base.specs.FromValues.{one_number, one_content, one_text, all_pairs, here_in}
use Rattle.mqtt5_base.specs.FromValues.{found_in}
use Rattle.mqtt5_control.specs.declared.connack.ConnectReturnCode.{ConnectReturnCode}
use Rattle.mqtt5_control.specs.declared.connack.ConnectReturnCode.TheVariants as connacks
use Rattle.mqtt5_control.specs.declared.connack.ConnAckProperties.{ConnAckProperties}
use Rattle.mqtt5_control.specs.declared.connack.ConnAck.{ConnAck}
use Rattle.mqtt5_control.specs.declared.disconnect.DisconnectReasonCode.{DisconnectReasonCode}
use Rattle.mqtt5_control.specs.declared.disconnect.DisconnectReasonCode.TheVariants as disconnects
use Rattle.mqtt5_control.specs.declared.disconnect.DisconnectProperties.{DisconnectProperties}
use Rattle.mqtt5_control.specs.declared.disconnect.Disconnect.{Disconnect}
use Rattle.mqtt5_control.specs.declared.auth.AuthReasonCode.{AuthReasonCode}
use Rattle.mqtt5_control.specs.declared.auth.AuthReasonCode.TheVariants as auths
use Rattle.mqtt5_control.specs.declared.auth.AuthProperties.{AuthProperties}
use Rattle.mqtt5_control.specs.declared.auth.Auth.{Auth}

-- ---- ConnAck

-- the code of a number
abbrev pub connack_reason : ℕ → ConnectReturnCode
connack_reason n =
    if n == 1 then connacks.RefusedProtocolVersion
    else if n == 2 then connacks.BadClientId
    else if n == 3 then connacks.ServiceUnavailable
    else if n == 128 then connacks.UnspecifiedError
    else if n == 129 then connacks.MalformedPacket
    else if n == 130 then connacks.ProtocolError
    else if n == 131 then connacks.ImplementationSpecificError
    else if n == 132 then connacks.UnsupportedProtocolVersion
    else if n == 133 then connacks.ClientIdentifierNotValid
    else if n == 134 then connacks.BadUserNamePassword
    else if n == 135 then connacks.NotAuthorized
    else if n == 136 then connacks.ServerUnavailable
    else if n == 137 then connacks.ServerBusy
    else if n == 138 then connacks.Banned
    else if n == 140 then connacks.BadAuthenticationMethod
    else if n == 144 then connacks.TopicNameInvalid
    else if n == 149 then connacks.PacketTooLarge
    else if n == 151 then connacks.QuotaExceeded
    else if n == 153 then connacks.PayloadFormatInvalid
    else if n == 154 then connacks.RetainNotSupported
    else if n == 155 then connacks.QoSNotSupported
    else if n == 156 then connacks.UseAnotherServer
    else if n == 157 then connacks.ServerMoved
    else if n == 159 then connacks.ConnectionRateExceeded
    else connacks.Success

-- the properties of their values
abbrev pub connack_set : Found → ConnAckProperties
connack_set f = record {
  session_expiry_interval = one_number (here_in f 0);
  receive_max = one_number (here_in f 1);
  max_qos = one_number (here_in f 2);
  retain_available = one_number (here_in f 3);
  max_packet_size = one_number (here_in f 4);
  assigned_client_identifier = one_text (here_in f 5);
  topic_alias_max = one_number (here_in f 6);
  reason_string = one_text (here_in f 7);
  user_properties = all_pairs (here_in f 8);
  wildcard_subscription_available = one_number (here_in f 9);
  subscription_identifiers_available = one_number (here_in f 10);
  shared_subscription_available = one_number (here_in f 11);
  server_keep_alive = one_number (here_in f 12);
  response_information = one_text (here_in f 13);
  server_reference = one_text (here_in f 14);
  authentication_method = one_text (here_in f 15);
  authentication_data = one_content (here_in f 16);
}

-- the ConnAck of the row's values
abbrev pub connack_of : Content → ConnAck
connack_of c = record {
  session_present = number_in c.0 0 == 1;
  code = connack_reason (number_in c.0 1);
  properties = option_map connack_set (found_in c.0 2);
}

-- ---- Disconnect

-- the reason of a code
abbrev pub disconnect_reason : ℕ → DisconnectReasonCode
disconnect_reason n =
    if n == 4 then disconnects.DisconnectWithWillMessage
    else if n == 128 then disconnects.UnspecifiedError
    else if n == 129 then disconnects.MalformedPacket
    else if n == 130 then disconnects.ProtocolError
    else if n == 131 then disconnects.ImplementationSpecificError
    else if n == 135 then disconnects.NotAuthorized
    else if n == 137 then disconnects.ServerBusy
    else if n == 139 then disconnects.ServerShuttingDown
    else if n == 141 then disconnects.KeepAliveTimeout
    else if n == 142 then disconnects.SessionTakenOver
    else if n == 143 then disconnects.TopicFilterInvalid
    else if n == 144 then disconnects.TopicNameInvalid
    else if n == 147 then disconnects.ReceiveMaximumExceeded
    else if n == 148 then disconnects.TopicAliasInvalid
    else if n == 149 then disconnects.PacketTooLarge
    else if n == 150 then disconnects.MessageRateTooHigh
    else if n == 151 then disconnects.QuotaExceeded
    else if n == 152 then disconnects.AdministrativeAction
    else if n == 153 then disconnects.PayloadFormatInvalid
    else if n == 154 then disconnects.RetainNotSupported
    else if n == 155 then disconnects.QoSNotSupported
    else if n == 156 then disconnects.UseAnotherServer
    else if n == 157 then disconnects.ServerMoved
    else if n == 158 then disconnects.SharedSubscriptionNotSupported
    else if n == 159 then disconnects.ConnectionRateExceeded
    else if n == 160 then disconnects.MaximumConnectTime
    else if n == 161 then disconnects.SubscriptionIdentifiersNotSupported
    else if n == 162 then disconnects.WildcardSubscriptionsNotSupported
    else disconnects.NormalDisconnection

-- the properties of their values
abbrev pub disconnect_set : Found → DisconnectProperties
disconnect_set f = record {
  session_expiry_interval = one_number (here_in f 0);
  reason_string = one_text (here_in f 1);
  user_properties = all_pairs (here_in f 2);
  server_reference = one_text (here_in f 3);
}

-- the Disconnect of the row's values
abbrev pub disconnect_of : Content → Disconnect
disconnect_of c = record {
  reason_code = disconnect_reason (number_in c.0 0);
  properties = option_map disconnect_set (found_in c.0 1);
}

-- ---- Auth

-- the reason of a code
abbrev pub auth_reason : ℕ → AuthReasonCode
auth_reason n =
    if n == 24 then auths.Continue else if n == 25 then auths.ReAuthentivate else auths.Success

-- the properties of their values
abbrev pub auth_set : Found → AuthProperties
auth_set f = record {
  method = one_text (here_in f 0);
  auth_data = one_content (here_in f 1);
  reason = one_text (here_in f 2);
  user_properties = all_pairs (here_in f 3);
}

-- the Auth of the row's values
abbrev pub auth_of : Content → Auth
auth_of c = record {
  code = auth_reason (number_in c.0 0);
  properties = option_map auth_set (found_in c.0 1);
}
