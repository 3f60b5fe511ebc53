-- A ConnAck as the values of its row (MQTT 5.0 section 3.2).
use Rattle.std.specs.Prelude.{ℕ, [], ◌∷◌, option_map, None}
use Rattle.mqtt5_base.specs.Grammar.{number, Found, plain, properties}
use Rattle.mqtt5_base.specs.Views.{bit, numbers, contents, texts, pairs}
use Rattle.mqtt5_base.specs.Layout.{WrittenPacket}
use Rattle.mqtt5_control.specs.declared.connack.ConnectReturnCode.{ConnectReturnCode}
use Rattle.mqtt5_control.specs.declared.connack.ConnectReturnCode.TheVariants as reasons
use Rattle.mqtt5_control.specs.declared.connack.ConnAckProperties.{ConnAckProperties}
use Rattle.mqtt5_control.specs.declared.connack.ConnAck.{ConnAck}

-- each code's number (3.2.2.2); those from 1 to 3 are of earlier versions
abbrev pub connack_code : ConnectReturnCode → ℕ
connack_code reasons.Success = 0
connack_code reasons.RefusedProtocolVersion = 1
connack_code reasons.BadClientId = 2
connack_code reasons.ServiceUnavailable = 3
connack_code reasons.UnspecifiedError = 128
connack_code reasons.MalformedPacket = 129
connack_code reasons.ProtocolError = 130
connack_code reasons.ImplementationSpecificError = 131
connack_code reasons.UnsupportedProtocolVersion = 132
connack_code reasons.ClientIdentifierNotValid = 133
connack_code reasons.BadUserNamePassword = 134
connack_code reasons.NotAuthorized = 135
connack_code reasons.ServerUnavailable = 136
connack_code reasons.ServerBusy = 137
connack_code reasons.Banned = 138
connack_code reasons.BadAuthenticationMethod = 140
connack_code reasons.TopicNameInvalid = 144
connack_code reasons.PacketTooLarge = 149
connack_code reasons.QuotaExceeded = 151
connack_code reasons.PayloadFormatInvalid = 153
connack_code reasons.RetainNotSupported = 154
connack_code reasons.QoSNotSupported = 155
connack_code reasons.UseAnotherServer = 156
connack_code reasons.ServerMoved = 157
connack_code reasons.ConnectionRateExceeded = 159

-- the set without values (3.2.2.3)
abbrev pub no_connack_properties : ConnAckProperties
no_connack_properties = record {
  session_expiry_interval = None;
  receive_max = None;
  max_qos = None;
  retain_available = None;
  max_packet_size = None;
  assigned_client_identifier = None;
  topic_alias_max = None;
  reason_string = None;
  user_properties = [];
  wildcard_subscription_available = None;
  subscription_identifiers_available = None;
  shared_subscription_available = None;
  server_keep_alive = None;
  response_information = None;
  server_reference = None;
  authentication_method = None;
  authentication_data = None;
}

-- the values of the properties (3.2.2.3)
abbrev pub connack_found : ConnAckProperties → Found
connack_found s =
    numbers s.session_expiry_interval
    ∷ numbers s.receive_max
    ∷ numbers s.max_qos
    ∷ numbers s.retain_available
    ∷ numbers s.max_packet_size
    ∷ texts s.assigned_client_identifier
    ∷ numbers s.topic_alias_max
    ∷ texts s.reason_string
    ∷ pairs s.user_properties
    ∷ numbers s.wildcard_subscription_available
    ∷ numbers s.subscription_identifiers_available
    ∷ numbers s.shared_subscription_available
    ∷ numbers s.server_keep_alive
    ∷ texts s.response_information
    ∷ texts s.server_reference
    ∷ texts s.authentication_method
    ∷ contents s.authentication_data
    ∷ []

-- a ConnAck as it is written: its flag, beside which the other flags are 0 (3.2.2.1), its code and
-- its properties
abbrev pub connack_packet : ConnAck → WrittenPacket
connack_packet a =
    let present = plain (number (bit a.session_present)) in
    record {
      first = 32;
      head = record {
        raws = present ∷ [];
        kept = present ∷ plain (number (connack_code a.code))
            ∷ properties (option_map connack_found a.properties) ∷ [];
      };
      groups = [];
    }
