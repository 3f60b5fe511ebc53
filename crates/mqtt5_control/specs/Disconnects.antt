-- A Disconnect as the values of its row (MQTT 5.0 section 3.14).
use Rattle.std.specs.Prelude.{ℕ, [], ◌∷◌, option_map, None}
use Rattle.mqtt5_base.specs.Grammar.{number, Found, plain, properties}
use Rattle.mqtt5_base.specs.Views.{numbers, texts, pairs}
use Rattle.mqtt5_base.specs.Layout.{WrittenPacket, plainly}
use Rattle.mqtt5_control.specs.declared.disconnect.DisconnectReasonCode.{DisconnectReasonCode}
use Rattle.mqtt5_control.specs.declared.disconnect.DisconnectReasonCode.TheVariants as reasons
use Rattle.mqtt5_control.specs.declared.disconnect.DisconnectProperties.{DisconnectProperties}
use Rattle.mqtt5_control.specs.declared.disconnect.Disconnect.{Disconnect}

-- each reason's code (3.14.2.1)
abbrev pub disconnect_code : DisconnectReasonCode → ℕ
disconnect_code reasons.NormalDisconnection = 0
disconnect_code reasons.DisconnectWithWillMessage = 4
disconnect_code reasons.UnspecifiedError = 128
disconnect_code reasons.MalformedPacket = 129
disconnect_code reasons.ProtocolError = 130
disconnect_code reasons.ImplementationSpecificError = 131
disconnect_code reasons.NotAuthorized = 135
disconnect_code reasons.ServerBusy = 137
disconnect_code reasons.ServerShuttingDown = 139
disconnect_code reasons.KeepAliveTimeout = 141
disconnect_code reasons.SessionTakenOver = 142
disconnect_code reasons.TopicFilterInvalid = 143
disconnect_code reasons.TopicNameInvalid = 144
disconnect_code reasons.ReceiveMaximumExceeded = 147
disconnect_code reasons.TopicAliasInvalid = 148
disconnect_code reasons.PacketTooLarge = 149
disconnect_code reasons.MessageRateTooHigh = 150
disconnect_code reasons.QuotaExceeded = 151
disconnect_code reasons.AdministrativeAction = 152
disconnect_code reasons.PayloadFormatInvalid = 153
disconnect_code reasons.RetainNotSupported = 154
disconnect_code reasons.QoSNotSupported = 155
disconnect_code reasons.UseAnotherServer = 156
disconnect_code reasons.ServerMoved = 157
disconnect_code reasons.SharedSubscriptionNotSupported = 158
disconnect_code reasons.ConnectionRateExceeded = 159
disconnect_code reasons.MaximumConnectTime = 160
disconnect_code reasons.SubscriptionIdentifiersNotSupported = 161
disconnect_code reasons.WildcardSubscriptionsNotSupported = 162

-- the set without values (3.14.2.2)
abbrev pub no_disconnect_properties : DisconnectProperties
no_disconnect_properties = record {
  session_expiry_interval = None;
  reason_string = None;
  user_properties = [];
  server_reference = None;
}

-- the values of the properties (3.14.2.2)
abbrev pub disconnect_found : DisconnectProperties → Found
disconnect_found s =
    numbers s.session_expiry_interval ∷ texts s.reason_string ∷ pairs s.user_properties
    ∷ texts s.server_reference ∷ []

-- a Disconnect as it is written: its code and its properties (3.14)
abbrev pub disconnect_packet : Disconnect → WrittenPacket
disconnect_packet d =
    plainly 224
    (plain (number (disconnect_code d.reason_code))
    ∷ properties (option_map disconnect_found d.properties) ∷ [])
