-- An Auth as the values of its row (MQTT 5.0 section 3.15).
use Rattle.std.specs.Prelude.{ℕ, [], ◌∷◌, option_map, None}
use Rattle.mqtt5_base.specs.Grammar.{number, Found, plain, properties}
use Rattle.mqtt5_base.specs.Views.{contents, texts, pairs}
use Rattle.mqtt5_base.specs.Layout.{WrittenPacket, plainly}
use Rattle.mqtt5_control.specs.declared.auth.AuthReasonCode.{AuthReasonCode}
use Rattle.mqtt5_control.specs.declared.auth.AuthReasonCode.TheVariants as reasons
use Rattle.mqtt5_control.specs.declared.auth.AuthProperties.{AuthProperties}
use Rattle.mqtt5_control.specs.declared.auth.Auth.{Auth}

-- each reason's code (3.15.2.1)
abbrev pub auth_code : AuthReasonCode → ℕ
auth_code reasons.Success = 0
auth_code reasons.Continue = 24
auth_code reasons.ReAuthentivate = 25

-- the set without values (3.15.2.2)
abbrev pub no_auth_properties : AuthProperties
no_auth_properties = record { method = None; auth_data = None; reason = None; user_properties = [] }

-- the values of the properties (3.15.2.2)
abbrev pub auth_found : AuthProperties → Found
auth_found s = texts s.method ∷ contents s.auth_data ∷ texts s.reason ∷ pairs s.user_properties ∷ []

-- an Auth as it is written: its code and its properties (3.15)
abbrev pub auth_packet : Auth → WrittenPacket
auth_packet a =
    plainly 240
    (plain (number (auth_code a.code)) ∷ properties (option_map auth_found a.properties) ∷ [])
