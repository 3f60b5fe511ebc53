-- A SubAck as the values of its row (MQTT 5.0 section 3.9).
use Rattle.std.specs.Prelude.{ℕ, [], ◌∷◌, map, option_map}
use Rattle.mqtt5_base.specs.Grammar.{number, plain}
use Rattle.mqtt5_base.specs.Views.{qos_number}
use Rattle.mqtt5_base.specs.Layout.{Written, just, WrittenPacket}
use Rattle.mqtt5_base.specs.AckSets.{ack_found}
use Rattle.mqtt5_subscribe.specs.declared.suback.SubscribeReasonCode.{SubscribeReasonCode}
use Rattle.mqtt5_subscribe.specs.declared.suback.SubscribeReasonCode.TheVariants as codes
use Rattle.mqtt5_subscribe.specs.declared.suback.SubAck.{SubAck}
use Rattle.mqtt5_subscribe.specs.Lists.{listed_packet}

-- each reason's code (3.9.3)
abbrev pub suback_code : SubscribeReasonCode → ℕ
suback_code (codes.Success q) = qos_number q
suback_code codes.Failure = 128
suback_code codes.Unspecified = 128
suback_code codes.ImplementationSpecific = 131
suback_code codes.NotAuthorized = 135
suback_code codes.TopicFilterInvalid = 143
suback_code codes.PkidInUse = 145
suback_code codes.QuotaExceeded = 151
suback_code codes.SharedSubscriptionsNotSupported = 158
suback_code codes.SubscriptionIdNotSupported = 161
suback_code codes.WildcardSubscriptionsNotSupported = 162

-- a reason code of the list
abbrev pub suback_item : SubscribeReasonCode → Written
suback_item r = just (plain (number (suback_code r)) ∷ [])

-- a SubAck as it is written
abbrev pub suback_packet : SubAck → WrittenPacket
suback_packet p =
    listed_packet 144 p.pkid (option_map ack_found p.properties) (map suback_item p.return_codes)

-- the same reason as it is read: a failure has the code of an unspecified one
abbrev pub suback_settled : SubscribeReasonCode → SubscribeReasonCode
suback_settled codes.Failure = codes.Unspecified
suback_settled r = r
