-- An UnsubAck as the values of its row (MQTT 5.0 section 3.11).
use Rattle.std.specs.Prelude.{ℕ, [], ◌∷◌, map, option_map}
use Rattle.mqtt5_base.specs.Grammar.{number, plain}
use Rattle.mqtt5_base.specs.Layout.{Written, just, WrittenPacket}
use Rattle.mqtt5_base.specs.AckSets.{ack_found}
use Rattle.mqtt5_subscribe.specs.declared.unsuback.UnsubAckReason.{UnsubAckReason}
use Rattle.mqtt5_subscribe.specs.declared.unsuback.UnsubAckReason.TheVariants as codes
use Rattle.mqtt5_subscribe.specs.declared.unsuback.UnsubAck.{UnsubAck}
use Rattle.mqtt5_subscribe.specs.Lists.{listed_packet}

-- each reason's code (3.11.3)
abbrev pub unsuback_code : UnsubAckReason → ℕ
unsuback_code codes.Success = 0
unsuback_code codes.NoSubscriptionExisted = 17
unsuback_code codes.UnspecifiedError = 128
unsuback_code codes.ImplementationSpecificError = 131
unsuback_code codes.NotAuthorized = 135
unsuback_code codes.TopicFilterInvalid = 143
unsuback_code codes.PacketIdentifierInUse = 145

-- a reason code of the list
abbrev pub unsuback_item : UnsubAckReason → Written
unsuback_item r = just (plain (number (unsuback_code r)) ∷ [])

-- an UnsubAck as it is written
abbrev pub unsuback_packet : UnsubAck → WrittenPacket
unsuback_packet p =
    listed_packet 176 p.pkid (option_map ack_found p.properties) (map unsuback_item p.reasons)
