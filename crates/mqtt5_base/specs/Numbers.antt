-- Errors as numbers: En is n; what is never answered is 0.
use Rattle.std.specs.Prelude.{ℕ}
use Rattle.mqtt5_base.specs.declared.error.Error.{Error}
use Rattle.mqtt5_base.specs.declared.error.Error.TheVariants as errors

-- of an error of reading or writing
abbrev pub error_number : Error → ℕ
error_number (errors.InvalidConnectReturnCode code) = 1
error_number errors.InvalidProtocol = 2
error_number (errors.InvalidProtocolLevel level) = 3
error_number errors.IncorrectPacketFormat = 4
error_number (errors.InvalidPacketType kind) = 5
error_number (errors.InvalidRetainForwardRule rule) = 6
error_number (errors.InvalidQoS qos) = 7
error_number (errors.InvalidSubscribeReasonCode code) = 8
error_number errors.PacketIdZero = 9
error_number errors.EmptySubscription = 10
error_number errors.PayloadTooLong = 11
error_number (errors.PayloadSizeLimitExceeded pkt_size max) = 12
error_number errors.PayloadRequired = 13
error_number errors.TopicNotUtf8 = 14
error_number (errors.BoundaryCrossed count) = 15
error_number errors.MalformedPacket = 16
error_number errors.MalformedRemainingLength = 17
error_number (errors.InvalidPropertyType kind) = 18
error_number (errors.InsufficientBytes count) = 19
error_number (errors.OutgoingPacketTooLarge pkt_size max) = 20
error_number errors.OutOfMemory = 21
error_number other = 0
