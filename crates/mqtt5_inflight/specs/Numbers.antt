-- Refusals of a session as numbers: Sn is n; what is never answered is 0.
use Rattle.std.specs.Prelude.{ℕ}
use Rattle.mqtt5_inflight.specs.declared.error.StateError.{StateError}
use Rattle.mqtt5_inflight.specs.declared.error.StateError.TheVariants as faults

-- of a session's refusal
abbrev pub state_error_number : StateError → ℕ
state_error_number faults.InvalidState = 1
state_error_number (faults.Unsolicited id) = 2
state_error_number faults.AwaitPingResp = 3
state_error_number faults.WrongPacket = 4
state_error_number faults.CollisionTimeout = 5
state_error_number faults.EmptySubscription = 6
state_error_number (faults.Deserialization e) = 7
state_error_number (faults.InvalidAlias alias max) = 8
state_error_number (faults.OutgoingPacketTooLarge pkt_size max) = 9
state_error_number (faults.ServerDisconnect code reason) = 10
state_error_number (faults.ConnFail code) = 11
state_error_number faults.OutOfMemory = 12
state_error_number faults.Disconnected = 13
state_error_number other = 0
