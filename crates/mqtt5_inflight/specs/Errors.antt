-- What a session answers for an error of reading or writing (MQTT 5.0 section 4.13).
use Rattle.mqtt5_base.specs.declared.error.Error.{Error}
use Rattle.mqtt5_base.specs.declared.error.Error.TheVariants as errors
use Rattle.mqtt5_inflight.specs.declared.error.StateError.{StateError}
use Rattle.mqtt5_inflight.specs.declared.error.StateError.TheVariants as state_errors

-- a packet over the outgoing limit and refused memory keep their own errors; every other error is
-- passed on
abbrev pub state_error : Error → StateError
state_error (errors.OutgoingPacketTooLarge pkt_size max) =
    state_errors.OutgoingPacketTooLarge pkt_size max
state_error errors.OutOfMemory = state_errors.OutOfMemory
state_error e = state_errors.Deserialization e
