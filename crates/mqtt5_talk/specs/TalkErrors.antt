-- Why a talk stops, by the fault of its pipe.
use Rattle.std.specs.Prelude.{Option, Some, None}
use Rattle.mqtt5_inflight.specs.declared.error.StateError.{StateError}
use Rattle.mqtt5_inflight.specs.declared.error.StateError.TheVariants as errors
use Rattle.mqtt5_pipe.specs.declared.error.PipeError.{PipeError}
use Rattle.mqtt5_pipe.specs.declared.error.PipeError.TheVariants as faults
use Rattle.mqtt5_talk.specs.declared.error.TalkError.{TalkError}
use Rattle.mqtt5_talk.specs.declared.error.TalkError.TheVariants.{Refused, Ended, Failed}

-- what the broker said, where it refused the connection (MQTT 5.0 section 3.2.2.2) or ended it
-- (3.14.2.1), with its text (3.14.2.2.3)
abbrev pub broker_said : StateError → Option TalkError
broker_said (errors.ConnFail reason) = Some (Refused reason (record { text = None }))
broker_said (errors.ServerDisconnect reason text) = Some (Ended reason (record { text = text }))
broker_said e = None

-- an Auth came, which a broker may send only where the Connect names a method (4.12)
abbrev pub unasked : TalkError
unasked = Failed (faults.Session errors.WrongPacket)

-- the same of a pipe's fault
abbrev pub pipe_said : PipeError → Option TalkError
pipe_said (faults.Session e) = broker_said e
pipe_said (faults.Unanswered e error) = broker_said e
pipe_said fault = None

-- what was said, or else the fault
abbrev pub unless : Option TalkError → PipeError → TalkError
unless (Some trouble) fault = trouble
unless None fault = Failed fault

abbrev pub error_of : PipeError → TalkError
error_of fault = unless (pipe_said fault) fault
