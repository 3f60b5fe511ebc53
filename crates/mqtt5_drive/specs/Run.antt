-- The run of a client over pieces of bytes and requests, a byte at a time: what comes in is an
-- ordered stream of bytes (MQTT 5.0 section 4.2).
use Rattle.std.specs.Prelude.{ℕ, List, [], ◌∷◌, ◌++◌, Option, Some, None, Result, Ok, Err}
use Rattle.mqtt5_base.specs.declared.error.Error.{Error}
use Rattle.mqtt5_base.specs.Front.{Front, Bad, More, Whole}
use Rattle.mqtt5_base.specs.FrontAt.{front}
use Rattle.mqtt5_codec.specs.declared.packet.Packet.{Packet}
use Rattle.mqtt5_codec.specs.declared.codec.Codec.{Codec}
use Rattle.mqtt5_codec.specs.Packets.{writing_under}
use Rattle.mqtt5_codec.specs.PacketsIn.{packet_in}
use Rattle.mqtt5_inflight.specs.Errors.{state_error}
use Rattle.mqtt5_inflight.specs.declared.event.Request.{Request}
use Rattle.mqtt5_inflight.specs.declared.error.StateError.{StateError}
use Rattle.mqtt5_session.specs.Session.{Session, Answer}
use Rattle.mqtt5_session.specs.Requests.{on_request}
use Rattle.mqtt5_session.specs.Packets.{on_packet}
use Rattle.mqtt5_drive.specs.declared.run.Step.{Step}
use Rattle.mqtt5_drive.specs.declared.run.Input.{Input}
use Rattle.mqtt5_drive.specs.declared.run.Input.TheVariants as inputs
use Rattle.mqtt5_drive.specs.Trace.{Trace, Waits, Faults, Steps}

-- what the run takes, one after another: a byte or a request, with its moment
pub data Turn : Type 0 where
  Byte : (at b : ℕ) → Turn
  Ask : (at : ℕ) (request : Request) → Turn

-- the bytes of a piece, each with its moment
abbrev pub byte_turns : ℕ → List ℕ → List Turn
byte_turns at [] = []
byte_turns at (b ∷ bytes) = Byte at b ∷ byte_turns at bytes

-- an input, with its moment
abbrev pub of_input : ℕ → Input → List Turn
of_input at (inputs.Bytes piece) = byte_turns at piece
of_input at (inputs.Request request) = Ask at request ∷ []

-- the inputs of all steps in order
abbrev pub turns : List Step → List Turn
turns [] = []
turns (step ∷ steps) = of_input step.at step.input ++ turns steps

-- the bytes of a reply, or why it isn't written
abbrev pub reply_bytes : Codec → Option Packet → Result (List ℕ) Error
reply_bytes codec None = Ok []
reply_bytes codec (Some p) = writing_under codec.max_outgoing_size p

-- the reply is written, or its refusal ends the run
abbrev pub on_written : Session → Result (List ℕ) Error → (Session → Trace) → Trace
on_written s (Ok bytes) goes_on = Steps s bytes (goes_on s)
on_written s (Err e) goes_on = Steps s [] (Faults (state_error e))

-- a fault of the session ends the run
abbrev pub on_reply : Codec → Session → Result (Option Packet) StateError → (Session → Trace)
    → Trace
on_reply codec s (Ok reply) goes_on = on_written s (reply_bytes codec reply) goes_on
on_reply codec s (Err e) goes_on = Steps s [] (Faults e)

-- an answer of the session, and the session after it
abbrev pub on_answer : Codec → Answer → (Session → Trace) → Trace
on_answer codec a goes_on = on_reply codec a.1 a.0 goes_on

-- the packet of a whole frame goes to the session, or its fault ends the run
abbrev pub on_frame : Codec → ℕ → Session → Result Packet Error → (Session → Trace) → Trace
on_frame codec at s (Ok p) goes_on = on_answer codec (on_packet s p at) goes_on
on_frame codec at s (Err e) goes_on = Faults (state_error e)

-- the front of the bytes held is looked at: more are awaited, a whole frame is taken out, or a bad
-- one ends the run
abbrev pub on_front : Codec → ℕ → Session → List ℕ → Front → (Session → List ℕ → Trace) → Trace
on_front codec at s held (Bad e) goes_on = Faults (state_error e)
on_front codec at s held (More n) goes_on = goes_on s held
on_front codec at s held (Whole frame rest) goes_on =
    on_frame codec at s (packet_in frame) (λ t. goes_on t rest)

-- from a session and the bytes held
unfoldable pub run : Codec → List Turn → Session → List ℕ → Trace
run codec [] s held = Waits held
run codec (Byte at b ∷ rest) s held =
    on_front codec at s (held ++ b ∷ []) (front codec.max_incoming_size (held ++ b ∷ []))
    (λ t left. run codec rest t left)
run codec (Ask at request ∷ rest) s held =
    on_answer codec (on_request s request at) (λ t. run codec rest t held)

-- a step that is a piece
abbrev pub piece : ℕ → List ℕ → Step
piece at bytes = record { at = at; input = inputs.Bytes bytes }
