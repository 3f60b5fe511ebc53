-- What a call leaves of a client: a run of its session over what came in and what was asked, whose
-- output is what was taken to be sent and what still waits (MQTT 5.0 section 4.2).
use Rattle.std.specs.Prelude.{◌≡◌, ℕ, Bool, true, false, ◌||◌, List, [], ◌∷◌, ◌++◌, drop, length}
use Rattle.std.specs.Prelude.{option_map}
use Rattle.std.specs.Option.{option_to_list}
use Rattle.mqtt5_base.specs.Front.{NeedsMore}
use Rattle.mqtt5_base.specs.FrontAt.{front}
use Rattle.mqtt5_codec.specs.declared.codec.Codec.{Codec}
use Rattle.mqtt5_inflight.specs.declared.event.Request.{Request}
use Rattle.mqtt5_inflight.specs.declared.event.Request.TheVariants as requests
use Rattle.mqtt5_inflight.specs.declared.error.StateError.{StateError}
use Rattle.mqtt5_inflight.specs.Unacked.{requests_of}
use Rattle.mqtt5_session.specs.Session.{Core}
use Rattle.mqtt5_drive.specs.declared.run.Step.{Step}
use Rattle.mqtt5_drive.specs.declared.run.Input.{Input}
use Rattle.mqtt5_drive.specs.declared.run.Input.TheVariants as inputs
use Rattle.mqtt5_drive.specs.Trace.{Trace, Holds, finish, Stops}
use Rattle.mqtt5_drive.specs.Run.{turns, run}
use Rattle.mqtt5_drive.specs.Limit.{codec_after}
use Rattle.mqtt5_client.specs.declared.client.Client.{Client}

-- the input is in want of more bytes, as an empty one is
abbrev pub IsReady : Client → Type 0
IsReady c = NeedsMore (front c.codec.max_incoming_size c.input.items)

-- these bytes came in, and stand at the end of the input of a client that was ready before
pub record Fed (before : Client) (came : List ℕ) (fed : Client) : Type 0 where
  pub ready : IsReady before
  pub grown : fed.input.items ≡ before.input.items ++ came
  pub same : fed ≡ record before { input = fed.input }

-- a step that is a request
abbrev pub asking : ℕ → Request → Step
asking at request = record { at = at; input = inputs.Request request }

-- whether a step asks for a Disconnect
abbrev pub disconnects : Input → Bool
disconnects (inputs.Request requests.Disconnect) = true
disconnects input = false

-- whether a Disconnect was asked for, before these steps or by one of them, so that nothing may
-- follow it (3.14.4)
abbrev pub is_disconnected : Bool → List Step → Bool
is_disconnected before [] = before
is_disconnected before (step ∷ steps) = is_disconnected (disconnects step.input || before) steps

-- the run of a client's session over these steps
abbrev pub trace : Client → List Step → Trace
trace c steps = run c.codec (turns steps) c.state c.input.items

-- All is the run's: the session, the bytes held, and the output, of which sent is gone and new has
-- the rest. A Disconnect that was asked for is remembered.
pub record Runs (old : Client) (steps : List Step) (sent : List ℕ) (new : Client) : Type 0 where
  pub all : finish old.state old.output.items (trace old steps)
      ≡ record {
        session = new.state;
        output = sent ++ new.output.items;
        ending = Holds new.input.items;
      }
  pub ready : IsReady new
  pub over : new.disconnected ≡ is_disconnected old.disconnected steps

-- The run stops with this fault, or memory ran out on its way; the session and the output are those
-- of then.
abbrev pub Fails : StateError → Client → List Step → List ℕ → Client → Type 0
Fails e old steps sent new =
    Stops e old.state old.output.items (trace old steps) new.state (sent ++ new.output.items)

-- the codec of a client once a call added events: with the limit of the ConnAcks of success among
-- these (3.2.2.3.6)
abbrev pub codec_since : Client → Client → Codec
codec_since old new = codec_after (drop (length old.state.events) new.state.events) old.codec

-- what a session gives back: what it would send again (4.4), and the publish that waits for its id
abbrev pub given_back : Core → List Request
given_back c =
    requests_of c.limit c.in_use ++ option_to_list (option_map requests.Publish c.waiting)
