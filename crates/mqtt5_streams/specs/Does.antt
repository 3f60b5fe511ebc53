-- What a function that plays events over bytes answers, and what a report is of (MQTT 5.0 section
-- 4.3).
use Rattle.std.specs.Prelude.{◌≡◌, ℕ, List, Option, Result, Ok, Err, ◌⊎◌}
use Rattle.mqtt5_base.specs.declared.error.Error.{Error}
use Rattle.mqtt5_codec.specs.declared.codec.Codec.{Codec}
use Rattle.mqtt5_inflight.specs.declared.error.StateError.{StateError}
use Rattle.mqtt5_inflight.specs.declared.error.StateError.TheVariants as errors
use Rattle.mqtt5_inflight.specs.Errors.{state_error}
use Rattle.mqtt5_world.specs.declared.event.Report.{Report}
use Rattle.mqtt5_streams.specs.ByteWorld.{Way, sent, ByteWorld, Outcome}

-- the client's codec, with its limits
abbrev pub codec_of : Option ℕ → Option ℕ → Codec
codec_of incoming outgoing = record { max_incoming_size = incoming; max_outgoing_size = outgoing }

-- the world is reached; or memory was refused, or else this is the fault
abbrev pub Does : {A : Type 0} → Result A StateError → Outcome → ByteWorld → Type 0
Does (Ok done) outcome w = outcome ≡ Ok w
Does (Err e) outcome w = (e ≡ errors.OutOfMemory) ⊎ (outcome ≡ Err e)

-- the bytes are sent; or memory was refused, or else this is why there are none
abbrev pub SendsBytes : Result Unit StateError → Result (List ℕ) Error → Way → Way → Type 0
SendsBytes (Ok done) value old new = (bytes : List ℕ) × (value ≡ Ok bytes) × (new ≡ sent old bytes)
SendsBytes (Err e) value old new =
    (e ≡ errors.OutOfMemory) ⊎ ((f : Error) × (value ≡ Err f) × (e ≡ state_error f))

-- a report of a world
pub record IsByteReport (r : Report) (w : ByteWorld) : Type 0 where
  pub handed : r.handed.items ≡ w.broker.handed
  pub accepted : r.accepted.items ≡ w.accepted
  pub refused : r.refused.items ≡ w.refused
  pub state : r.state ≡ w.session
