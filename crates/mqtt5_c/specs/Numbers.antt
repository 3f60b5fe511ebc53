-- Outcomes as numbers.
use Rattle.std.specs.Prelude.{ℕ, ◌+◌, Result, Ok, Err}
use Rattle.mqtt5_inflight.specs.declared.error.StateError.{StateError}
use Rattle.mqtt5_inflight.specs.declared.error.StateError.TheVariants as faults
use Rattle.mqtt5_client.specs.Numbers.{error_number, state_error_number}

-- n of Sn; where a frame can't be read or a packet can't be written (S7), 100 + n of En, which says
-- why
abbrev pub fault_code : StateError → ℕ
fault_code (faults.Deserialization e) = 100 + error_number e
fault_code fault = state_error_number fault

-- what a client's call answers
abbrev pub Outcome : Type 0
Outcome = Result (Unit {0}) StateError

-- 0 where it was done
abbrev pub code_of : Outcome → ℕ
code_of (Ok done) = 0
code_of (Err fault) = fault_code fault

-- the handle has no client
abbrev pub no_client : ℕ
no_client = 200

-- an argument isn't taken
abbrev pub bad_argument : ℕ
bad_argument = 201

-- the handle has a client already
abbrev pub has_client : ℕ
has_client = 202

-- a buffer is too small
abbrev pub small_buffer : ℕ
small_buffer = 203

-- the oldest event, or the oldest request that was let go, hasn't what is asked for
abbrev pub absent : ℕ
absent = 204

-- memory is refused (S12)
abbrev pub out_of_memory : ℕ
out_of_memory = 12
