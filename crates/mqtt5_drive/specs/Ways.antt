-- This file serves the logic alone: a run goes on from one point to another.
use Rattle.std.specs.Prelude.{◌≡◌, ℕ, ◌⊎◌, List, [], ◌++◌, Result, Ok, Err}
use Rattle.mqtt5_base.specs.declared.error.Error.{Error}
use Rattle.mqtt5_codec.specs.declared.codec.Codec.{Codec}
use Rattle.mqtt5_inflight.specs.Errors.{state_error}
use Rattle.mqtt5_inflight.specs.declared.error.StateError.{StateError}
use Rattle.mqtt5_inflight.specs.declared.error.StateError.TheVariants as faults
use Rattle.mqtt5_session.specs.Session.{Session, Answer}
use Rattle.mqtt5_drive.specs.Trace.{Trace, finish, Passes, Stops}
use Rattle.mqtt5_drive.specs.Run.{Turn, byte_turns, on_answer, run}

-- c, from s and o, goes on as d from t and u
pub record LeadsTo (s : Session) (o : List ℕ) (c : Trace) (t : Session) (u : List ℕ) (d : Trace) :
    Type 0 where
  pub ends : finish s o c ≡ finish t u d
  pub points : (v : Session) (w : List ℕ) → Passes t u d v w → Passes s o c v w

-- one move, whatever comes after
abbrev pub Goes : Result Unit StateError → Codec → Answer → Session → List ℕ → Session → List ℕ
    → Type 0
Goes (Ok done) codec a s o t u =
    (goes_on : Session → Trace) → LeadsTo s o (on_answer codec a goes_on) t u (goes_on t)
Goes (Err e) codec a s o t u =
    (goes_on : Session → Trace) → Stops e s o (on_answer codec a goes_on) t u

-- a reply is put at the end, or nothing is
abbrev pub Replies : Result Unit StateError → Result (List ℕ) Error → List ℕ → List ℕ → Type 0
Replies (Ok done) value old new = (bytes : List ℕ) × (value ≡ Ok bytes) × (new ≡ old ++ bytes)
Replies (Err e) value old new =
    (new ≡ old)
    × (((e ≡ faults.OutOfMemory) × ((bytes : List ℕ) × (value ≡ Ok bytes)))
    ⊎ ((f : Error) × (value ≡ Err f) × (e ≡ state_error f)))

-- a step over bytes, whatever comes after
abbrev pub Drained : Codec → ℕ → Session → List ℕ → List ℕ → Session → List ℕ → List ℕ → Type 0
Drained codec at s o held t u left =
    (rest : List Turn)
    → LeadsTo s o (run codec (byte_turns at held ++ rest) s []) t u
    (run codec (byte_turns at left ++ rest) t [])

-- the bytes held are taken, whatever comes after, and these are left
abbrev pub Drains : Codec → ℕ → Session → List ℕ → List ℕ → Session → List ℕ → List ℕ → Type 0
Drains codec at s o held t u left =
    (rest : List Turn)
    → LeadsTo s o (run codec (byte_turns at held ++ rest) s []) t u (run codec rest t left)

-- a run over the bytes held stops, whatever comes after
abbrev pub DrainStops : StateError → Codec → ℕ → Session → List ℕ → List ℕ → Session → List ℕ
    → Type 0
DrainStops e codec at s o held t u =
    (rest : List Turn) → Stops e s o (run codec (byte_turns at held ++ rest) s []) t u
