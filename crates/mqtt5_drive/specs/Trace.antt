-- What a run does, move by move.
use Rattle.std.specs.Prelude.{◌≡◌, ℕ, ◌⊎◌, List, ◌++◌}
use Rattle.mqtt5_inflight.specs.declared.error.StateError.{StateError}
use Rattle.mqtt5_inflight.specs.declared.error.StateError.TheVariants as faults
use Rattle.mqtt5_session.specs.Session.{Session}

-- The moves of a run, each a request or a packet that the session took, with the session after it
-- and the bytes of its reply; and how it ends: with the bytes that are held, or with a fault.
pub data Trace : Type 0 where
  Waits : (held : List ℕ) → Trace
  Faults : (fault : StateError) → Trace
  Steps : (session : Session) (reply : List ℕ) (then : Trace) → Trace

-- how a run ends: with the bytes that are held, or with a fault
pub data Ending : Type 0 where
  Holds : List ℕ → Ending
  Fault : StateError → Ending

-- a session, all that was written, and the ending
pub record End : Type 0 where
  pub session : Session
  pub output : List ℕ
  pub ending : Ending

-- where a course ends that starts at this session and output
abbrev pub finish : Session → List ℕ → Trace → End
finish s output (Waits held) = record { session = s; output = output; ending = Holds held }
finish s output (Faults e) = record { session = s; output = output; ending = Fault e }
finish s output (Steps t reply c) = finish t (output ++ reply) c

-- The session t is that after some of the course's moves, from the first on, and the output u has
-- the bytes of their replies, whole, at most those of the last missing.
abbrev pub Passes : Session → List ℕ → Trace → Session → List ℕ → Type 0
Passes s output (Waits held) t u = (t ≡ s) × (u ≡ output)
Passes s output (Faults e) t u = (t ≡ s) × (u ≡ output)
Passes s output (Steps next reply c) t u =
    ((t ≡ s) × (u ≡ output)) ⊎ (((t ≡ next) × (u ≡ output)) ⊎ Passes next (output ++ reply) c t u)

-- an error is want of memory on the way, or the fault that ends the course
abbrev pub Stops : StateError → Session → List ℕ → Trace → Session → List ℕ → Type 0
Stops e s output c t u =
    ((e ≡ faults.OutOfMemory) × Passes s output c t u)
    ⊎ (finish s output c ≡ record { session = t; output = u; ending = Fault e })
