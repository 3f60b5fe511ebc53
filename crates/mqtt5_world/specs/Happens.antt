-- This file serves the logic alone: what a function that plays events answers, and what a report is
-- of.
use Rattle.std.specs.Prelude.{◌≡◌, ◌≢◌, [], Result, Ok, Err}
use Rattle.mqtt5_inflight.specs.declared.error.StateError.{StateError}
use Rattle.mqtt5_inflight.specs.declared.error.StateError.TheVariants as errors
use Rattle.mqtt5_world.specs.declared.event.Report.{Report}
use Rattle.mqtt5_world.specs.World.{World}

-- the next world is reached; or memory was refused; or what is answered is a fault of the next
-- world
abbrev pub Happens : {A : Type 0} → Result A StateError → World → World → Type 0
Happens (Ok u) new next = new ≡ next
Happens (Err errors.OutOfMemory) new next = Unit {0}
Happens (Err e) new next = next.faults ≢ []

-- a report of a world
pub record IsReport (r : Report) (w : World) : Type 0 where
  pub handed : r.handed.items ≡ w.broker.handed
  pub accepted : r.accepted.items ≡ w.accepted
  pub refused : r.refused.items ≡ w.refused
  pub state : r.state ≡ w.session
