-- A world in which the client's process may end (MQTT 5.0 sections 4.1 and 4.4).
use Rattle.std.specs.Prelude.{◌≡◌, ℕ, List, [], ◌∷◌, Option}
use Rattle.mqtt5_base.specs.Tidy.{tidy}
use Rattle.mqtt5_publish.specs.declared.publish.Publish.{Publish}
use Rattle.mqtt5_publish.specs.Publishes.{publish_found}
use Rattle.mqtt5_session.specs.Resuming.{with_dup}
use Rattle.mqtt5_world.specs.declared.event.WorldEvent.{WorldEvent}
use Rattle.mqtt5_world.specs.declared.event.WorldEvent.TheVariants as events
use Rattle.mqtt5_world.specs.World.{World, happens}
use Rattle.mqtt5_crash.specs.Restart.{loaded_session}

-- An event of the world; or the client's process ends, with all that was on its way. Another one
-- loads the session as it was, and takes it up on a new connection, on which the broker may say
-- its receive maximum (4.4).
pub data CrashEvent : Type 0 where
  Happens : WorldEvent → CrashEvent
  Crash : Option ℕ → CrashEvent

-- the world after it
abbrev pub occurs : World → CrashEvent → World
occurs w (Happens e) = happens w e
occurs w (Crash m) = happens (record w { session = loaded_session w.session }) (events.Loss m)

-- the events, one after another
abbrev pub run_crashes : List CrashEvent → World → World
run_crashes [] w = w
run_crashes (e ∷ es) w = run_crashes es (occurs w e)

-- the event in its place, where the connection alone is lost
abbrev pub as_loss : CrashEvent → WorldEvent
as_loss (Happens e) = e
as_loss (Crash m) = events.Loss m

-- so of each
abbrev pub as_losses : List CrashEvent → List WorldEvent
as_losses [] = []
as_losses (e ∷ es) = as_loss e ∷ as_losses es

-- a publish is tidy where it has no empty property set: such a set is none once it was written and
-- read again (2.2.2.1)
abbrev pub IsTidy : Publish → Type 0
IsTidy p = tidy publish_found p.properties ≡ p.properties

-- so is the publish that is asked for
abbrev pub AsksTidy : WorldEvent → Type 0
AsksTidy (events.Publish p) = IsTidy p
AsksTidy e = Unit {0}

-- so is each of them
abbrev pub AllTidy : List CrashEvent → Type 0
AllTidy [] = Unit {0}
AllTidy (e ∷ es) = AsksTidy (as_loss e) × AllTidy es

-- Two worlds that the user of the client alone tells apart: all is the same but the moments, pings
-- and events of the session, and dup of the publishes that await their acks (3.3.1.1).
pub record AlikeWorlds (w v : World) : Type 0 where
  pub core : with_dup w.session.core ≡ with_dup v.session.core
  pub broker : w.broker ≡ v.broker
  pub up : w.up ≡ v.up
  pub down : w.down ≡ v.down
  pub accepted : w.accepted ≡ v.accepted
  pub refused : w.refused ≡ v.refused
  pub faults : w.faults ≡ v.faults
