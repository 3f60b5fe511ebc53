use Rattle.std.proofs.Common.{◌≡◌, drop}
use Rattle.mqtt5_world.specs.World.{run_world}
use Rattle.mqtt5_world.proofs.world.World.play_all.Given as goal

abbrev pub invariant-loop-event : goal.invariant-loop-event
invariant-loop-event l = run_world (drop l.event-index l.events) l.self ≡ run_world l.events l.initial.self
