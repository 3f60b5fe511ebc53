use Rattle.std.proofs.Common.{◌≡◌, drop}
use Rattle.mqtt5_streams.specs.ByteWorld.{run_bytes}
use Rattle.mqtt5_streams.proofs.world.ByteWorld.play_all.Given as goal

abbrev pub invariant-loop-event : goal.invariant-loop-event
invariant-loop-event l = run_bytes l.codec (drop l.event-index l.events) l.self ≡ run_bytes l.codec l.events l.initial.self
