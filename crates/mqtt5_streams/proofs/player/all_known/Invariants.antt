use Rattle.std.proofs.Common.{take}
use Rattle.mqtt5_progress.specs.Packets.{Every}
use Rattle.mqtt5_streams.specs.Reduction.{IsTypedEvent}
use Rattle.mqtt5_streams.proofs.player.all_known.Given as goal

abbrev pub invariant-loop-event : goal.invariant-loop-event
invariant-loop-event l = Every IsTypedEvent (take l.event-index l.events)
