use Rattle.std.proofs.Common.{length}
use Rattle.mqtt5_drive.specs.Ways.{Drained}
use Rattle.mqtt5_drive.proofs.run.take_frames.Given as goal

abbrev pub invariant-loop-packet : goal.invariant-loop-packet
invariant-loop-packet l = Drained l.codec l.at l.initial.state l.initial.output.items l.initial.input.items l.state l.output.items l.input.items

abbrev pub decreases-loop-packet : goal.decreases-loop-packet
decreases-loop-packet l = length l.input.items
