use Rattle.std.proofs.Common.{length}
use Rattle.recorder.proofs.record.Given as goal

abbrev pub decreases-loop-packet : goal.decreases-loop-packet
decreases-loop-packet l = length l.stream.items
