use Rattle.std.proofs.Common.{◌≡◌, length}
use Rattle.mqtt5_streams.specs.ByteWorld.{drain_down}
use Rattle.mqtt5_streams.proofs.world.ByteWorld.drain_down.Given as goal

abbrev pub invariant-loop-packet : goal.invariant-loop-packet
invariant-loop-packet l = drain_down l.codec l.self ≡ drain_down l.codec l.initial.self

abbrev pub decreases-loop-packet : goal.decreases-loop-packet
decreases-loop-packet l = length l.self.down.buffer
