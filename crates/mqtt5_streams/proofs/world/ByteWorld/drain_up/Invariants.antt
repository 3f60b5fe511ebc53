use Rattle.std.proofs.Common.{◌≡◌, length}
use Rattle.mqtt5_streams.specs.ByteWorld.{drain_up}
use Rattle.mqtt5_streams.proofs.world.ByteWorld.drain_up.Given as goal

abbrev pub invariant-loop-packet : goal.invariant-loop-packet
invariant-loop-packet l = drain_up l.self ≡ drain_up l.initial.self

abbrev pub decreases-loop-packet : goal.decreases-loop-packet
decreases-loop-packet l = length l.self.up.buffer
