use Rattle.std.proofs.Common.{arith}
use Rattle.mqtt5_inflight.proofs.Counts.{len_within}
use Rattle.mqtt5_inflight.proofs.slots.Slots.len.Goals as goal

pub prove-unreachable-requires : goal.prove-unreachable-requires
prove-unreachable-requires c = omega (arith, len_within _ _ c.self.invariant)
