use Rattle.mqtt5_inflight.proofs.Within.{empty_within}
use Rattle.mqtt5_inflight.proofs.slots.Slots.clear.Goals as goal

pub invariant_of-self : goal.invariant_of-self
invariant_of-self c = rw c.clear.ensures (empty_within _)
