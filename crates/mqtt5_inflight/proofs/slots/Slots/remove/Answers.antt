use Rattle.mqtt5_inflight.proofs.Within.{remove_within}
use Rattle.mqtt5_inflight.proofs.slots.Slots.remove.Goals as goal

pub invariant_of-self : goal.invariant_of-self
invariant_of-self c = rw c.remove.ensures (remove_within c.self.inside.limit c.args.id c.self.inside.in_use c.self.invariant)
