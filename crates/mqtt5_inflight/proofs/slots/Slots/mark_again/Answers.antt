use Rattle.mqtt5_inflight.proofs.Marked.{within_again}
use Rattle.mqtt5_inflight.proofs.slots.Slots.mark_again.Goals as goal

pub invariant_of-self : goal.invariant_of-self
invariant_of-self c = rw c.mark_again.ensures (within_again c.self.inside.limit c.self.inside.in_use c.self.invariant)
