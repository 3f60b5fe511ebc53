use Rattle.mqtt5_inflight.proofs.Within.{empty_within}
use Rattle.mqtt5_inflight.proofs.slots.Slots.new.Goals as goal

pub invariant_of-result : goal.invariant_of-result
invariant_of-result c = rw c.new.ensures (empty_within c.args.limit)
