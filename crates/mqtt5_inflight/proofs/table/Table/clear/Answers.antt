use Rattle.mqtt5_inflight.proofs.Standing.{none_placed, none_in_use}
use Rattle.mqtt5_inflight.proofs.table.Table.clear.Goals as goal

pub invariant_of-self : goal.invariant_of-self
invariant_of-self c = rw (c.clear.ensures, c.new.ensures.empty) none_placed

pub returns : goal.returns
returns c = rw c.clear.ensures (none_in_use c.new.result.slots)
