use Rattle.mqtt5_inflight.proofs.Standing.{none_placed, none_in_use}
use Rattle.mqtt5_inflight.proofs.table.Table.new.Goals as goal

pub invariant_of-result : goal.invariant_of-result
invariant_of-result c = rw (c.new.ensures, c.new-2.ensures.empty) none_placed

pub returns : goal.returns
returns c = rw c.new.ensures (none_in_use c.new-2.result.slots)
