use Rattle.std.proofs.Common.{◌≡◌, ◌≤◌, ◌-◌, []}
use Rattle.mqtt5_inflight.specs.Unacked.{by_id, alias_again}
use Rattle.mqtt5_inflight.proofs.slots.Slots.alias_over.Given as goal

abbrev pub invariant-loop-id : goal.invariant-loop-id
invariant-loop-id l = (by_id (alias_again l.max) l.after l.self.in_use ≡ []) × (l.after ≤ l.self.limit)

abbrev pub decreases-loop-id : goal.decreases-loop-id
decreases-loop-id l = l.self.limit - l.after
