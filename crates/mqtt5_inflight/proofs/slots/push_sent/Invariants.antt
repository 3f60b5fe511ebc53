use Rattle.std.proofs.Common.{◌≡◌, ◌++◌, ◌≤◌, ◌-◌}
use Rattle.mqtt5_inflight.specs.Unacked.{by_id, publish_again}
use Rattle.mqtt5_inflight.proofs.slots.push_sent.Given as goal

abbrev pub invariant-loop-id : goal.invariant-loop-id
invariant-loop-id l = (l.requests.items ≡ l.fn.requests.items ++ by_id publish_again l.after l.slots.in_use) × (l.after ≤ l.slots.limit)

abbrev pub decreases-loop-id : goal.decreases-loop-id
decreases-loop-id l = l.slots.limit - l.after
