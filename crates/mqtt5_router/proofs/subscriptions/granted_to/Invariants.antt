use Rattle.std.proofs.Common.{◌≡◌, ◌≤◌, drop, length}
use Rattle.mqtt5_router.specs.Topics.{granted_to}
use Rattle.mqtt5_router.proofs.subscriptions.granted_to.Given as goal

abbrev pub invariant-loop-left : goal.invariant-loop-left
invariant-loop-left l = record {
  within : l.left ≤ length l.subscriptions;
  granted : l.granted ≡ granted_to l.own (drop l.left l.subscriptions) l.topic;
}

abbrev pub decreases-loop-left : goal.decreases-loop-left
decreases-loop-left l = l.left
