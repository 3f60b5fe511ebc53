use Rattle.std.proofs.Common.{◌≡◌, take}
use Rattle.std.specs.List.{filter_map}
use Rattle.mqtt5_network.specs.Subscriptions.{forwarded_to}
use Rattle.mqtt5_router.proofs.kept.Kept.forwarded.Given as goal

abbrev pub invariant-loop-i : goal.invariant-loop-i
invariant-loop-i l = l.all.items ≡ filter_map (forwarded_to l.own l.self.subscriptions) (take l.i l.publishes)
