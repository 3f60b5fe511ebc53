use Rattle.std.proofs.Common.{◌≡◌, take}
use Rattle.mqtt5_network.specs.Subscriptions.{holding, identifiers_of}
use Rattle.mqtt5_router.proofs.subscriptions.identifiers_for.Given as goal

abbrev pub invariant-loop-i : goal.invariant-loop-i
invariant-loop-i l = l.identifiers ≡ identifiers_of (holding l.own (take l.i l.subscriptions) l.publish)
