use Rattle.std.proofs.Common.{◌≡◌, ◌++◌, take, drop}
use Rattle.mqtt5_network.specs.Subscriptions.{turned}
use Rattle.mqtt5_router.proofs.subscriptions.turn.Given as goal

abbrev pub invariant-loop-subscription : goal.invariant-loop-subscription
invariant-loop-subscription l = take l.subscription-index l.subscriptions ++ turned l.topic_filter l.on (drop l.subscription-index l.subscriptions) ≡ turned l.topic_filter l.on l.initial.subscriptions
