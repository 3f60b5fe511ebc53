use Rattle.std.proofs.Common.{◌≡◌, take}
use Rattle.mqtt5_progress.specs.Subscribers.{received}
use Rattle.mqtt5_progress.proofs.subscribers.received.Given as goal

abbrev pub invariant-loop-publish : goal.invariant-loop-publish
invariant-loop-publish l = l.received.items ≡ received l.filters (take l.publish-index l.handed)
