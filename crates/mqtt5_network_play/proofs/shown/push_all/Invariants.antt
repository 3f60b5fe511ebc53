use Rattle.std.proofs.Common.{◌≡◌, ◌++◌, take}
use Rattle.mqtt5_network_play.proofs.shown.push_all.Given as goal

abbrev pub invariant-loop-publish : goal.invariant-loop-publish
invariant-loop-publish l = l.all.items ≡ l.initial.all.items ++ take l.publish-index l.publishes
