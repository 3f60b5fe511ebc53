use Rattle.std.proofs.Common.{◌≡◌, drop}
use Rattle.mqtt5_network.specs.Retained.{retained_of, retained_after}
use Rattle.mqtt5_network_play.proofs.client.retained_of.Given as goal

abbrev pub invariant-loop-publish : goal.invariant-loop-publish
invariant-loop-publish l = retained_after l.retained.items (drop l.publish-index l.handed) ≡ retained_of l.handed
