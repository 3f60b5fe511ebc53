use Rattle.std.proofs.Common.{◌≡◌, ◌++◌, length}
use Rattle.mqtt5_sessions.specs.Coming.{coming_to}
use Rattle.mqtt5_sessions.proofs.coming.to_client.Given as goal

abbrev pub invariant-loop-publish : goal.invariant-loop-publish
invariant-loop-publish l = l.coming.items ++ coming_to l.client l.rest.items ≡ coming_to l.client l.fn.publishes.items

abbrev pub decreases-loop-publish : goal.decreases-loop-publish
decreases-loop-publish l = length l.rest.items
