use Rattle.std.proofs.Common.{◌≡◌, ◌++◌}
use Rattle.mqtt5_sessions.specs.Coming.{coming_among}
use Rattle.mqtt5_sessions.proofs.coming.of_publish.Given as goal

abbrev pub invariant-loop-number : goal.invariant-loop-number
invariant-loop-number l = l.coming.items ++ coming_among l.client l.publish l.clients l.number-iterator ≡ coming_among l.client l.publish l.clients l.initial.number-iterator
