use Rattle.std.proofs.Common.{◌≡◌, replicate}
use Rattle.mqtt5_broker.specs.Connection.{closed}
use Rattle.mqtt5_broker.proofs.broker.none_of.Given as goal

abbrev pub invariant-loop-i : goal.invariant-loop-i
invariant-loop-i l = l.all.items ≡ replicate l.i closed
