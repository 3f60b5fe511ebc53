use Rattle.std.proofs.Common.{◌≡◌, drop}
use Rattle.mqtt5_broker.specs.Clock.{first_expiry}
use Rattle.mqtt5_broker.proofs.clock.first_expiry.Given as goal

abbrev pub invariant-loop-i : goal.invariant-loop-i
invariant-loop-i l = first_expiry (drop l.i l.members) l.first ≡ first_expiry l.members l.fn.at
