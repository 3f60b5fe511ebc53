use Rattle.std.proofs.Common.{◌≡◌, drop, None}
use Rattle.mqtt5_broker.specs.Clock.{first_silence}
use Rattle.mqtt5_broker.proofs.clock.first_silence.Given as goal

abbrev pub invariant-loop-i : goal.invariant-loop-i
invariant-loop-i l = first_silence (drop l.i l.connections) l.first ≡ first_silence l.connections None
