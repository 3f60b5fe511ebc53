use Rattle.std.proofs.Common.{◌≡◌}
use Rattle.mqtt5_broker.specs.Clock.{for_each, silences}
use Rattle.mqtt5_broker.proofs.broker.Broker.silence_all.Given as goal

abbrev pub invariant-loop-connection : goal.invariant-loop-connection
invariant-loop-connection l = l.self ≡ for_each l.connection silences l.initial.self
