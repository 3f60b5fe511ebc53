use Rattle.std.proofs.Common.{◌≡◌}
use Rattle.mqtt5_broker.specs.Clock.{for_each, ends_now}
use Rattle.mqtt5_broker.proofs.broker.Broker.end_all.Given as goal

abbrev pub invariant-loop-connection : goal.invariant-loop-connection
invariant-loop-connection l = l.self ≡ for_each l.connection ends_now l.initial.self
