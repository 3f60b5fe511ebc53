use Rattle.std.proofs.Common.{◌≡◌}
use Rattle.mqtt5_broker.specs.Clock.{for_each}
use Rattle.mqtt5_broker.specs.Bounds.{trims}
use Rattle.mqtt5_broker.proofs.broker.Broker.trim_all.Given as goal

abbrev pub invariant-loop-client : goal.invariant-loop-client
invariant-loop-client l = l.self ≡ for_each l.client trims l.initial.self
