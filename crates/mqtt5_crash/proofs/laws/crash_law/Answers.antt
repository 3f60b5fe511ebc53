use Rattle.std.proofs.Common.{ap}
use Rattle.mqtt5_world.specs.World.{start, run_world}
use Rattle.mqtt5_world.specs.Delivery.{waiting_in}
use Rattle.mqtt5_crash.specs.Crashes.{as_losses}
use Rattle.mqtt5_crash.proofs.Counting.{stored_same, without_same}
use Rattle.mqtt5_crash.proofs.Crashing.{crashes_alike}
use Rattle.mqtt5_crash.proofs.laws.crash_law.Goals as goal

pub returns-clause-alike : goal.returns-clause-alike
returns-clause-alike c = crashes_alike

pub returns-clause-at_most_once : goal.returns-clause-at_most_once
returns-clause-at_most_once c = λ limit es qos test t is ne.
    let a = crashes_alike limit es t in
    rw (a.accepted, ap (λ b. b.handed) a.broker) (c.delivery_law.ensures.at_most_once limit (as_losses es) qos test is ne)

pub returns-clause-at_least_once : goal.returns-clause-at_least_once
returns-clause-at_least_once c = λ limit es qos test t is ne.
    let a = crashes_alike limit es t in
    rw (a.accepted, ap (λ b. b.handed) a.broker, stored_same test is.blind_again _ _ a.core, ap (λ d. waiting_in d) a.core) (c.delivery_law.ensures.at_least_once limit (as_losses es) qos test is ne)

pub returns-clause-for_each_loss : goal.returns-clause-for_each_loss
returns-clause-for_each_loss c = λ limit es test t is.
    let a = crashes_alike limit es t in
    rw (a.accepted, ap (λ b. b.handed) a.broker) (c.delivery_law.ensures.for_each_loss limit (as_losses es) test is)

pub returns-clause-ledger : goal.returns-clause-ledger
returns-clause-ledger c = λ limit es test t is.
    let a = crashes_alike limit es t in
    let b = c.delivery_law.ensures.ledger limit (as_losses es) test is in
    rw (a.accepted, a.broker, without_same test is.blind_again (run_world (as_losses es) (start limit)).broker.ids _ _ a.core, ap (λ d. waiting_in d) a.core) b
