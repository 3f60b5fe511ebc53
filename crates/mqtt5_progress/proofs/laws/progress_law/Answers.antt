use Rattle.mqtt5_world.specs.World.{start, run_world}
use Rattle.mqtt5_progress.specs.Progress.{settle}
use Rattle.mqtt5_progress.proofs.Settled.{settled_four, settle_run, deliveries_alone}
use Rattle.mqtt5_progress.proofs.Counted.{exactly, least, again, without_loss, nothing_back}
use Rattle.mqtt5_progress.proofs.Ended.{nothing_again, too_few}
use Rattle.mqtt5_progress.proofs.laws.progress_law.Goals as goal

pub returns-clause-settled : goal.returns-clause-settled
returns-clause-settled c = settled_four

pub returns-clause-exactly_once : goal.returns-clause-exactly_once
returns-clause-exactly_once c = λ limit events test class. exactly test limit events class

pub returns-clause-at_least_once : goal.returns-clause-at_least_once
returns-clause-at_least_once c = λ limit events test class. least test limit events class

pub returns-clause-for_each_loss : goal.returns-clause-for_each_loss
returns-clause-for_each_loss c = λ limit events test class. again test limit events class

pub returns-clause-without_loss : goal.returns-clause-without_loss
returns-clause-without_loss c = λ limit events qos test class none. without_loss qos test class limit events none

pub returns-clause-nothing_back : goal.returns-clause-nothing_back
returns-clause-nothing_back c = λ limit events. nothing_back (settle 4 (run_world events (start limit))).session.core (settled_four limit events).core

pub returns-clause-nothing_again : goal.returns-clause-nothing_again
returns-clause-nothing_again c = nothing_again

pub returns-clause-runs : goal.returns-clause-runs
returns-clause-runs c = settle_run

pub returns-clause-deliveries : goal.returns-clause-deliveries
returns-clause-deliveries c = deliveries_alone

pub returns-clause-least : goal.returns-clause-least
returns-clause-least c = too_few
