use Rattle.mqtt5_progress.proofs.Settled.{at_rest}
use Rattle.mqtt5_progress.proofs.Work.{lowers, bound, all_delivered}
use Rattle.mqtt5_progress.proofs.laws.any_order_law.Goals as goal

pub returns-clause-lowers : goal.returns-clause-lowers
returns-clause-lowers c = lowers

pub returns-clause-bound : goal.returns-clause-bound
returns-clause-bound c = bound

pub returns-clause-at_rest : goal.returns-clause-at_rest
returns-clause-at_rest c = at_rest

pub returns-clause-all_delivered : goal.returns-clause-all_delivered
returns-clause-all_delivered c = all_delivered
