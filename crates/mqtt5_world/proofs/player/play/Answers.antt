use Rattle.std.proofs.lemmas.Result.{IfOk-weaker}
use Rattle.mqtt5_world.specs.World.{start, run_world}
use Rattle.mqtt5_world.specs.Happens.{IsReport}
use Rattle.mqtt5_world.proofs.Contents.{report_most, report_least, report_losses, report_ledger, report_once}
use Rattle.mqtt5_world.proofs.player.play.Goals as goal

pub returns-clause-handed : goal.returns-clause-handed
returns-clause-handed c = IfOk-weaker _ _ _ (λ r (is : IsReport r (run_world c.args.events.now (start c.args.limit))). is.handed) c.played.ensures.ok

pub returns-clause-accepted : goal.returns-clause-accepted
returns-clause-accepted c = IfOk-weaker _ _ _ (λ r (is : IsReport r (run_world c.args.events.now (start c.args.limit))). is.accepted) c.played.ensures.ok

pub returns-clause-refused : goal.returns-clause-refused
returns-clause-refused c = IfOk-weaker _ _ _ (λ r (is : IsReport r (run_world c.args.events.now (start c.args.limit))). is.refused) c.played.ensures.ok

pub returns-clause-state : goal.returns-clause-state
returns-clause-state c = IfOk-weaker _ _ _ (λ r (is : IsReport r (run_world c.args.events.now (start c.args.limit))). is.state) c.played.ensures.ok

pub returns-clause-at_most_once : goal.returns-clause-at_most_once
returns-clause-at_most_once c = IfOk-weaker _ _ _ (report_most c.args.limit c.args.events.now) c.played.ensures.ok

pub returns-clause-at_least_once : goal.returns-clause-at_least_once
returns-clause-at_least_once c = IfOk-weaker _ _ _ (report_least c.args.limit c.args.events.now) c.played.ensures.ok

pub returns-clause-for_each_loss : goal.returns-clause-for_each_loss
returns-clause-for_each_loss c = IfOk-weaker _ _ _ (report_losses c.args.limit c.args.events.now) c.played.ensures.ok

pub returns-clause-ledger : goal.returns-clause-ledger
returns-clause-ledger c = IfOk-weaker _ _ _ (report_ledger c.args.limit c.args.events.now) c.played.ensures.ok

pub returns-clause-exactly_once : goal.returns-clause-exactly_once
returns-clause-exactly_once c = IfOk-weaker _ _ _ (report_once c.args.limit c.args.events.now) c.played.ensures.ok
