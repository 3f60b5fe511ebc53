use Rattle.std.proofs.lemmas.Result.{IfOk-weaker}
use Rattle.mqtt5_progress.proofs.Counted.{report_accepted, report_refused, report_idle, report_exactly, report_least, report_again, report_most, report_without}
use Rattle.mqtt5_progress.proofs.Settled.{settled_four}
use Rattle.mqtt5_progress.proofs.player.play_out.Goals as goal

pub returns-clause-accepted : goal.returns-clause-accepted
returns-clause-accepted c = IfOk-weaker _ _ _ (report_accepted c.args.limit c.args.events.now) c.played_out.ensures.ok

pub returns-clause-refused : goal.returns-clause-refused
returns-clause-refused c = IfOk-weaker _ _ _ (report_refused c.args.limit c.args.events.now) c.played_out.ensures.ok

pub returns-clause-nothing_left : goal.returns-clause-nothing_left
returns-clause-nothing_left c = IfOk-weaker _ _ _ (λ _ _. settled_four c.args.limit c.args.events.now) c.played_out.ensures.ok

pub returns-clause-settled : goal.returns-clause-settled
returns-clause-settled c = IfOk-weaker _ _ _ (report_idle c.args.limit c.args.events.now) c.played_out.ensures.ok

pub returns-clause-exactly_once : goal.returns-clause-exactly_once
returns-clause-exactly_once c = IfOk-weaker _ _ _ (report_exactly c.args.limit c.args.events.now) c.played_out.ensures.ok

pub returns-clause-at_least_once : goal.returns-clause-at_least_once
returns-clause-at_least_once c = IfOk-weaker _ _ _ (report_least c.args.limit c.args.events.now) c.played_out.ensures.ok

pub returns-clause-for_each_loss : goal.returns-clause-for_each_loss
returns-clause-for_each_loss c = IfOk-weaker _ _ _ (report_again c.args.limit c.args.events.now) c.played_out.ensures.ok

pub returns-clause-at_most_once : goal.returns-clause-at_most_once
returns-clause-at_most_once c = IfOk-weaker _ _ _ (report_most c.args.limit c.args.events.now) c.played_out.ensures.ok

pub returns-clause-without_loss : goal.returns-clause-without_loss
returns-clause-without_loss c = IfOk-weaker _ _ _ (report_without c.args.limit c.args.events.now) c.played_out.ensures.ok
