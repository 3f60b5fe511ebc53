use Rattle.std.proofs.lemmas.Result.{IfOk-weaker}
use Rattle.mqtt5_network_play.proofs.Told.{settled_rests, settled_exactly, settled_least, settled_losses, standing_settled_exactly, standing_settled_least, standing_settled_losses}
use Rattle.mqtt5_network_play.proofs.player.play_network_out.Goals as goal

pub returns-clause-rests : goal.returns-clause-rests
returns-clause-rests c = IfOk-weaker _ _ _ (settled_rests c.args.profiles.now c.args.events.now) c.settled.ensures.ok

pub returns-clause-exactly_once : goal.returns-clause-exactly_once
returns-clause-exactly_once c = IfOk-weaker _ _ _ (settled_exactly c.args.profiles.now c.args.events.now) c.settled.ensures.ok

pub returns-clause-at_least_once : goal.returns-clause-at_least_once
returns-clause-at_least_once c = IfOk-weaker _ _ _ (settled_least c.args.profiles.now c.args.events.now) c.settled.ensures.ok

pub returns-clause-for_each_loss : goal.returns-clause-for_each_loss
returns-clause-for_each_loss c = IfOk-weaker _ _ _ (settled_losses c.args.profiles.now c.args.events.now) c.settled.ensures.ok

pub returns-clause-standing_exactly_once : goal.returns-clause-standing_exactly_once
returns-clause-standing_exactly_once c = IfOk-weaker _ _ _ (standing_settled_exactly c.args.profiles.now c.args.events.now) c.settled.ensures.ok

pub returns-clause-standing_at_least_once : goal.returns-clause-standing_at_least_once
returns-clause-standing_at_least_once c = IfOk-weaker _ _ _ (standing_settled_least c.args.profiles.now c.args.events.now) c.settled.ensures.ok

pub returns-clause-standing_for_each_loss : goal.returns-clause-standing_for_each_loss
returns-clause-standing_for_each_loss c = IfOk-weaker _ _ _ (standing_settled_losses c.args.profiles.now c.args.events.now) c.settled.ensures.ok
