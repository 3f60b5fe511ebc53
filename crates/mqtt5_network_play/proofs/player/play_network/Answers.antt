use Rattle.std.proofs.lemmas.Result.{IfOk-weaker}
use Rattle.mqtt5_network_play.proofs.Told.{played_most, played_losses, played_exactly, played_least, standing_played_twice, standing_played_most, standing_played_losses, standing_played_exactly, standing_played_least}
use Rattle.mqtt5_network_play.proofs.player.play_network.Goals as goal

pub returns-clause-at_most_once : goal.returns-clause-at_most_once
returns-clause-at_most_once c = IfOk-weaker _ _ _ (played_most c.args.profiles.now c.args.events.now) c.told_of.ensures.ok

pub returns-clause-for_each_loss : goal.returns-clause-for_each_loss
returns-clause-for_each_loss c = IfOk-weaker _ _ _ (played_losses c.args.profiles.now c.args.events.now) c.told_of.ensures.ok

pub returns-clause-exactly_once : goal.returns-clause-exactly_once
returns-clause-exactly_once c = IfOk-weaker _ _ _ (played_exactly c.args.profiles.now c.args.events.now) c.told_of.ensures.ok

pub returns-clause-at_least_once : goal.returns-clause-at_least_once
returns-clause-at_least_once c = IfOk-weaker _ _ _ (played_least c.args.profiles.now c.args.events.now) c.told_of.ensures.ok

pub returns-clause-standing_at_most_once : goal.returns-clause-standing_at_most_once
returns-clause-standing_at_most_once c = IfOk-weaker _ _ _ (standing_played_twice c.args.profiles.now c.args.events.now) c.told_of.ensures.ok

pub returns-clause-standing_at_most_once_at_0 : goal.returns-clause-standing_at_most_once_at_0
returns-clause-standing_at_most_once_at_0 c = IfOk-weaker _ _ _ (standing_played_most c.args.profiles.now c.args.events.now) c.told_of.ensures.ok

pub returns-clause-standing_for_each_loss : goal.returns-clause-standing_for_each_loss
returns-clause-standing_for_each_loss c = IfOk-weaker _ _ _ (standing_played_losses c.args.profiles.now c.args.events.now) c.told_of.ensures.ok

pub returns-clause-standing_exactly_once : goal.returns-clause-standing_exactly_once
returns-clause-standing_exactly_once c = IfOk-weaker _ _ _ (standing_played_exactly c.args.profiles.now c.args.events.now) c.told_of.ensures.ok

pub returns-clause-standing_at_least_once : goal.returns-clause-standing_at_least_once
returns-clause-standing_at_least_once c = IfOk-weaker _ _ _ (standing_played_least c.args.profiles.now c.args.events.now) c.told_of.ensures.ok
