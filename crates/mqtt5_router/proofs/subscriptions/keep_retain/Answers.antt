use Rattle.std.proofs.Common.{◌∙◌}
use Rattle.mqtt5_router.proofs.Holding.{kept_all}
use Rattle.mqtt5_router.proofs.subscriptions.keep_retain.Goals as goal

pub returns : goal.returns
returns c = c.all_keep.ensures ∙ kept_all c.args.own c.args.subscriptions.now c.args.publish.now
