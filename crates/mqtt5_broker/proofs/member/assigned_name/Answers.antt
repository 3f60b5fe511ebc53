use Rattle.std.proofs.Common.{◌∙◌}
use Rattle.mqtt5_broker.proofs.Names.{assigned_is}
use Rattle.mqtt5_broker.proofs.member.assigned_name.Goals as goal

pub returns : goal.returns
returns c = assigned_is c.from.result c.args.number (c.from.ensures ∙ c.in_ok-text.ensures.ok)
