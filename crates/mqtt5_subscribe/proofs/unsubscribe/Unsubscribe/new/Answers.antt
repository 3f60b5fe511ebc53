use Rattle.std.proofs.Common.{rules, ◌∙◌}
use Rattle.mqtt5_subscribe.proofs.unsubscribe.Unsubscribe.new.Goals as goal

pub returns-clause-ok : goal.returns-clause-ok
returns-clause-ok c = (c.from-path.result, c.from-path.ensures ∙ c.in_ok-from_str.ensures.ok, search rules)
