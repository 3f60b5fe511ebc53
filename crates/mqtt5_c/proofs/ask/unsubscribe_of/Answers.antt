use Rattle.std.proofs.Common.{◌∙◌}
use Rattle.mqtt5_c.proofs.ask.unsubscribe_of.Goals as goal

pub returns-clause-ok : goal.returns-clause-ok
returns-clause-ok c =
    let one = c.in-Ok.ensures.ok in (one.0, one.1 ∙ c.in-Some.ensures.some.0, one.2)
