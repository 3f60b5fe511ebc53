use Rattle.std.proofs.Common.{[], ◌∷◌, None, ap, ◌∙◌}
use Rattle.mqtt5_subscribe.specs.declared.filter.Filter.{Filter}
use Rattle.mqtt5_subscribe.specs.declared.subscribe.Subscribe.{Subscribe}
use Rattle.mqtt5_c.proofs.ask.subscribe_of.Goals as goal

abbrev to_one : Filter → Subscribe
to_one filter = record { pkid = 0; filters = filter ∷ []; properties = None }

pub returns-clause-ok : goal.returns-clause-ok
returns-clause-ok c = (
  c.in-Some-qos.quality,
  c.in-Ok.filter.path,
  c.in-Some-qos.ensures.number,
  c.in-Ok.ensures.ok.0 ∙ c.in-Some.ensures.some.0,
  c.in-Ok-new.ensures.ok ∙ ap to_one c.in-Ok.ensures.ok.1,
)
