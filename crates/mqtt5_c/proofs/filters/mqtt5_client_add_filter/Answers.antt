use Rattle.mqtt5_c.specs.Filters.{Put}
use Rattle.mqtt5_c.proofs.filters.mqtt5_client_add_filter.Goals as goal

pub returns-in-Ok-clause-answer : goal.returns-in-Ok-clause-answer
returns-in-Ok-clause-answer c = Put c.in-Ok.filter c.in-Ok.ensures.ok c.add.ensures.answer
