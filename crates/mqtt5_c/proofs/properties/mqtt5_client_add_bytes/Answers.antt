use Rattle.mqtt5_c.specs.Properties.{Put}
use Rattle.mqtt5_c.proofs.properties.mqtt5_client_add_bytes.Goals as goal

pub returns-in-Ok-clause-answer : goal.returns-in-Ok-clause-answer
returns-in-Ok-clause-answer c = Put c.in-Ok.property c.in-Ok.ensures.ok c.add.ensures.answer
