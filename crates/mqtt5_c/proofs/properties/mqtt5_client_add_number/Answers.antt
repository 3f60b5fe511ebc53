use Rattle.mqtt5_c.specs.Properties.{Put}
use Rattle.mqtt5_c.proofs.properties.mqtt5_client_add_number.Goals as goal

pub returns-in-Some-clause-answer : goal.returns-in-Some-clause-answer
returns-in-Some-clause-answer c = Put c.in-Some.property c.in-Some.ensures.item c.add.ensures.answer
