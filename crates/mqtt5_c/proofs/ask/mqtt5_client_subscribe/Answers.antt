use Rattle.mqtt5_c.specs.Asked.{Put, Declined}
use Rattle.mqtt5_c.proofs.ask.mqtt5_client_subscribe.Goals as goal

pub returns-in-Ok-clause-answer : goal.returns-in-Ok-clause-answer
returns-in-Ok-clause-answer c =
    Put c.in-Ok.request (rw c.take_properties-properties.ensures.taken at c.in-Ok.ensures.ok) (rw c.take_properties-properties.ensures.left at c.ask.ensures.answer)

pub returns-in-Err-clause-answer : goal.returns-in-Err-clause-answer
returns-in-Err-clause-answer c =
    Declined (rw c.take_properties-properties.ensures.taken at c.in-Err.ensures.err) c.take_properties-properties.ensures.left
