use Rattle.mqtt5_codec.specs.declared.packet.Packet.TheVariants as packets
use Rattle.mqtt5_c.specs.Said.{Put, Declined}
use Rattle.mqtt5_c.proofs.say.mqtt5_client_auth.Goals as goal

pub returns-in-Ok-clause-answer : goal.returns-in-Ok-clause-answer
returns-in-Ok-clause-answer c =
    Put (packets.Auth c.in-Ok.auth) (rw c.take_properties-properties.ensures.taken at c.in-Ok.ensures.ok) (rw c.take_properties-properties.ensures.left at c.authenticate.ensures.answer)

pub returns-in-Err-clause-answer : goal.returns-in-Err-clause-answer
returns-in-Err-clause-answer c =
    Declined (rw c.take_properties-properties.ensures.taken at c.in-Err.ensures.err) c.take_properties-properties.ensures.left
