use Rattle.mqtt5_codec.specs.declared.packet.Packet.TheVariants as packets
use Rattle.mqtt5_c.specs.Said.{Put, Declined}
use Rattle.mqtt5_c.proofs.say.mqtt5_client_disconnect_with.Goals as goal

pub returns-in-Ok-clause-answer : goal.returns-in-Ok-clause-answer
returns-in-Ok-clause-answer c =
    Put (packets.Disconnect c.in-Ok.disconnect) (rw c.take_properties-properties.ensures.taken at c.in-Ok.ensures.ok) (rw c.take_properties-properties.ensures.left at c.leave.ensures.answer)

pub returns-in-Err-clause-answer : goal.returns-in-Err-clause-answer
returns-in-Err-clause-answer c =
    Declined (rw c.take_properties-properties.ensures.taken at c.in-Err.ensures.err) c.take_properties-properties.ensures.left
