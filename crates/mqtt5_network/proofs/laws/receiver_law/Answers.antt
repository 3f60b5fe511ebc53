use Rattle.mqtt5_network.proofs.Receiving.{receiver}
use Rattle.mqtt5_network.proofs.laws.receiver_law.Goals as goal

pub returns : goal.returns
returns c = receiver
