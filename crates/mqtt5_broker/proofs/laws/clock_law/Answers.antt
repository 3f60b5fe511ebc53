use Rattle.mqtt5_broker.proofs.Early.{nothing_due}
use Rattle.mqtt5_broker.proofs.laws.clock_law.Goals as goal

pub returns : goal.returns
returns c = λ at b e. nothing_due at b e
