use Rattle.mqtt5_network.proofs.Copies.{retained_last}
use Rattle.mqtt5_network.proofs.laws.retained_law.Goals as goal

pub returns : goal.returns
returns c = retained_last
