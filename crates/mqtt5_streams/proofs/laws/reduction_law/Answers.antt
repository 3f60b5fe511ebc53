use Rattle.mqtt5_streams.proofs.Runs.{reduces}
use Rattle.mqtt5_streams.proofs.laws.reduction_law.Goals as goal

pub returns : goal.returns
returns c = λ codec limit small events w typed is. reduces codec limit small events w typed is
