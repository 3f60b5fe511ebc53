use Rattle.mqtt5_streams.proofs.Runs.{counts}
use Rattle.mqtt5_streams.proofs.laws.counts_law.Goals as goal

pub returns : goal.returns
returns c = λ codec limit small events w content typed is. counts codec limit small events w content typed is
