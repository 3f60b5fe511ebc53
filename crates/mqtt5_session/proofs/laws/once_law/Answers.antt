use Rattle.mqtt5_session.proofs.Once.{adds_up, handed_on_once}
use Rattle.mqtt5_session.proofs.laws.once_law.Goals as goal

pub returns-clause-counts : goal.returns-clause-counts
returns-clause-counts c = λ s calls id. adds_up id s calls

pub returns-clause-once : goal.returns-clause-once
returns-clause-once c = handed_on_once
