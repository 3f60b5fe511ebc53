use Rattle.mqtt5_broker.specs.Receiving.{reason_for}
use Rattle.mqtt5_broker.proofs.Pieces.{dismissed_closed, others_stay}
use Rattle.mqtt5_broker.proofs.laws.fault_law.Goals as goal

pub returns-clause-ends : goal.returns-clause-ends
returns-clause-ends c = λ i e b. dismissed_closed i (reason_for e) b

pub returns-clause-others : goal.returns-clause-others
returns-clause-others c = λ i d e b ne. others_stay i d (reason_for e) b ne
