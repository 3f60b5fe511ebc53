use Rattle.mqtt5_broker.proofs.Calling.{all_calls, all_stand}
use Rattle.mqtt5_broker.proofs.laws.any_calls_law.Goals as goal

pub returns-clause-sessions : goal.returns-clause-sessions
returns-clause-sessions c = λ cs b. all_calls cs b

pub returns-clause-standing : goal.returns-clause-standing
returns-clause-standing c = λ cs b s. all_stand cs b s
