use Rattle.mqtt5_sessions.proofs.Running.{of_client_alone, run_same, reached_from}
use Rattle.mqtt5_sessions.proofs.laws.run_law.Goals as goal

pub returns-clause-alone : goal.returns-clause-alone
returns-clause-alone c = of_client_alone

pub returns-clause-same : goal.returns-clause-same
returns-clause-same c = run_same

pub returns-clause-reached : goal.returns-clause-reached
returns-clause-reached c = reached_from
