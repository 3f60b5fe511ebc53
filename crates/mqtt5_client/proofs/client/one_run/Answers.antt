use Rattle.mqtt5_client.proofs.Joined.{join_runs, join_fails}
use Rattle.mqtt5_client.proofs.client.one_run.Goals as goal

pub returns-clause-runs : goal.returns-clause-runs
returns-clause-runs c = λ p q r first second sent more ran codec h. join_runs p q r first second sent more ran codec h

pub returns-clause-stops : goal.returns-clause-stops
returns-clause-stops c = λ p q r first second sent more fault ran codec h. join_fails p q r first second sent more ran codec fault h
