use Rattle.mqtt5_drive.proofs.Calls.{run_leaves, once_over}
use Rattle.mqtt5_drive.proofs.run.calls_law.Goals as goal

pub returns-clause-session : goal.returns-clause-session
returns-clause-session c = run_leaves

pub returns-clause-once : goal.returns-clause-once
returns-clause-once c = λ codec. once_over codec c.once_law.ensures.counts
