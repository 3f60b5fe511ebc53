use Rattle.mqtt5_world.specs.World.{start}
use Rattle.mqtt5_world.proofs.Runs.{inv_start, inv_run}
use Rattle.mqtt5_world.proofs.laws.tokens_law.Goals as goal

pub returns-clause-one : goal.returns-clause-one
returns-clause-one c = λ limit events id. (inv_run events (start limit) (inv_start limit)).tokens id

pub returns-clause-none_refused : goal.returns-clause-none_refused
returns-clause-none_refused c = λ limit events. (inv_run events (start limit) (inv_start limit)).none
