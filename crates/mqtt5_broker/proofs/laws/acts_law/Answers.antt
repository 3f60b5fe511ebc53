use Rattle.mqtt5_broker.proofs.Acting.{receives_done, passes_done, ticks_done, trims_at_done, shuts_down_done}
use Rattle.mqtt5_broker.proofs.Made.{done_made}
use Rattle.mqtt5_broker.proofs.Sending.{all_events, closes_lost, all_sends}
use Rattle.mqtt5_broker.proofs.laws.acts_law.Goals as goal

pub returns-clause-receive : goal.returns-clause-receive
returns-clause-receive c = λ at d bytes b. done_made b _ (receives_done at d bytes b)

pub returns-clause-pass : goal.returns-clause-pass
returns-clause-pass c = λ at d b. done_made b _ (passes_done at d b)

pub returns-clause-close : goal.returns-clause-close
returns-clause-close c = λ at d b. closes_lost at d b

pub returns-clause-tick : goal.returns-clause-tick
returns-clause-tick c = λ at b. done_made b _ (ticks_done at b)

pub returns-clause-trim : goal.returns-clause-trim
returns-clause-trim c = λ b at. done_made b _ (trims_at_done at b)

pub returns-clause-shut_down : goal.returns-clause-shut_down
returns-clause-shut_down c = λ at b. done_made b _ (shuts_down_done at b)

pub returns-clause-sessions : goal.returns-clause-sessions
returns-clause-sessions c = λ ds b. all_events ds b

pub returns-clause-frames : goal.returns-clause-frames
returns-clause-frames c = λ d ds b. all_sends d ds b
