use Rattle.std.proofs.Common.{List, sym, subst}
use Rattle.mqtt5_broker.specs.Connection.{Connection}
use Rattle.mqtt5_broker.specs.Standing.{Stands}
use Rattle.mqtt5_broker.proofs.Standing.{new_standing, opens_standing, receives_standing, passes_standing, sent_standing, closes_standing, ticks_standing, trims_at_standing, shuts_down_standing}
use Rattle.mqtt5_broker.proofs.laws.connections_law.Goals as goal

pub returns-clause-new : goal.returns-clause-new
returns-clause-new c = λ n b e. subst (λ (ls : List Connection). Stands ls b.members) (sym e) (new_standing n b.members)

pub returns-clause-open : goal.returns-clause-open
returns-clause-open c = λ at d b s. opens_standing at d b s

pub returns-clause-receive : goal.returns-clause-receive
returns-clause-receive c = λ at d bytes b s. receives_standing at d bytes b s

pub returns-clause-pass : goal.returns-clause-pass
returns-clause-pass c = λ at d b s. passes_standing at d b s

pub returns-clause-sent : goal.returns-clause-sent
returns-clause-sent c = λ d n b s. sent_standing d n b s

pub returns-clause-close : goal.returns-clause-close
returns-clause-close c = λ at d b s. closes_standing at d b s

pub returns-clause-tick : goal.returns-clause-tick
returns-clause-tick c = λ at b s. ticks_standing at b s

pub returns-clause-trim : goal.returns-clause-trim
returns-clause-trim c = λ b at s. trims_at_standing at b s

pub returns-clause-shut_down : goal.returns-clause-shut_down
returns-clause-shut_down c = λ at b s. shuts_down_standing at b s
