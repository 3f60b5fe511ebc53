use Rattle.mqtt5_sessions.proofs.Noted.{passed_none}
use Rattle.mqtt5_sessions.proofs.laws.waiting_law.Goals as goal

pub returns : goal.returns
returns c = λ i s. passed_none i s.clients
