use Rattle.mqtt5_session.proofs.Keeps.{ledger}
use Rattle.mqtt5_session.proofs.laws.ledger_law.Goals as goal

pub returns : goal.returns
returns c = ledger
