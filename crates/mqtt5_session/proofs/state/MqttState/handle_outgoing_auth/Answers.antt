use Rattle.std.proofs.Common.{ap}
use Rattle.mqtt5_session.specs.Ledger.{number_owed}
use Rattle.mqtt5_session.specs.Once.{kept_id}
use Rattle.mqtt5_session.proofs.Owed.{auth_core, sends_core}
use Rattle.mqtt5_session.proofs.state.MqttState.handle_outgoing_auth.Goals as goal

pub returns-clause-ledger : goal.returns-clause-ledger
returns-clause-ledger c = ap number_owed (sends_core _ c.args.self.now _ _ (auth_core c.args.self.now c.args.auth c.args.at) c.send_auth.ensures)

pub returns-clause-once : goal.returns-clause-once
returns-clause-once c = λ id. ap (kept_id id) (sends_core _ c.args.self.now _ _ (auth_core c.args.self.now c.args.auth c.args.at) c.send_auth.ensures)
