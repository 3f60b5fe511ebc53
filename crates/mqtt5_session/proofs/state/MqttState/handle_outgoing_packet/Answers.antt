use Rattle.mqtt5_session.proofs.Owed.{adds_of, out_adds}
use Rattle.mqtt5_session.proofs.Once.{sends_keeps, out_keeps}
use Rattle.mqtt5_session.proofs.state.MqttState.handle_outgoing_packet.Goals as goal

pub returns-clause-ledger : goal.returns-clause-ledger
returns-clause-ledger c = adds_of _ c.args.self.now _ _ _ (out_adds c.args.self.now c.args.request c.args.at) c.send.ensures

pub returns-clause-once : goal.returns-clause-once
returns-clause-once c = λ id. sends_keeps id _ c.args.self.now _ _ (out_keeps c.args.self.now c.args.request c.args.at) c.send.ensures
