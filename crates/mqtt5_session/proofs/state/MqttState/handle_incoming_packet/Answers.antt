use Rattle.mqtt5_session.proofs.Owed.{takes_of, inc_takes}
use Rattle.mqtt5_session.proofs.Once.{once_of, inc_counts}
use Rattle.mqtt5_session.proofs.state.MqttState.handle_incoming_packet.Goals as goal

pub returns-clause-ledger : goal.returns-clause-ledger
returns-clause-ledger c = takes_of _ c.args.self.now _ _ _ (inc_takes c.args.self.now c.args.packet c.args.at) c.receive_packet.ensures

pub returns-clause-once : goal.returns-clause-once
returns-clause-once c = λ id. once_of id _ c.args.self.now _ c.args.packet _ (inc_counts id c.args.self.now c.args.packet c.args.at) c.receive_packet.ensures
