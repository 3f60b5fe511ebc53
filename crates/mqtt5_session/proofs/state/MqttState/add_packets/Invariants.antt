use Rattle.std.proofs.Common.{◌≡◌}
use Rattle.mqtt5_session.specs.Parts.{add_packets}
use Rattle.mqtt5_session.proofs.state.MqttState.add_packets.Given as goal

abbrev pub invariant-loop-packet : goal.invariant-loop-packet
invariant-loop-packet l = record {
  rest : add_packets l.self.core l.packet-iterator.rest.items ≡ add_packets l.fn.self.core l.fn.packets.items;
  others : l.self ≡ record l.fn.self { core = l.self.core };
}
