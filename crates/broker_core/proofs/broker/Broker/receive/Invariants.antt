use Rattle.std.proofs.Common.{List, Some, length}
use Rattle.mqtt5_codec.specs.declared.packet.Packet.{Packet}
use Rattle.broker_core.specs.declared.broker.TheConstants.{LONGEST}
use Rattle.broker_core.specs.Clients.{AreTaken, AreServed}
use Rattle.broker_core.proofs.broker.Broker.receive.Given as goal

abbrev pub decreases-loop-packet : goal.decreases-loop-packet
decreases-loop-packet l = length l.stream.items

abbrev pub invariant-loop-packet : goal.invariant-loop-packet
invariant-loop-packet l =
    (packets : List Packet) × AreTaken (Some LONGEST) packets l.initial.stream.items l.stream.items × AreServed l.id packets l.initial.self l.self
