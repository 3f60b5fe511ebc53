use Rattle.std.proofs.Common.{◌≡◌, length}
use Rattle.std.specs.Prelude.{map}
use Rattle.mqtt5_broker.specs.Connection.{written_all}
use Rattle.mqtt5_broker.specs.Expiry.{counted}
use Rattle.mqtt5_broker.proofs.connection.Connection.write_all.Given as goal

abbrev pub invariant-loop-packet : goal.invariant-loop-packet
invariant-loop-packet l = written_all (map (counted l.at) l.packets.items) l.self ≡ written_all (map (counted l.at) l.initial.packets.items) l.initial.self

abbrev pub decreases-loop-packet : goal.decreases-loop-packet
decreases-loop-packet l = length l.packets.items
