-- Who wants to connect, which a caller may ask before the answer: bytes are held first, then what
-- they say is looked at, and then they are taken, or the client is turned away (MQTT 5.0 sections
-- 3.1.3.5, 3.1.3.6, 3.2.2.2, 4.12 and 5.4.1).
use Rattle.std.specs.Prelude.{ℕ, Bool, ◌&&◌, List, ◌++◌, Some, None, is_none, Result, Ok}
use Rattle.std.specs.Prelude.{if◌then◌else◌}
use Rattle.mqtt5_base.specs.declared.error.Error.{Error}
use Rattle.mqtt5_base.specs.Front.{Front, Whole}
use Rattle.mqtt5_base.specs.FrontAt.{front}
use Rattle.mqtt5_control.specs.declared.connack.ConnectReturnCode.{ConnectReturnCode}
use Rattle.mqtt5_codec.specs.declared.packet.Packet.{Packet}
use Rattle.mqtt5_codec.specs.declared.packet.Packet.TheVariants as packets
use Rattle.mqtt5_codec.specs.PacketsIn.{packet_in}
use Rattle.mqtt5_broker.specs.declared.asking.Asks.{Asks}
use Rattle.mqtt5_broker.specs.declared.asking.Asks.TheVariants as asks
use Rattle.mqtt5_broker.specs.Connection.{Connection, of_user, holding, connection_at}
use Rattle.mqtt5_broker.specs.Broker.{Broker, on_connection}
use Rattle.mqtt5_broker.specs.Reasons.{refusal}
use Rattle.mqtt5_broker.specs.Serving.{turns_away}

-- bytes come on a connection, and are only held, where any are taken
abbrev pub kept_on : List ℕ → Connection → Connection
kept_on bytes l = holding (l.held ++ bytes) l

abbrev pub holds : ℕ → List ℕ → Broker → Broker
holds c bytes b = on_connection c (kept_on bytes) b

-- whether a connection has no client yet
abbrev pub is_new : Connection → Bool
is_new l = l.is_open && is_none l.client

-- who sends a packet: nobody, where it is no Connect; somebody without a name and a password; or
-- with these
abbrev pub sent_by : Result Packet Error → Asks
sent_by (Ok (packets.Connect k will None)) = asks.Unnamed
sent_by (Ok (packets.Connect k will (Some login))) = asks.Named login
sent_by other = asks.Nobody

-- the one that is first in a stream, if it is whole
abbrev pub first_by : Front → Asks
first_by (Whole frame rest) = sent_by (packet_in frame)
first_by other = asks.Nobody

-- who wants to connect on a connection, by what it holds
unfoldable pub asks_of : ℕ → Connection → Asks
asks_of longest l = if is_new l then first_by (front (Some longest) l.held) else asks.Nobody

abbrev pub asks_at : ℕ → Broker → Asks
asks_at c b = asks_of b.longest (connection_at c b.connections)

-- one who isn't connected will connect as a user (5.4.1)
abbrev pub identifies : ℕ → ℕ → Broker → Broker
identifies c u b = if is_new (connection_at c b.connections) then on_connection c (of_user u) b else b

-- one who isn't connected is turned away
abbrev pub rejects : ℕ → ConnectReturnCode → Broker → Broker
rejects c code b = if is_new (connection_at c b.connections) then turns_away c (refusal code) b else b
