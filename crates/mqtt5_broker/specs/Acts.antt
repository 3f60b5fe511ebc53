-- What a broker does, act by act: what happens to its sessions, and what it writes to connections
-- (MQTT 5.0 sections 4.1 and 4.2).
use Rattle.std.specs.Prelude.{◌≡◌, ℕ, List, [], ◌∷◌, ◌++◌, Option, Ok}
use Rattle.mqtt5_codec.specs.declared.packet.Packet.{Packet}
use Rattle.mqtt5_codec.specs.Packets.{packet_writing}
use Rattle.mqtt5_sessions.specs.Runs.{SessionEvent, after_event}
use Rattle.mqtt5_broker.specs.declared.member.Member.{Member}
use Rattle.mqtt5_broker.specs.Groups.{Group}
use Rattle.mqtt5_broker.specs.Connection.{written, shut, emptied, holding, heard}
use Rattle.mqtt5_broker.specs.Connection.{taken_by, learned, connection_at}
use Rattle.mqtt5_broker.specs.Broker.{Broker, on_connection}

-- ---- acts

-- something happens to the sessions; other clients are known, and others take part in shared
-- subscriptions; another number for the next name; another moment; another count of messages that were
-- let go; of a connection: it is heard, a packet is written, nothing more is taken, it is that of a
-- client, an alias stands for a topic, and bytes are held or taken out
pub data Act : Type 0 where
  Session : (event : SessionEvent) → Act
  Know : (members : List (Option Member)) → Act
  Regroup : (groups : List Group) → Act
  Name : (number : ℕ) → Act
  Moment : (at : ℕ) → Act
  Count : (dropped : ℕ) → Act
  Hear : (connection at : ℕ) → Act
  Write : (connection : ℕ) (packet : Packet) → Act
  Shut : (connection : ℕ) → Act
  Welcome : (connection client : ℕ) (longest : Option ℕ) (silence at : ℕ) → Act
  Learn : (connection alias : ℕ) (topic : List ℕ) → Act
  Hold : (connection : ℕ) (bytes : List ℕ) → Act
  Empty : (connection : ℕ) → Act

abbrev pub act : Act → Broker → Broker
act (Session e) b = record b { sessions = after_event e b.sessions }
act (Know ms) b = record b { members = ms }
act (Regroup gs) b = record b { groups = gs }
act (Name n) b = record b { next_name = n }
act (Moment at) b = record b { moment = at }
act (Count n) b = record b { dropped = n }
act (Hear d at) b = on_connection d (heard at) b
act (Write d p) b = on_connection d (written p) b
act (Shut d) b = on_connection d shut b
act (Welcome d i longest silence at) b = on_connection d (taken_by i longest silence at) b
act (Learn d a t) b = on_connection d (learned a t) b
act (Hold d bytes) b = on_connection d (holding bytes) b
act (Empty d) b = on_connection d emptied b

-- one after the other
abbrev pub acts : List Act → Broker → Broker
acts [] b = b
acts (a ∷ ds) b = acts ds (act a b)

-- what happens to the sessions in them
abbrev pub event_in : Act → List SessionEvent
event_in (Session e) = e ∷ []
event_in other = []

abbrev pub events_in : List Act → List SessionEvent
events_in [] = []
events_in (a ∷ ds) = event_in a ++ events_in ds

-- ---- frames

-- these bytes are the frames of these packets, in order (2.1)
abbrev pub AreFrames : List Packet → List ℕ → Type 0
AreFrames [] bytes = bytes ≡ []
AreFrames (p ∷ ps) bytes =
    (frame : List ℕ) × (rest : List ℕ) × (packet_writing p ≡ Ok frame) × (bytes ≡ frame ++ rest)
    × AreFrames ps rest

-- the bytes to be sent on a connection
abbrev pub output_at : ℕ → Broker → List ℕ
output_at d b = (connection_at d b.connections).output

-- only whole frames are put behind them
abbrev pub Sends : List ℕ → List ℕ → Type 0
Sends old new =
    (ps : List Packet) × (bytes : List ℕ) × AreFrames ps bytes × (new ≡ old ++ bytes)
