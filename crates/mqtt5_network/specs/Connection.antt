-- What goes over a connection between a client and a broker, each of which sends and receives (MQTT
-- 5.0 sections 4.1 to 4.4).
use Rattle.std.specs.Prelude.{ℕ, ◌+◌, Bool, true, false, filter, List, [], Option, count_by}
use Rattle.std.specs.Prelude.{Result, Ok, Err}
use Rattle.std.specs.Option.{option_to_list}
use Rattle.std.specs.Ordering.{nat_cmp}
use Rattle.std.specs.FinSet as set
use Rattle.mqtt5_publish.specs.declared.publish.Publish.{Publish}
use Rattle.mqtt5_codec.specs.declared.packet.Packet.{Packet}
use Rattle.mqtt5_codec.specs.declared.packet.Packet.TheVariants as packets
use Rattle.mqtt5_inflight.specs.declared.error.StateError.{StateError}
use Rattle.mqtt5_session.specs.Session.{Core, Session}
use Rattle.mqtt5_session.specs.Packets.{on_packet}
use Rattle.mqtt5_session.specs.Resuming.{Sendings}
use Rattle.mqtt5_world.specs.Delivery.{stored_without, waiting_in}
use Rattle.mqtt5_world.specs.World.{taken_back}

-- the packets that a session replies
abbrev pub reply_in : Result (Option Packet) StateError → List Packet
reply_in (Ok reply) = option_to_list reply
reply_in (Err e) = []

-- whether a packet goes from a sender to a receiver, as a publish and its release do; an ack goes
-- back (4.3)
abbrev pub is_sending : Packet → Bool
is_sending (packets.Publish p) = true
is_sending (packets.PubRel p) = true
is_sending other = false

-- of the packets of a way, those that a sender sends
abbrev pub sent : List Packet → List Packet
sent way = filter is_sending way

-- how often publishes that pass a test wait at their sender, or are stored there under an id that
-- isn't among these ids of their receiver (4.3.3)
abbrev pub kept_at : set.FinSet nat_cmp → Core → (Publish → Bool) → ℕ
kept_at ids sender test =
    count_by test (waiting_in sender) + count_by test (stored_without ids sender)

-- a session on a new connection: it learns the other side's receive maximum (3.1.2.11.3, 3.2.2.3.3)
abbrev pub connected : Option ℕ → Session → Session
connected m s = (on_packet s (taken_back m) 0).1

-- what it sends again (4.4)
abbrev pub sent_in : Sendings → List Packet
sent_in (Ok r) = r.0
sent_in (Err e) = []
