-- A client's session and a broker, over two ordered ways that a lost connection empties (MQTT 5.0
-- sections 4.2 to 4.4).
use Rattle.std.specs.Prelude.{ℕ, ◌+◌, true, false, List, [], ◌∷◌, ◌++◌, Option, Some, Result, Ok}
use Rattle.std.specs.Prelude.{Err, option_map}
use Rattle.std.specs.Option.{option_to_list}
use Rattle.mqtt5_publish.specs.declared.publish.Publish.{Publish}
use Rattle.mqtt5_control.specs.declared.connack.ConnAckProperties.{ConnAckProperties}
use Rattle.mqtt5_control.specs.ConnAcks.{no_connack_properties}
use Rattle.mqtt5_control.specs.declared.connack.ConnectReturnCode.TheVariants.{Success}
use Rattle.mqtt5_codec.specs.declared.packet.Packet.{Packet}
use Rattle.mqtt5_codec.specs.declared.packet.Packet.TheVariants as packets
use Rattle.mqtt5_inflight.specs.declared.event.Request.TheVariants as requests
use Rattle.mqtt5_inflight.specs.declared.error.StateError.{StateError}
use Rattle.mqtt5_session.specs.Session.{Session, fresh}
use Rattle.mqtt5_session.specs.Requests.{on_request}
use Rattle.mqtt5_session.specs.Packets.{on_packet}
use Rattle.mqtt5_session.specs.Resuming.{Sendings, resume_of}
use Rattle.mqtt5_world.specs.declared.event.WorldEvent.{WorldEvent}
use Rattle.mqtt5_world.specs.declared.event.WorldEvent.TheVariants as events
use Rattle.mqtt5_world.specs.Broker.{Broker, Served, idle, serve}

-- the session and the broker; the packets on their way up to the broker and down to the client; the
-- publish requests that were accepted and that were refused, as they were asked for; and the
-- refusals of what came down and of resuming
pub record World : Type 0 where
  pub session : Session
  pub broker : Broker
  pub up : List Packet
  pub down : List Packet
  pub accepted : List Publish
  pub refused : List (Publish × StateError)
  pub faults : List StateError

-- a client that has sent nothing, and a broker that has nothing of it
abbrev pub start : ℕ → World
start limit = record {
  session = fresh limit false;
  broker = idle;
  up = [];
  down = [];
  accepted = [];
  refused = [];
  faults = [];
}

-- a publish was asked for: it is accepted, and its reply goes up, or it is refused
abbrev pub after_request : World → Publish → Result (Option Packet) StateError → Session → World
after_request w p (Ok reply) s = record w {
  session = s;
  up = w.up ++ option_to_list reply;
  accepted = w.accepted ++ p ∷ [];
}
after_request w p (Err e) s = record w { session = s; refused = w.refused ++ (p, e) ∷ [] }

-- a publish is asked for, at moment 0
abbrev pub asks : World → Publish → World
asks w p =
    after_request w p (on_request w.session (requests.Publish p) 0).0
    (on_request w.session (requests.Publish p) 0).1

-- the broker took a packet: its reply goes down
abbrev pub after_serving : World → Served → World
after_serving w a = record w { broker = a.1; down = w.down ++ option_to_list a.0 }

-- the first packet on its way up arrives, if there is one
abbrev pub arrives : World → List Packet → World
arrives w [] = w
arrives w (p ∷ rest) = after_serving (record w { up = rest }) (serve w.broker p)

-- the session took a packet: its reply goes up, or it is refused
abbrev pub after_reply : World → Result (Option Packet) StateError → Session → World
after_reply w (Ok reply) s = record w { session = s; up = w.up ++ option_to_list reply }
after_reply w (Err e) s = record w { session = s; faults = w.faults ++ e ∷ [] }

-- the session takes a packet, at moment 0
abbrev pub takes_packet : World → Packet → World
takes_packet w p = after_reply w (on_packet w.session p 0).0 (on_packet w.session p 0).1

-- the first packet on its way down arrives, if there is one
abbrev pub returns : World → List Packet → World
returns w [] = w
returns w (p ∷ rest) = takes_packet (record w { down = rest }) p

-- what a ConnAck says that a broker's receive maximum is this (3.2.2.3.3)
abbrev pub with_receive_max : ℕ → ConnAckProperties
with_receive_max m = record no_connack_properties { receive_max = Some m }

-- the broker takes the client back, with its session (3.2.2.1.1)
abbrev pub taken_back : Option ℕ → Packet
taken_back m =
    packets.ConnAck
    (record { session_present = true; code = Success; properties = option_map with_receive_max m })

-- what was kept is sent again, or that is refused
abbrev pub after_resume : World → Sendings → World
after_resume w (Ok sent) = record w { session = sent.1; up = w.up ++ sent.0 }
after_resume w (Err e) = record w { faults = w.faults ++ e ∷ [] }

-- the session is resumed (4.4)
abbrev pub resumes : World → World
resumes w = after_resume w (resume_of w.session 0)

-- an event: a publish is asked for, a packet arrives at the broker or at the client, or the
-- connection is lost with all that was on its way, and a new one takes up the session (4.4)
abbrev pub happens : World → WorldEvent → World
happens w (events.Publish p) = asks w p
happens w events.Up = arrives w w.up
happens w events.Down = returns w w.down
happens w (events.Loss m) = resumes (takes_packet (record w { up = []; down = [] }) (taken_back m))

-- the events, one after another
abbrev pub run_world : List WorldEvent → World → World
run_world [] w = w
run_world (e ∷ es) w = run_world es (happens w e)

-- how many of them are losses
abbrev pub losses : List WorldEvent → ℕ
losses [] = 0
losses (events.Loss m ∷ es) = losses es + 1
losses (e ∷ es) = losses es
