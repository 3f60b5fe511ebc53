-- A client's session and a broker over two streams of bytes that a lost connection empties, in the
-- middle of a frame too (MQTT 5.0 sections 4.2 to 4.4).
use Rattle.std.specs.Prelude.{ℕ, ◌+◌, false, List, [], ◌∷◌, ◌++◌, take, drop, Option, Some, None}
use Rattle.std.specs.Prelude.{Result, Ok, Err}
use Rattle.mqtt5_base.specs.declared.error.Error.{Error}
use Rattle.mqtt5_publish.specs.declared.publish.Publish.{Publish}
use Rattle.mqtt5_codec.specs.declared.packet.Packet.{Packet}
use Rattle.mqtt5_codec.specs.declared.codec.Codec.{Codec}
use Rattle.mqtt5_codec.specs.PacketsIn.{packet_in}
use Rattle.mqtt5_inflight.specs.declared.event.Request.TheVariants as requests
use Rattle.mqtt5_inflight.specs.declared.error.StateError.{StateError}
use Rattle.mqtt5_inflight.specs.Errors.{state_error}
use Rattle.mqtt5_session.specs.Session.{Session, fresh}
use Rattle.mqtt5_session.specs.Requests.{on_request}
use Rattle.mqtt5_session.specs.Packets.{on_packet}
use Rattle.mqtt5_session.specs.Resuming.{Sendings, resume_of}
use Rattle.mqtt5_world.specs.Broker.{Broker, Served, idle, serve}
use Rattle.mqtt5_world.specs.World.{taken_back}
use Rattle.mqtt5_streams.specs.declared.event.ByteEvent.{ByteEvent}
use Rattle.mqtt5_streams.specs.declared.event.ByteEvent.TheVariants as events
use Rattle.mqtt5_streams.specs.Wire.{bytes_of}
use Rattle.mqtt5_streams.specs.Buffers.{Frames, Waits, Breaks, Takes, frames}

-- ---- the ways

-- one way: the bytes that its reader has, and those that are on their way
pub record Way : Type 0 where
  pub buffer : List ℕ
  pub stream : List ℕ

-- without a byte
abbrev pub clear : Way
clear = record { buffer = []; stream = [] }

-- so many bytes arrive at the reader, or all where there are fewer
abbrev pub with_bytes : ℕ → Way → Way
with_bytes n way = record { buffer = way.buffer ++ take n way.stream; stream = drop n way.stream }

-- bytes are sent
abbrev pub sent : Way → List ℕ → Way
sent way bytes = record { buffer = way.buffer; stream = way.stream ++ bytes }

-- the bytes of a reply, or why it isn't written
abbrev pub reply_wire : Option ℕ → Option Packet → Result (List ℕ) Error
reply_wire limit None = Ok []
reply_wire limit (Some p) = bytes_of limit p

-- bytes before others
abbrev pub with_front : List ℕ → Result (List ℕ) Error → Result (List ℕ) Error
with_front bytes (Ok more) = Ok (bytes ++ more)
with_front bytes (Err e) = Err e

-- the same, where they are written
abbrev pub before : Result (List ℕ) Error → Result (List ℕ) Error → Result (List ℕ) Error
before (Ok bytes) rest = with_front bytes rest
before (Err e) rest = Err e

-- the bytes of packets in order, or why the first that isn't written isn't
abbrev pub all_bytes : Option ℕ → List Packet → Result (List ℕ) Error
all_bytes limit [] = Ok []
all_bytes limit (p ∷ ps) = before (bytes_of limit p) (all_bytes limit ps)

-- ---- the world

-- the session and the broker; the way up to the broker and the way down to the client; the publish
-- requests that were accepted and that were refused, as they were asked for
pub record ByteWorld : Type 0 where
  pub session : Session
  pub broker : Broker
  pub up : Way
  pub down : Way
  pub accepted : List Publish
  pub refused : List (Publish × StateError)

-- a client that has sent nothing, and a broker that has nothing of it
abbrev pub start_bytes : ℕ → ByteWorld
start_bytes limit = record {
  session = fresh limit false;
  broker = idle;
  up = clear;
  down = clear;
  accepted = [];
  refused = [];
}

-- a world, or the fault that ended it
abbrev pub Outcome : Type 0
Outcome = Result ByteWorld StateError

-- what comes after, unless there was a fault
abbrev pub and_then : Outcome → (ByteWorld → Outcome) → Outcome
and_then (Ok w) go_on = go_on w
and_then (Err e) go_on = Err e

-- bytes go up, or a fault of the codec ends it
abbrev pub sends_up : ByteWorld → Result (List ℕ) Error → Outcome
sends_up w (Ok bytes) = Ok (record w { up = sent w.up bytes })
sends_up w (Err e) = Err (state_error e)

-- the same down
abbrev pub sends_down : ByteWorld → Result (List ℕ) Error → Outcome
sends_down w (Ok bytes) = Ok (record w { down = sent w.down bytes })
sends_down w (Err e) = Err (state_error e)

-- a publish was asked for: it is accepted, and its reply goes up, or it is refused
abbrev pub asked_bytes : Codec → ByteWorld → Publish → Result (Option Packet) StateError → Session
    → Outcome
asked_bytes codec w p (Ok reply) s =
    sends_up (record w { session = s; accepted = w.accepted ++ p ∷ [] })
    (reply_wire codec.max_outgoing_size reply)
asked_bytes codec w p (Err e) s = Ok (record w { session = s; refused = w.refused ++ (p, e) ∷ [] })

-- a publish is asked for, at moment 0
abbrev pub asks_bytes : Codec → ByteWorld → Publish → Outcome
asks_bytes codec w p =
    asked_bytes codec w p (on_request w.session (requests.Publish p) 0).0
    (on_request w.session (requests.Publish p) 0).1

-- ---- to the broker, which reads and writes without limits

-- the broker took a packet: its reply goes down
abbrev pub served_bytes : ByteWorld → Served → Outcome
served_bytes w a = sends_down (record w { broker = a.1 }) (reply_wire None a.0)

-- the packet of a frame, or the fault of the frame
abbrev pub arrived : ByteWorld → Result Packet Error → Outcome
arrived w (Ok p) = served_bytes w (serve w.broker p)
arrived w (Err e) = Err (state_error e)

-- the frames in its buffer, one after another
abbrev pub go_up : Frames → ByteWorld → Outcome
go_up Waits w = Ok w
go_up (Breaks e) w = Err (state_error e)
go_up (Takes frame rest others) w =
    and_then
    (arrived (record w { up = record { buffer = rest; stream = w.up.stream } }) (packet_in frame))
    (go_up others)

-- it takes each whole frame
abbrev pub drain_up : ByteWorld → Outcome
drain_up w = go_up (frames None w.up.buffer) w

-- ---- to the client

-- the session took a packet: its reply goes up, or its refusal ends it
abbrev pub heard_bytes : Codec → ByteWorld → Result (Option Packet) StateError → Session → Outcome
heard_bytes codec w (Ok reply) s =
    sends_up (record w { session = s }) (reply_wire codec.max_outgoing_size reply)
heard_bytes codec w (Err e) s = Err e

-- the session takes a packet, at moment 0
abbrev pub takes_bytes : Codec → ByteWorld → Packet → Outcome
takes_bytes codec w p = heard_bytes codec w (on_packet w.session p 0).0 (on_packet w.session p 0).1

-- the packet of a frame, or the fault of the frame
abbrev pub returned : Codec → ByteWorld → Result Packet Error → Outcome
returned codec w (Ok p) = takes_bytes codec w p
returned codec w (Err e) = Err (state_error e)

-- the frames in its buffer, one after another
abbrev pub come_down : Codec → Frames → ByteWorld → Outcome
come_down codec Waits w = Ok w
come_down codec (Breaks e) w = Err (state_error e)
come_down codec (Takes frame rest others) w =
    and_then
    (returned codec (record w { down = record { buffer = rest; stream = w.down.stream } })
    (packet_in frame))
    (come_down codec others)

-- it takes each whole frame
abbrev pub drain_down : Codec → ByteWorld → Outcome
drain_down codec w = come_down codec (frames codec.max_incoming_size w.down.buffer) w

-- ---- a loss

-- both ways are emptied, with what their readers had
abbrev pub emptied : ByteWorld → ByteWorld
emptied w = record w { up = clear; down = clear }

-- what was kept is sent again, or a refusal ends it
abbrev pub resumed_bytes : Codec → ByteWorld → Sendings → Outcome
resumed_bytes codec w (Ok again) =
    sends_up (record w { session = again.1 }) (all_bytes codec.max_outgoing_size again.0)
resumed_bytes codec w (Err e) = Err e

-- the session is resumed (4.4)
abbrev pub resumes_bytes : Codec → ByteWorld → Outcome
resumes_bytes codec w = resumed_bytes codec w (resume_of w.session 0)

-- ---- runs

-- an event: a publish is asked for, bytes arrive at the broker or at the client, or the connection
-- is lost with all bytes, and a new one takes up the session; its ConnAck is handed to the client
-- as it is (4.4)
abbrev pub happens_bytes : Codec → ByteWorld → ByteEvent → Outcome
happens_bytes codec w (events.Publish p) = asks_bytes codec w p
happens_bytes codec w (events.Up n) = drain_up (record w { up = with_bytes n w.up })
happens_bytes codec w (events.Down n) = drain_down codec (record w { down = with_bytes n w.down })
happens_bytes codec w (events.Loss m) =
    and_then (takes_bytes codec (emptied w) (taken_back m)) (resumes_bytes codec)

-- the events, one after another, up to a fault
abbrev pub run_bytes : Codec → List ByteEvent → ByteWorld → Outcome
run_bytes codec [] w = Ok w
run_bytes codec (e ∷ es) w = and_then (happens_bytes codec w e) (run_bytes codec es)

-- how many of them are losses
abbrev pub byte_losses : List ByteEvent → ℕ
byte_losses [] = 0
byte_losses (events.Loss m ∷ es) = byte_losses es + 1
byte_losses (e ∷ es) = byte_losses es
