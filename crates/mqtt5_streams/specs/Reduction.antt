-- A run over bytes as a run over packets (MQTT 5.0 sections 4.2 to 4.4).
use Rattle.std.specs.Prelude.{◌≡◌, ℕ, ◌≤◌, zero, suc, List, [], ◌∷◌, ◌++◌, map, Option, None}
use Rattle.std.specs.Prelude.{Result, Ok, Err, IfSome}
use Rattle.mqtt5_base.specs.Front.{Front, More, NeedsMore}
use Rattle.mqtt5_base.specs.FrontAt.{front}
use Rattle.mqtt5_publish.specs.declared.publish.Publish.{Publish}
use Rattle.mqtt5_publish.specs.Norms.{publish_norm}
use Rattle.mqtt5_codec.specs.declared.packet.Packet.{Packet}
use Rattle.mqtt5_codec.specs.declared.packet.Packet.TheVariants as packets
use Rattle.mqtt5_codec.specs.declared.codec.Codec.{Codec}
use Rattle.mqtt5_inflight.specs.declared.event.Request.TheVariants as requests
use Rattle.mqtt5_inflight.specs.declared.error.StateError.{StateError}
use Rattle.mqtt5_session.specs.Requests.{on_request}
use Rattle.mqtt5_world.specs.declared.event.WorldEvent.{WorldEvent}
use Rattle.mqtt5_world.specs.declared.event.WorldEvent.TheVariants as plain
use Rattle.mqtt5_world.specs.Broker.{Broker}
use Rattle.mqtt5_world.specs.World.{World}
use Rattle.mqtt5_progress.specs.Packets.{Every, numbered}
use Rattle.mqtt5_streams.specs.declared.event.ByteEvent.{ByteEvent}
use Rattle.mqtt5_streams.specs.declared.event.ByteEvent.TheVariants as events
use Rattle.mqtt5_streams.specs.Wire.{wire_of, IsWritable, IsTyped}
use Rattle.mqtt5_streams.specs.Buffers.{frames, count}
use Rattle.mqtt5_streams.specs.ByteWorld.{ByteWorld, Outcome, with_bytes, happens_bytes}

-- ---- the events

-- an event so often
abbrev pub so_often : ℕ → WorldEvent → List WorldEvent
so_often zero e = []
so_often (suc n) e = e ∷ so_often n e

-- an event as those of the world of packets: one delivery for each frame that the bytes complete
abbrev pub as_events : Codec → ByteWorld → ByteEvent → List WorldEvent
as_events codec w (events.Publish p) = plain.Publish p ∷ []
as_events codec w (events.Up n) = so_often (count (frames None (with_bytes n w.up).buffer)) plain.Up
as_events codec w (events.Down n) =
    so_often (count (frames codec.max_incoming_size (with_bytes n w.down).buffer)) plain.Down
as_events codec w (events.Loss m) = plain.Loss m ∷ []

-- of the world after, if it is reached
abbrev pub unless_fault : {A : Type 0} → Outcome → (ByteWorld → List A) → List A
unless_fault (Ok w) go_on = go_on w
unless_fault (Err e) go_on = []

-- the events of a run, up to a fault
abbrev pub plain_events : Codec → List ByteEvent → ByteWorld → List WorldEvent
plain_events codec [] w = []
plain_events codec (e ∷ es) w =
    as_events codec w e ++ unless_fault (happens_bytes codec w e) (plain_events codec es)

-- ---- the worlds

-- the norms of publishes: what is read of them once they were written
abbrev pub norms : List Publish → List Publish
norms ps = map publish_norm ps

-- a broker that saw norms
abbrev pub normed : Broker → Broker
normed b = record { ids = b.ids; handed = norms b.handed }

-- the frames of packets, one after another
abbrev pub frames_of : List Packet → List ℕ
frames_of [] = []
frames_of (p ∷ ps) = wire_of p ++ frames_of ps

-- The world of bytes is that of packets, but the broker handed on norms: each buffer with its
-- stream is the frames of the packets on that way, and no frame in a buffer is whole.
pub record Reduces (codec : Codec) (b : ByteWorld) (w : World) : Type 0 where
  pub session : b.session ≡ w.session
  pub broker : b.broker ≡ normed w.broker
  pub accepted : b.accepted ≡ w.accepted
  pub refused : b.refused ≡ w.refused
  pub up : b.up.buffer ++ b.up.stream ≡ frames_of w.up
  pub down : b.down.buffer ++ b.down.stream ≡ frames_of w.down
  pub up_waits : NeedsMore (front None b.up.buffer)
  pub down_waits : NeedsMore (front codec.max_incoming_size b.down.buffer)

-- ---- answers without a fault

-- what the types of its fields say of a publish that is asked for
abbrev pub IsTypedEvent : ByteEvent → Type 0
IsTypedEvent (events.Publish p) = IsTyped (packets.Publish p)
IsTypedEvent e = Unit {0}

-- it, where it is accepted
abbrev pub if_accepted : Result (Option Packet) StateError → Publish → List Publish
if_accepted (Ok reply) p = p ∷ []
if_accepted (Err e) p = []

-- the publish that an event has accepted, with its id
abbrev pub taken_on : ByteWorld → ByteEvent → List Publish
taken_on w (events.Publish p) =
    if_accepted (on_request w.session (requests.Publish p) 0).0 (numbered p.qos w.session.core p)
taken_on w e = []

-- those that a run has accepted, up to a fault
abbrev pub all_taken_on : Codec → List ByteEvent → ByteWorld → List Publish
all_taken_on codec [] w = []
all_taken_on codec (e ∷ es) w =
    taken_on w e ++ unless_fault (happens_bytes codec w e) (all_taken_on codec es)

-- each can be written under the outgoing limit
abbrev pub AllWritable : Codec → List Publish → Type 0
AllWritable codec ps = Every (λ p. IsWritable codec.max_outgoing_size (packets.Publish p)) ps

-- the incoming limit admits the longest ack
abbrev pub AdmitsAcks : Codec → Type 0
AdmitsAcks codec = IfSome codec.max_incoming_size (λ max. 4 ≤ max)
