-- This file serves the logic alone: the packets that come most, and what each does beside its
-- event.
use Rattle.std.specs.Prelude.{◌≡◌, ℕ, ◌<◌, ◌≤◌, Bool, false, List, [], ◌∷◌, ◌++◌, Option, Some}
use Rattle.std.specs.Prelude.{None, Ok}
use Rattle.std.specs.Ordering.{nat_cmp}
use Rattle.std.specs.FinMap as map
use Rattle.std.specs.FinSet as set
use Rattle.mqtt5_codec.specs.declared.packet.Packet.{Packet}
use Rattle.mqtt5_inflight.specs.declared.event.Event.{Event}
use Rattle.mqtt5_inflight.specs.declared.event.Event.TheVariants as events
use Rattle.mqtt5_inflight.specs.declared.event.Outgoing.{Outgoing}
use Rattle.mqtt5_inflight.specs.declared.event.Outgoing.TheVariants as outgoing
use Rattle.mqtt5_inflight.specs.declared.slot.Slot.TheVariants.{Released}
use Rattle.mqtt5_inflight.specs.InUse.{InUse}
use Rattle.mqtt5_session.specs.declared.reply.Reply.{Reply}
use Rattle.mqtt5_session.specs.declared.reply.Reply.TheVariants.{PubAck, PubRec, PubRel, PubComp}
use Rattle.mqtt5_session.specs.declared.state.frequent.Change.{Change}
use Rattle.mqtt5_session.specs.declared.state.frequent.Change.TheVariants.{Pong, Free, Release}
use Rattle.mqtt5_session.specs.declared.state.frequent.Change.TheVariants.{Keep, Complete}
use Rattle.mqtt5_session.specs.declared.state.frequent.Effect.{Effect}
use Rattle.mqtt5_session.specs.Session.{Session}
use Rattle.mqtt5_session.specs.Packets.{with_incoming, on_packet}
use Rattle.mqtt5_session.specs.Replies.{made_of, packet_of}

-- the ids in use after it
abbrev pub in_use_by : Change → InUse → InUse
in_use_by (Free id) in_use = map.remove in_use id
in_use_by (Release id) in_use = map.insert in_use id Released
in_use_by change in_use = in_use

-- the ids of the broker after it
abbrev pub ids_by : Change → set.FinSet nat_cmp → set.FinSet nat_cmp
ids_by (Keep id) ids = set.insert ids id
ids_by (Complete id) ids = set.remove ids id
ids_by change ids = ids

-- whether a ping isn't answered after it
abbrev pub awaits_by : Change → Bool → Bool
awaits_by Pong awaits = false
awaits_by change awaits = awaits

-- what is told of an ack
abbrev pub outgoing_of : Reply → Option Outgoing
outgoing_of (PubAck id) = Some (outgoing.PubAck id)
outgoing_of (PubRec id) = Some (outgoing.PubRec id)
outgoing_of (PubRel id) = Some (outgoing.PubRel id)
outgoing_of (PubComp id reason) = Some (outgoing.PubComp id)
outgoing_of reply = None

-- it is told
abbrev pub events_by : Option Outgoing → List Event → List Event
events_by None es = es
events_by (Some event) es = es ++ events.Outgoing event ∷ []

-- the session after a packet that was told
abbrev pub does : Effect → Session → ℕ → Session
does e s at = record s {
  core = record s.core {
    in_use = in_use_by e.change s.core.in_use;
    incoming = ids_by e.change s.core.incoming;
  };
  awaits_ping = awaits_by e.change s.awaits_ping;
  events = events_by (outgoing_of e.reply) s.events;
  last_incoming = at;
}

-- an id that is released lies in 1..=limit
abbrev pub FitsIn : ℕ → Change → Type 0
FitsIn limit (Release id) = (0 < id) × (id ≤ limit)
FitsIn limit change = Unit {0}

-- this is all that a packet does
abbrev pub IsAll : Session → Packet → ℕ → Effect → Type 0
IsAll s packet at e =
    (on_packet s packet at ≡ (Ok (made_of e.reply), does e (with_incoming s packet) at))
    × (packet_of e.reply (does e (with_incoming s packet) at) ≡ made_of e.reply)
    × FitsIn s.core.limit e.change
