-- This file serves the logic alone: what a resume sends and tells, in one piece.
use Rattle.std.specs.Prelude.{ℕ, List, [], ◌∷◌, ◌++◌, Option, Some, None, Ok, Err}
use Rattle.std.specs.List.{filter_map}
use Rattle.mqtt5_codec.specs.declared.packet.Packet.{Packet}
use Rattle.mqtt5_codec.specs.declared.packet.Packet.TheVariants as packets
use Rattle.mqtt5_inflight.specs.declared.event.Outgoing.TheVariants as outgoing
use Rattle.mqtt5_inflight.specs.declared.event.Event.{Event}
use Rattle.mqtt5_inflight.specs.declared.event.Event.TheVariants as events
use Rattle.mqtt5_inflight.specs.declared.error.StateError.TheVariants as errors
use Rattle.mqtt5_inflight.specs.InUse.{InUse}
use Rattle.mqtt5_inflight.specs.Unacked.{by_id, alias_again, in_use_again}
use Rattle.mqtt5_inflight.specs.Resent.{packets_of}
use Rattle.mqtt5_session.specs.Session.{Session}
use Rattle.mqtt5_session.specs.Resuming.{on_clean, Sendings}

-- what is told of it
abbrev pub event_for : Packet → Option Event
event_for (packets.Publish p) = Some (events.Outgoing (outgoing.Publish p.pkid))
event_for (packets.PubRel p) = Some (events.Outgoing (outgoing.PubRel p.pkid))
event_for packet = None

-- the moment of the last request, once packets were sent
abbrev pub moment_after : List Packet → ℕ → ℕ → ℕ
moment_after [] last at = last
moment_after (p ∷ ps) last at = at

-- packets were sent, and these ids are in use
abbrev pub after_sent : List Packet → InUse → Session → ℕ → Session
after_sent ps in_use s at = record s {
  core = record s.core { in_use = in_use };
  events = s.events ++ filter_map event_for ps;
  last_outgoing = moment_after ps s.last_outgoing at;
}

-- the packets are sent, unless an alias is above the maximum
abbrev pub sent_unless : List ℕ → List Packet → InUse → Session → ℕ → Sendings
sent_unless [] ps in_use s at = Ok (ps, after_sent ps in_use s at)
sent_unless (alias ∷ others) ps in_use s at = Err (errors.InvalidAlias alias s.core.alias_max)

-- what a resume does: the ids in use stay, and their publishes have dup
abbrev pub resumed : Session → ℕ → Sendings
resumed s at =
    sent_unless (by_id (alias_again s.core.alias_max) s.core.limit s.core.in_use)
    (packets_of s.core.limit s.core.in_use) (in_use_again s.core.in_use) (on_clean s) at
