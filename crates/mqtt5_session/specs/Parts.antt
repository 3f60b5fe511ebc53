-- What of a session outlives its client's process, and the session that is made of it again (MQTT
-- 5.0 sections 4.1 and 4.4).
use Rattle.std.specs.Prelude.{◌≡◌, ℕ, ◌<◌, ◌≤◌, Bool, true, false, ◌&&◌, List, [], ◌∷◌, ◌++◌, Option}
use Rattle.std.specs.Prelude.{Some, None, Result, Ok, Err, ◌==◌, nat_lt, nat_le, map, option_map}
use Rattle.std.specs.Prelude.{if◌then◌else◌}
use Rattle.std.specs.FinMap as finite
use Rattle.std.specs.FinSet as set
use Rattle.mqtt5_base.specs.declared.quality.QoS.{QoS}
use Rattle.mqtt5_base.specs.declared.quality.QoS.TheVariants.{AtMostOnce, AtLeastOnce, ExactlyOnce}
use Rattle.mqtt5_publish.specs.declared.publish.Publish.{Publish}
use Rattle.mqtt5_publish.specs.Norms.{publish_norm}
use Rattle.mqtt5_codec.specs.declared.packet.Packet.{Packet}
use Rattle.mqtt5_codec.specs.declared.packet.Packet.TheVariants as packets
use Rattle.mqtt5_inflight.specs.declared.slot.Slot.{Slot}
use Rattle.mqtt5_inflight.specs.declared.slot.Slot.TheVariants.{Sent, Released}
use Rattle.mqtt5_inflight.specs.InUse.{InUse, IsWithin}
use Rattle.mqtt5_inflight.specs.Resent.{packets_of}
use Rattle.mqtt5_session.specs.declared.parts.Numbers.{Numbers}
use Rattle.mqtt5_session.specs.declared.parts.PartsError.{PartsError}
use Rattle.mqtt5_session.specs.declared.parts.PartsError.TheVariants as faults
use Rattle.mqtt5_session.specs.Session.{Core, Session}
use Rattle.mqtt5_session.specs.Packets.{pubrec_of}
use Rattle.mqtt5_session.specs.Freeing.{IsCounted}
use Rattle.mqtt5_session.specs.Resuming.{with_dup}

-- ---- what is stored

-- a session of this core in which nothing happened, with no ping awaited
abbrev pub session_of : Core → Session
session_of c = record {
  core = c;
  awaits_ping = false;
  collision_pings = 0;
  events = [];
  last_incoming = 0;
  last_outgoing = 0;
}

-- the core without the topics of aliases, which last as long as the connection (3.3.2.3.4)
abbrev pub without_aliases : Core → Core
without_aliases c = record c { aliases = finite.empty }

-- an empty property set is none, as it is once it was written and read again (2.2.2.1)
abbrev pub slot_norm : Slot → Slot
slot_norm (Sent p) = Sent (publish_norm p)
slot_norm Released = Released

-- the ids in use with each publish so
unfoldable pub in_use_norm : InUse → InUse
in_use_norm in_use =
    finite.from_entries (map (λ e. (e.0, slot_norm e.1)) (finite.entries in_use))

-- so of the publish that waits too
abbrev pub core_norm : Core → Core
core_norm c = record c {
  in_use = in_use_norm c.in_use;
  waiting = option_map publish_norm c.waiting;
}

-- the core that is stored: with dup of each publish that awaits its ack, which is sent again
-- (3.3.1.1)
abbrev pub stored_core : Core → Core
stored_core c = without_aliases (with_dup (core_norm c))

-- its numbers, and whether the user sends the acks
abbrev pub numbers_of : Core → Numbers
numbers_of c = record {
  limit = c.limit;
  current = c.current;
  last = c.last;
  alias_max = c.alias_max;
  manual_acks = c.manual_acks;
}

-- the packets that tell the rest of it: what is sent again, and a PubRec for each id of the
-- broker's publishes (4.3.3, 4.4)
abbrev pub stored_packets : Core → List ℕ → List Packet
stored_packets c ids = packets_of c.limit c.in_use ++ map pubrec_of ids

-- What holds of the core of every session: the last id is below the limit, the current maximum
-- isn't above it, ids in use lie in 1..=limit, and what waits has a QoS of 1 or 2.
pub record IsCore (c : Core) : Type 0 where
  pub last : c.last < c.limit
  pub current : c.current ≤ c.limit
  pub within : IsWithin c.limit c.in_use
  pub counted : IsCounted c.waiting

-- ---- a session that is made of it

-- a core of these numbers and this publish that waits, with no id in use
abbrev pub blank_core : Numbers → Option Publish → Core
blank_core n waiting = record {
  limit = n.limit;
  current = n.current;
  last = n.last;
  in_use = finite.empty;
  waiting = waiting;
  aliases = finite.empty;
  alias_max = n.alias_max;
  manual_acks = n.manual_acks;
  incoming = set.empty;
}

-- an id in 1..=limit that isn't in use gets in use, and this is known of it (2.2.1)
abbrev pub add_slot : Core → ℕ → Slot → Result Core PartsError
add_slot c id slot =
    if id == 0 then Err (faults.OutOfRange id)
    else if nat_lt c.limit id then Err (faults.OutOfRange id)
    else if finite.contains_key c.in_use id then Err (faults.Twice id)
    else Ok (record c { in_use = finite.insert c.in_use id slot })

-- a publish that awaits its ack, of QoS 1 or 2 (4.3)
abbrev pub add_publish : QoS → Core → Publish → Result Core PartsError
add_publish AtMostOnce c p = Err faults.NotStored
add_publish AtLeastOnce c p = add_slot c p.pkid (Sent p)
add_publish ExactlyOnce c p = add_slot c p.pkid (Sent p)

-- what a packet tells of: a publish that awaits its ack, a release that awaits its ack, or an id of
-- the broker's publishes, also once more; another packet isn't stored (4.1)
abbrev pub add_packet : Core → Packet → Result Core PartsError
add_packet c (packets.Publish p) = add_publish p.qos c p
add_packet c (packets.PubRel p) = add_slot c p.pkid Released
add_packet c (packets.PubRec p) = Ok (record c { incoming = set.insert c.incoming p.pkid })
add_packet c other = Err faults.NotStored

-- a core, and what is made of it, unless there is none
abbrev pub core_then : Result Core PartsError → (Core → Result Core PartsError)
    → Result Core PartsError
core_then (Ok c) f = f c
core_then (Err e) f = Err e

-- packets, one after another, to the first fault
abbrev pub add_packets : Core → List Packet → Result Core PartsError
add_packets c [] = Ok c
add_packets c (p ∷ ps) = core_then (add_packet c p) (λ d. add_packets d ps)

-- numbers that a session can have: the last id is below the limit, and the current maximum isn't
-- above it (2.2.1, 3.2.2.3.3)
abbrev pub are_numbers : Numbers → Bool
are_numbers n = nat_lt n.last n.limit && nat_le n.current n.limit

-- what waits, if anything, has a QoS of 1 or 2 (4.3)
abbrev pub may_wait : Option Publish → Bool
may_wait None = true
may_wait (Some p) = acked p.qos
  where
    acked : QoS → Bool
    acked AtMostOnce = false
    acked q = true

-- the core of these numbers, this publish that waits, and what these packets tell of
abbrev pub core_of_parts : Numbers → Option Publish → List Packet → Result Core PartsError
core_of_parts n waiting ps =
    if are_numbers n
    then (if may_wait waiting then add_packets (blank_core n waiting) ps else Err faults.NotStored)
    else Err faults.BadNumbers

-- ---- what a function answered

-- the session has what a packet told of, or several did, and else is what it was; or this is the
-- fault; or memory was refused
abbrev pub AddsTo : Result (Unit {0}) PartsError → Session → Session → Result Core PartsError
    → Type 0
AddsTo (Ok u) old new answer = (answer ≡ Ok new.core) × (new ≡ record old { core = new.core })
AddsTo (Err faults.OutOfMemory) old new answer = Unit {0}
AddsTo (Err e) old new answer = answer ≡ Err e

-- a session of that core in which nothing happened; or this is the fault; or memory was refused
abbrev pub Makes : Result Session PartsError → Result Core PartsError → Type 0
Makes (Ok s) answer = (answer ≡ Ok s.core) × (s ≡ session_of s.core)
Makes (Err faults.OutOfMemory) answer = Unit {0}
Makes (Err e) answer = answer ≡ Err e
