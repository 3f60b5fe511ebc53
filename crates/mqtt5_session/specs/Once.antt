-- A publish of QoS 2 from the broker is handed on once until its release (MQTT 5.0 section 4.3.3).
use Rattle.std.specs.Prelude.{◌≡◌, ℕ, ◌+◌, ◌-◌, Bool, false, ◌&&◌, ◌==◌, List, [], ◌∷◌, Option}
use Rattle.std.specs.Prelude.{Some, Result, Ok, if◌then◌else◌}
use Rattle.std.specs.List.{count_by}
use Rattle.std.specs.FinSet as set
use Rattle.mqtt5_codec.specs.declared.packet.Packet.{Packet}
use Rattle.mqtt5_codec.specs.declared.packet.Packet.TheVariants as packets
use Rattle.mqtt5_inflight.specs.declared.event.Event.{Event}
use Rattle.mqtt5_inflight.specs.declared.event.Event.TheVariants as events
use Rattle.mqtt5_inflight.specs.declared.error.StateError.{StateError}
use Rattle.mqtt5_session.specs.Session.{Core, Session}
use Rattle.mqtt5_session.specs.Packets.{on_packet, is_exactly_once}
use Rattle.mqtt5_session.specs.Ledger.{Call, Hear, unless_refused, after, after_all}

-- 1 where it is so, else 0
abbrev pub one_if : Bool → ℕ
one_if b = if b then 1 else 0

-- 1 for the id of a publish that the broker hasn't released (4.3.3)
abbrev pub kept_id : ℕ → Core → ℕ
kept_id id c = one_if (set.contains c.incoming id)

-- whether an event is a publish of QoS 2 under an id
abbrev pub is_notice : ℕ → Event → Bool
is_notice id (events.Incoming (packets.Publish p)) = is_exactly_once p.qos && (p.pkid == id)
is_notice id event = false

-- how many of them there are
abbrev pub notices : ℕ → List Event → ℕ
notices id es = count_by (is_notice id) es

-- how many publishes of QoS 2 under an id a call handed on: the events that it added, unless it
-- answers a Disconnect
abbrev pub new_notices : ℕ → Session → Result (Option Packet) StateError → Session → ℕ
new_notices id old (Ok (Some (packets.Disconnect p))) new = 0
new_notices id old answer new = notices id new.events - notices id old.events

-- 1 where a packet is a PubRel that takes the id out (4.3.3)
abbrev pub releases : ℕ → Core → Packet → ℕ
releases id c (packets.PubRel p) = one_if ((p.pkid == id) && set.contains c.incoming id)
releases id c packet = 0

-- ---- any list of calls

-- what a call hands on
abbrev pub notified_in : ℕ → Session → Call → ℕ
notified_in id s (Hear packet at) =
    new_notices id s (on_packet s packet at).0 (on_packet s packet at).1
notified_in id s call = 0

-- what it releases
abbrev pub released_in : ℕ → Session → Call → ℕ
released_in id s (Hear packet at) =
    unless_refused (on_packet s packet at).0 (releases id s.core packet)
released_in id s call = 0

-- what calls hand on
abbrev pub notified_by : ℕ → Session → List Call → ℕ
notified_by id s [] = 0
notified_by id s (call ∷ calls) = notified_in id s call + notified_by id (after s call) calls

-- what they release
abbrev pub released_by : ℕ → Session → List Call → ℕ
released_by id s [] = 0
released_by id s (call ∷ calls) = released_in id s call + released_by id (after s call) calls

-- over any calls, what is kept and what was released are what was kept and what was handed on
abbrev pub IsOnce : Session → List Call → Type 0
IsOnce s calls =
    (id : ℕ)
    → kept_id id (after_all s calls).core + released_by id s calls
    ≡ kept_id id s.core + notified_by id s calls
