-- A session that was saved, and that another process loads (MQTT 5.0 sections 4.1 and 4.4).
use Rattle.std.specs.Prelude.{◌≡◌, ℕ, true, List, [], ◌∷◌, length, Option, Some, None, Result, Ok}
use Rattle.std.specs.Prelude.{Err, ◌==◌, nat_eq, if◌then◌else◌}
use Rattle.std.specs.List.{list_any}
use Rattle.mqtt5_control.specs.declared.connack.ConnAck.{ConnAck}
use Rattle.mqtt5_codec.specs.declared.packet.Packet.{Packet}
use Rattle.mqtt5_codec.specs.declared.packet.Packet.TheVariants as packets
use Rattle.mqtt5_inflight.specs.declared.error.StateError.{StateError}
use Rattle.mqtt5_inflight.specs.Aliases.{alias_of}
use Rattle.mqtt5_session.specs.Session.{Session}
use Rattle.mqtt5_session.specs.Parts.{core_norm, session_of, stored_core}
use Rattle.mqtt5_session.specs.Resuming.{Sendings}
use Rattle.mqtt5_world.specs.declared.calls.Call.{Call}
use Rattle.mqtt5_world.specs.declared.calls.Call.TheVariants as calls
use Rattle.mqtt5_world.specs.Twins.{after_call}

-- what is loaded of a session that was saved: a session of its core as that is stored, in which
-- nothing happened (4.1)
abbrev pub loaded_session : Session → Session
loaded_session s = session_of (stored_core s.core)

-- a session is tidy where no publish that awaits its ack or waits for its id has an empty property
-- set: such a set is none once it was written and read again (2.2.2.1)
abbrev pub IsTidySession : Session → Type 0
IsTidySession s = core_norm s.core ≡ s.core

-- the session after a ConnAck (3.2)
abbrev pub after_connack : Session → ConnAck → ℕ → Session
after_connack s ack at = after_call s (calls.Incoming (packets.ConnAck ack) at)

-- the packets that are sent again, or the refusal (4.4)
abbrev pub sent_by : Sendings → Result (List Packet) StateError
sent_by (Ok sent) = Ok sent.0
sent_by (Err e) = Err e

-- ---- the broker's topic aliases

-- a publish without a topic has one of these aliases (3.3.2.3.4)
abbrev pub UsesKnown : List ℕ → Option ℕ → List ℕ → Type 0
UsesKnown known None topic = Unit {0}
UsesKnown known (Some alias) topic =
    (length topic == 0) ≡ true → list_any (nat_eq alias) known ≡ true

-- these aliases, with that of a publish that has a topic, since it sets it (3.3.2.3.4)
abbrev pub known_after : List ℕ → Option ℕ → List ℕ → List ℕ
known_after known None topic = known
known_after known (Some alias) topic = if length topic == 0 then known else alias ∷ known

-- each alias that a publish of the broker's uses is known, or was set by one before it; with none
-- known at first, as on a new connection, a broker has to do so (3.3.2.3.4)
abbrev pub SetsAliasesFirst : List ℕ → List Call → Type 0
SetsAliasesFirst known [] = Unit {0}
SetsAliasesFirst known (calls.Incoming (packets.Publish p) at ∷ rest) =
    UsesKnown known (alias_of p) p.topic
    × SetsAliasesFirst (known_after known (alias_of p) p.topic) rest
SetsAliasesFirst known (call ∷ rest) = SetsAliasesFirst known rest
