-- What is due at a moment: connections that were silent for too long, sessions that end, and wills
-- that were delayed (MQTT 5.0 sections 3.1.2.10, 3.1.2.11.2 and 3.1.3.2.2).
use Rattle.std.specs.Prelude.{ℕ, zero, suc, List, [], ◌∷◌, length, Option, Some, None}
use Rattle.std.specs.Prelude.{if◌then◌else◌}
use Rattle.mqtt5_control.specs.declared.disconnect.DisconnectReasonCode.TheVariants as reasons
use Rattle.mqtt5_broker.specs.declared.member.Member.{Member}
use Rattle.mqtt5_broker.specs.Moments.{has_come, earlier}
use Rattle.mqtt5_broker.specs.Connection.{Connection, connection_at}
use Rattle.mqtt5_broker.specs.Broker.{Broker, at_moment, member_at, forgets, publishes_will}
use Rattle.mqtt5_broker.specs.Broker.{has_ended, will_is_due, dismisses}

-- what is made of the first so many numbers, one after the other
abbrev pub for_each : ℕ → (ℕ → Broker → Broker) → Broker → Broker
for_each zero f b = b
for_each (suc n) f b = f n (for_each n f b)

-- ---- what is due

-- a connection that was silent for too long ends
unfoldable pub silences : ℕ → Broker → Broker
silences c b =
    if has_come (connection_at c b.connections).deadline b.moment
    then dismisses c reasons.KeepAliveTimeout b else b

-- the session of a client ends, or its will is published
unfoldable pub expires : ℕ → Broker → Broker
expires i b =
    if has_ended b.moment (member_at i b.members) then forgets i b
    else if will_is_due b.moment (member_at i b.members) then publishes_will i b else b

-- all connections, and all clients
abbrev pub silences_all : Broker → Broker
silences_all b = for_each (length b.connections) silences b

abbrev pub expires_all : Broker → Broker
expires_all b = for_each (length b.members) expires b

-- all that is due at a moment
abbrev pub ticks : ℕ → Broker → Broker
ticks at b = expires_all (silences_all (at_moment at b))

-- ---- when something is

-- the earliest of a moment and of those of connections
abbrev pub first_silence : List Connection → Option ℕ → Option ℕ
first_silence [] at = at
first_silence (l ∷ ls) at = first_silence ls (earlier at l.deadline)

-- and of those of clients
abbrev pub first_of_client : Option Member → Option ℕ → Option ℕ
first_of_client None at = at
first_of_client (Some m) at = earlier (earlier at m.ends) m.due

abbrev pub first_expiry : List (Option Member) → Option ℕ → Option ℕ
first_expiry [] at = at
first_expiry (m ∷ ms) at = first_expiry ms (first_of_client m at)

-- the first moment at which something is due
abbrev pub next_moment : Broker → Option ℕ
next_moment b = first_expiry b.members (first_silence b.connections None)

-- ---- the end

-- a connection ends with the broker
unfoldable pub ends_now : ℕ → Broker → Broker
ends_now c b = dismisses c reasons.ServerShuttingDown b

-- all of them do
abbrev pub shuts_down : ℕ → Broker → Broker
shuts_down at b = for_each (length b.connections) ends_now (at_moment at b)
