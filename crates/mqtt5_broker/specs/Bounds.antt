-- What an operator bounds, and what comes of more than that: reason 0x97, Quota exceeded (MQTT 5.0
-- sections 3.2.2.2, 3.14.2.1 and 4.13).
use Rattle.std.specs.Prelude.{ℕ, ◌+◌, ◌-◌, ◌==◌, nat_lt, nat_le, min, Bool, false, not, ◌&&◌, ◌||◌, length}
use Rattle.std.specs.Prelude.{List, filter, Option, Some, None, is_some, if◌then◌else◌}
use Rattle.std.specs.List.{list_any}
use Rattle.mqtt5_publish.specs.declared.publish.Publish.{Publish}
use Rattle.mqtt5_control.specs.declared.disconnect.DisconnectReasonCode.{DisconnectReasonCode}
use Rattle.mqtt5_control.specs.declared.disconnect.DisconnectReasonCode.TheVariants as reasons
use Rattle.mqtt5_codec.specs.declared.packet.Packet.{Packet}
use Rattle.mqtt5_codec.specs.declared.packet.Packet.TheVariants as packets
use Rattle.mqtt5_subscribe.specs.declared.filter.Filter.{Filter}
use Rattle.mqtt5_network.specs.Asking.{share_of}
use Rattle.mqtt5_network.specs.Retained.{is_to}
use Rattle.mqtt5_sessions.specs.declared.counts.Counts.{Counts}
use Rattle.mqtt5_sessions.specs.Counts.{counts}
use Rattle.mqtt5_sessions.specs.Shedding.{surplus_of, sheds}
use Rattle.mqtt5_sessions.specs.Bringing.{overfills}
use Rattle.mqtt5_broker.specs.declared.bounds.Bounds.{Bounds}
use Rattle.mqtt5_broker.specs.Connection.{told, connection_of}
use Rattle.mqtt5_broker.specs.Rights.{may_do, part_of}
use Rattle.mqtt5_broker.specs.Groups.{Group, is_group}
use Rattle.mqtt5_broker.specs.Broker.{Broker, at_moment, free_number, owner_at, on_connection}
use Rattle.mqtt5_broker.specs.Broker.{forgets}
use Rattle.mqtt5_broker.specs.Clock.{for_each}

-- other bounds from now on
abbrev pub bounded : Bounds → Broker → Broker
bounded bounds b = record b { bounds = bounds }

-- whether one more client may be known
abbrev pub has_room : Broker → Bool
has_room b =
    is_some (free_number b.members) || nat_lt (length b.members) b.bounds.clients

-- whether a publish would be retained in place of none (3.3.1.3)
abbrev pub adds_retained : Publish → Broker → Bool
adds_retained p b =
    p.retain && not (length p.payload == 0) && not (list_any (is_to p.topic) b.sessions.retained)

-- whether a packet of a client asks for one retained message more than there may be
abbrev pub asks_too_much : Packet → Broker → Bool
asks_too_much (packets.Publish p) b =
    adds_retained p b && nat_le b.bounds.retained (length b.sessions.retained)
asks_too_much other b = false

-- whether a filter is that of a shared subscription that nobody has yet (4.8.2)
abbrev pub is_new_share : List Group → Filter → Bool
is_new_share gs f = is_some (share_of f.path) && not (list_any (is_group f.path) gs)

-- whether filters bring more of these than there is room for; one that comes twice is counted twice
abbrev pub shares_too_much : ℕ → List Filter → List Group → Bool
shares_too_much most fs gs = nat_lt (most - length gs) (length (filter (is_new_share gs) fs))

-- whether filters bring more shared subscriptions than there is room for, of all clients, or may bring the
-- client of a number more copies of retained messages than its queue has room for (3.3.1.3)
abbrev pub bring_too_much : ℕ → List Filter → Broker → Bool
bring_too_much i fs b =
    shares_too_much b.bounds.shared fs b.groups || overfills b.bounds.queued i fs b.sessions

-- whether a Subscribe has more filters than its client may have subscriptions, or those that its user may
-- subscribe to bring too much
abbrev pub brings_too_much : ℕ → Packet → Broker → Bool
brings_too_much i (packets.Subscribe s) b =
    nat_lt b.bounds.subscriptions (length s.filters)
    || bring_too_much i (part_of (owner_at i b.members) b.rights s).filters b
brings_too_much i other b = false

-- then it is refused; a publish only where its user may publish it (5.4.2)
abbrev pub quota_fault : ℕ → Packet → Broker → Option DisconnectReasonCode
quota_fault i x b =
    if (asks_too_much x b && may_do (owner_at i b.members) b.rights x) || brings_too_much i x b
    then Some reasons.QuotaExceeded else None

-- ---- sessions

-- whether more is kept for a client than may be
abbrev pub exceeds : Counts → Bounds → Bool
exceeds n bounds =
    nat_lt bounds.subscriptions n.subscriptions || nat_lt bounds.queued n.queued
    || nat_lt bounds.bytes n.bytes

-- its connection ends, if it has one
abbrev pub ends_of : Option ℕ → Broker → Broker
ends_of None b = b
ends_of (Some c) b = on_connection c (told reasons.QuotaExceeded) b

-- then its session ends, and its connection
abbrev pub ends_over : ℕ → Broker → Broker
ends_over i b =
    if exceeds (counts i b.sessions) b.bounds
    then ends_of (connection_of i b.connections) (forgets i b) else b

-- how many messages were let go, with so many more
abbrev pub dropped_after : ℕ → ℕ → ℕ
dropped_after n more = min (n + more) 18446744073709551615

-- the messages at the front of its queue are let go, as long as more wait than may, and they are of
-- QoS 0, or the oldest of any may go
abbrev pub sheds_of : ℕ → Broker → Broker
sheds_of i b = record b {
  sessions = sheds b.bounds.oldest b.bounds.queued b.bounds.bytes i b.sessions;
  dropped =
      dropped_after b.dropped
      (surplus_of b.bounds.oldest b.bounds.queued b.bounds.bytes i b.sessions);
}

-- where more is kept for it than may be, its queue is shortened, and its session ends where that
-- isn't enough
unfoldable pub trims : ℕ → Broker → Broker
trims i b =
    if exceeds (counts i b.sessions) b.bounds then ends_over i (sheds_of i b) else b

-- of all clients
abbrev pub trims_all : Broker → Broker
trims_all b = for_each (length b.members) trims b

-- at a moment
abbrev pub trims_at : ℕ → Broker → Broker
trims_at at b = trims_all (at_moment at b)
