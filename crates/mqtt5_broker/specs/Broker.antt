-- What a broker keeps: the sessions of its clients, their names, its connections, what its users may
-- do, and who takes part in shared subscriptions (MQTT 5.0 sections 3.1.2.11.2, 3.1.3.1, 3.1.3.2.2,
-- 4.1, 4.8.2 and 5.4).
use Rattle.std.specs.Prelude.{ℕ, ◌+◌, ◌==◌, nat_eq, min, max, Bool, true, false, not, ◌&&◌, List, [], ◌∷◌}
use Rattle.std.specs.Prelude.{◌++◌, length, Option, Some, None, is_none, option_map}
use Rattle.std.specs.Prelude.{slice_index_or, slice_set, if◌then◌else◌, codes}
use Rattle.std.specs.Fmt.{decimal}
use Rattle.std.specs.List.{position}
use Rattle.std.specs.Cmp.Lexicographic.{pointwise}
use Rattle.mqtt5_base.specs.Texts.{Utf8, text_of}
use Rattle.mqtt5_control.specs.declared.disconnect.DisconnectReasonCode.{DisconnectReasonCode}
use Rattle.mqtt5_sessions.specs.Sessions.{Sessions, joins, loses, leaves, ends, is_due, dates}
use Rattle.mqtt5_sessions.specs.Expiry.{will_expiry, will_is_delayed}
use Rattle.mqtt5_broker.specs.declared.bounds.Bounds.{Bounds}
use Rattle.mqtt5_broker.specs.declared.member.Member.{Member}
use Rattle.mqtt5_broker.specs.Moments.{seconds_after, has_come}
use Rattle.mqtt5_broker.specs.Expiry.{begun}
use Rattle.mqtt5_broker.specs.Rights.{Rights, no_rights, with_rights}
use Rattle.mqtt5_broker.specs.Groups.{Group, groups_without, sessions_without}
use Rattle.mqtt5_broker.specs.Connection.{Connection, shut, told, with_connection}
use Rattle.mqtt5_broker.specs.Connection.{connection_at}

-- the sessions, numbered from 0; by the same numbers the client that has each, or none; the
-- connections; what each user may do; the shared subscriptions; the greatest packet identifier that is
-- used to a client (2.2.1); the greatest remaining length of what a client sends; for how many
-- milliseconds a connection may be open without a Connect, or 0 for any time; the greatest topic alias
-- of a client, or 0 for none; its longest keep alive in seconds, or 0 for any; what may be kept at most;
-- the last moment; the number of the next name that a client is given; and how many messages were let
-- go of queues that were too long
pub record Broker : Type 0 where
  pub sessions : Sessions
  pub members : List (Option Member)
  pub connections : List Connection
  pub rights : List Rights
  pub groups : List Group
  pub limit : ℕ
  pub longest : ℕ
  pub wait : ℕ
  pub alias_max : ℕ
  pub keep_alive_max : ℕ
  pub bounds : Bounds
  pub moment : ℕ
  pub next_name : ℕ
  pub dropped : ℕ

-- nothing is bounded
abbrev pub no_bounds : Bounds
no_bounds = record {
  clients = 18446744073709551615;
  subscriptions = 18446744073709551615;
  shared = 18446744073709551615;
  retained = 18446744073709551615;
  queued = 18446744073709551615;
  bytes = 18446744073709551615;
  oldest = false;
}

-- a moment has come; an earlier one than the last is taken for that
abbrev pub at_moment : ℕ → Broker → Broker
at_moment at b = record b { moment = max at b.moment }

-- ---- names

-- whether somebody has this name
abbrev pub is_named : Utf8 → Option Member → Bool
is_named name None = false
is_named name (Some m) = pointwise nat_eq m.name.bytes name.bytes

-- the number of the client with a name
abbrev pub number_of : Utf8 → List (Option Member) → Option ℕ
number_of name ms = position (is_named name) ms

-- the one of a number
abbrev pub member_at : ℕ → List (Option Member) → Option Member
member_at i ms = slice_index_or ms i None

-- the name of a client, or nothing
abbrev pub name_of : Option Member → List ℕ
name_of None = []
name_of (Some m) = m.name.bytes

abbrev pub name_in : Option ℕ → List (Option Member) → List ℕ
name_in None ms = []
name_in (Some i) ms = name_of (member_at i ms)

-- of the client of a connection
abbrev pub name_at : ℕ → Broker → List ℕ
name_at c b = name_in (connection_at c b.connections).client b.members

-- the name that a client is given that says none, by its number, and the next one (3.1.3.1)
abbrev pub assigned_name : ℕ → Utf8
assigned_name n = text_of (codes "auto-" ++ decimal n)

abbrev pub number_after : ℕ → ℕ
number_after n = min (n + 1) 18446744073709551615

-- ---- users

-- the one that a connection is of
abbrev pub user_at : ℕ → Broker → Option ℕ
user_at c b = (connection_at c b.connections).user

-- and the one whose session a client has
abbrev pub owner_of : Option Member → Option ℕ
owner_of None = None
owner_of (Some m) = m.owner

abbrev pub owner_at : ℕ → List (Option Member) → Option ℕ
owner_at i ms = owner_of (member_at i ms)

-- whether two are the same, or both are none
abbrev pub is_same : Option ℕ → Option ℕ → Bool
is_same None None = true
is_same (Some u) (Some v) = u == v
is_same other another = false

-- one user more, who may do nothing yet
abbrev pub knows_user : Broker → Broker
knows_user b = record b { rights = b.rights ++ no_rights ∷ [] }

-- one may do more
abbrev pub lets : ℕ → (Rights → Rights) → Broker → Broker
lets u f b = record b { rights = with_rights u f b.rights }

-- a number that nobody has
abbrev pub free_number : List (Option Member) → Option ℕ
free_number ms = position is_none ms

-- ---- how long a session stays

-- whether it does when its connection ends (3.1.2.11.2)
abbrev pub stays_of : Option Member → Bool
stays_of None = false
stays_of (Some m) = not (m.expiry == 0)

abbrev pub stays_at : ℕ → List (Option Member) → Bool
stays_at i ms = stays_of (member_at i ms)

-- whether the moment has come at which it ends
abbrev pub has_ended : ℕ → Option Member → Bool
has_ended now None = false
has_ended now (Some m) = has_come m.ends now

-- whether the one has come at which its will is published, if that waits (3.1.3.2.2)
abbrev pub will_is_due : ℕ → Option Member → Bool
will_is_due now None = false
will_is_due now (Some m) = has_come m.due now

-- the moment at which it ends, of a client that goes away at another: 4294967295 seconds are no end
abbrev pub end_of : ℕ → ℕ → Option ℕ
end_of expiry at = if expiry == 4294967295 then None else Some (seconds_after expiry at)

-- the one at which its will is published, if that has a delay (3.1.3.2.2)
abbrev pub due_of : ℕ → ℕ → Option ℕ
due_of delay at = if delay == 0 then None else Some (seconds_after delay at)

-- it goes away
abbrev pub away : ℕ → Member → Member
away at m = record m { ends = end_of m.expiry at; due = due_of m.delay at }

-- without its will
abbrev pub gone : ℕ → Member → Member
gone at m = record m { ends = end_of m.expiry at; due = None }

-- another expiry (3.14.2.2.2)
abbrev pub expiring : Option ℕ → Member → Member
expiring None m = m
expiring (Some expiry) m = record m { expiry = expiry }

-- its will isn't due any more
abbrev pub undue : Member → Member
undue m = record m { due = None }

-- one changes
abbrev pub on_member : ℕ → (Member → Member) → List (Option Member) → List (Option Member)
on_member i f ms = slice_set ms i (option_map f (member_at i ms))

-- ---- connections

-- one changes
abbrev pub on_connection : ℕ → (Connection → Connection) → Broker → Broker
on_connection c f b = record b { connections = with_connection c f b.connections }

-- ---- wills

-- the lifetime of a client's will begins at this moment, since it is published (3.1.3.2.4): of any,
-- or of one that has no delay
abbrev pub sessions_dated : Bool → ℕ → Broker → Sessions
sessions_dated any i b =
    dates i
    (option_map (begun (not any && will_is_delayed i b.sessions) b.moment)
    (will_expiry i b.sessions)) b.sessions

-- ---- ends

-- the session of a client ends, and nobody has its number (3.1.2.4); its turns go to others (4.8.2)
unfoldable pub forgets : ℕ → Broker → Broker
forgets i b = record b {
  sessions = sessions_without i b.groups (ends i (sessions_dated true i b));
  members = slice_set b.members i None;
  groups = groups_without i b.groups;
}

-- its connection is lost: its session stays, or ends (3.1.2.11.2)
unfoldable pub loses_client : ℕ → Broker → Broker
loses_client i b =
    if stays_at i b.members
    then record b {
      sessions = loses i (sessions_dated false i b);
      members = on_member i (away b.moment) b.members;
    }
    else forgets i b

-- it leaves: the same, without its will (3.14.4)
abbrev pub stays_or_ends : ℕ → Broker → Broker
stays_or_ends i b =
    if stays_at i b.members
    then record b { members = on_member i (gone b.moment) b.members }
    else forgets i b

unfoldable pub leaves_client : ℕ → Broker → Broker
leaves_client i b = stays_or_ends i (record b { sessions = leaves i b.sessions })

-- the will of one that is away is published (3.1.3.2.2)
unfoldable pub publishes_will : ℕ → Broker → Broker
publishes_will i b = record b {
  sessions = is_due i (sessions_dated true i b);
  members = on_member i undue b.members;
}

-- a client is told why its connection ends, which is lost then (4.13)
unfoldable pub refuses : ℕ → ℕ → DisconnectReasonCode → Broker → Broker
refuses c i reason b = on_connection c (told reason) (loses_client i b)

-- ---- numbers

-- one more client is known, by the first number that nobody has
abbrev pub numbers : Member → Option ℕ → Broker → Broker
numbers m None b = record b {
  sessions = joins b.limit b.sessions;
  members = b.members ++ Some m ∷ [];
}
numbers m (Some i) b = record b { members = slice_set b.members i (Some m) }

abbrev pub number_in : Option ℕ → Broker → ℕ
number_in None b = length b.members
number_in (Some i) b = i

-- ---- connections that end

-- one of a client, or of none, ends for a reason
abbrev pub dismisses_of : Option ℕ → ℕ → DisconnectReasonCode → Broker → Broker
dismisses_of None c reason b = on_connection c shut b
dismisses_of (Some i) c reason b = refuses c i reason b

-- so it does, where it is open
unfoldable pub dismisses : ℕ → DisconnectReasonCode → Broker → Broker
dismisses c reason b =
    if (connection_at c b.connections).is_open
    then dismisses_of (connection_at c b.connections).client c reason b else b
