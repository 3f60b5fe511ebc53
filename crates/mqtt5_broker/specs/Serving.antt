-- What a broker makes of the packets of its clients (MQTT 5.0 sections 3.1.2.10, 3.1.4, 3.2, 3.3.2.3.3,
-- 3.3.2.3.4, 3.12, 3.14, 4.8.2, 4.13 and 5.4.2).
use Rattle.std.specs.Prelude.{ℕ, ◌*◌, ◌==◌, nat_lt, Bool, true, false, not, ◌||◌, List, [], ◌∷◌}
use Rattle.std.specs.Prelude.{Option, Some, None, option_map, if◌then◌else◌, slice_set, length, map}
use Rattle.std.specs.Option.{option_to_list}
use Rattle.mqtt5_base.specs.Texts.{Utf8}
use Rattle.mqtt5_connect.specs.declared.connect.Connect.{Connect}
use Rattle.mqtt5_connect.specs.declared.connect.ConnectProperties.{ConnectProperties}
use Rattle.mqtt5_connect.specs.declared.will.LastWill.{LastWill}
use Rattle.mqtt5_control.specs.ConnAcks.{no_connack_properties}
use Rattle.mqtt5_control.specs.declared.connack.ConnAckProperties.{ConnAckProperties}
use Rattle.mqtt5_control.specs.declared.connack.ConnectReturnCode.{ConnectReturnCode}
use Rattle.mqtt5_control.specs.declared.connack.ConnectReturnCode.TheVariants as return_codes
use Rattle.mqtt5_control.specs.declared.disconnect.DisconnectReasonCode.{DisconnectReasonCode}
use Rattle.mqtt5_control.specs.declared.disconnect.DisconnectReasonCode.TheVariants as reasons
use Rattle.mqtt5_codec.specs.declared.packet.Packet.{Packet}
use Rattle.mqtt5_codec.specs.declared.packet.Packet.TheVariants as packets
use Rattle.mqtt5_sessions.specs.Sessions.{arrives, replies, comes, sent_again, ends}
use Rattle.mqtt5_sessions.specs.Sessions.{passes, passed, takes_out}
use Rattle.mqtt5_sessions.specs.Expiry.{message_expiry}
use Rattle.mqtt5_broker.specs.declared.member.Member.{Member}
use Rattle.mqtt5_broker.specs.declared.serving.Kind.{Kind}
use Rattle.mqtt5_broker.specs.declared.serving.Kind.TheVariants as kinds
use Rattle.mqtt5_broker.specs.Connection.{Connection, written, written_all, shut, told}
use Rattle.mqtt5_broker.specs.Connection.{connection_at, connection_of, heard, taken_by}
use Rattle.mqtt5_broker.specs.Connection.{learned, learned_topic}
use Rattle.mqtt5_broker.specs.Aliases.{alias_used, unaliased, named}
use Rattle.mqtt5_broker.specs.Expiry.{is_over, dated, counted}
use Rattle.mqtt5_broker.specs.Reasons.{rejection}
use Rattle.mqtt5_broker.specs.Broker.{Broker, at_moment, number_of, free_number, on_connection}
use Rattle.mqtt5_broker.specs.Broker.{on_member, sessions_dated}
use Rattle.mqtt5_broker.specs.Broker.{loses_client, leaves_client, refuses, stays_at, expiring}
use Rattle.mqtt5_broker.specs.Broker.{member_at, has_ended, numbers, number_in}
use Rattle.mqtt5_broker.specs.Broker.{assigned_name, number_after, user_at, owner_at, is_same}
use Rattle.mqtt5_broker.specs.Rights.{may_do, denial, suback_for, part_of, will_denial}
use Rattle.mqtt5_broker.specs.Groups.{groups_before, sessions_before, groups_after, sessions_after}
use Rattle.mqtt5_broker.specs.Groups.{groups_without, sessions_without}
use Rattle.mqtt5_broker.specs.Wills.{will_of, delay_in}
use Rattle.mqtt5_broker.specs.Judging.{first_of, client_fault, first_code, connect_fault}
use Rattle.mqtt5_broker.specs.Judging.{new_expiry}
use Rattle.mqtt5_broker.specs.Bounds.{has_room, quota_fault}

-- ---- a client that is connected

-- whether there are any
abbrev pub has_any : List Packet → Bool
has_any [] = false
has_any (p ∷ ps) = true

-- whether a packet is answered
abbrev pub answers : ℕ → Packet → Broker → Bool
answers i x b = has_any (replies i x (sessions_before x b.groups b.sessions))

-- a packet comes to its session, where a publish finds the turns of shared subscriptions with the next
-- ones, and a Subscribe or an Unsubscribe changes who takes part (4.3, 4.8.2)
abbrev pub comes_to_session : ℕ → Packet → Broker → Broker
comes_to_session i x b = record b {
  sessions =
      sessions_after (answers i x b) i x (groups_before x b.groups b.sessions)
      (arrives i x (sessions_before x b.groups b.sessions));
  groups = groups_after (answers i x b) i x (groups_before x b.groups b.sessions);
}

-- and what is sent back is written
unfoldable pub arrives_from : ℕ → ℕ → Packet → Broker → Broker
arrives_from c i x b =
    on_connection c
    (written_all (map (counted b.moment) (replies i x (sessions_before x b.groups b.sessions))))
    (comes_to_session i x b)

-- it asks for more than its user may do: a publish comes to no session, and of a Subscribe what the user
-- may subscribe to does
unfoldable pub denies : Option ℕ → ℕ → ℕ → Packet → Broker → Broker
denies user c i (packets.Publish p) b =
    on_connection c (written_all (option_to_list (denial p.qos p.pkid))) b
denies user c i (packets.Subscribe s) b =
    on_connection c (written (suback_for user b.rights s))
    (comes_to_session i (packets.Subscribe (part_of user b.rights s)) b)
denies user c i other b = b

-- what it asks for is done, where the user whose session it has may do that
unfoldable pub brings : ℕ → ℕ → Packet → Broker → Broker
brings c i x b =
    if may_do (owner_at i b.members) b.rights x then arrives_from c i x b
    else denies (owner_at i b.members) c i x b

-- a Disconnect: with reason 0 its will is dropped (3.14.4)
abbrev pub goes : DisconnectReasonCode → ℕ → Broker → Broker
goes reasons.NormalDisconnection i b = leaves_client i b
goes other i b = loses_client i b

-- and its session ends after so many seconds, where it says so (3.14.2.2.2)
unfoldable pub disconnects : ℕ → ℕ → DisconnectReasonCode → Option ℕ → Broker → Broker
disconnects c i reason expiry b =
    on_connection c shut
    (goes reason i (record b { members = on_member i (expiring expiry) b.members }))

-- what a packet asks for: an answer (3.12), the end of the connection (3.14), or something of the
-- client's session
abbrev pub kind_of : Packet → Kind
kind_of (packets.PingReq r) = kinds.Ping
kind_of (packets.Disconnect d) = kinds.Goodbye d.reason_code (new_expiry d.properties)
kind_of other = kinds.Message

-- a packet that isn't refused
abbrev pub serves_as : Kind → ℕ → ℕ → Packet → Broker → Broker
serves_as kinds.Ping c i x b = on_connection c (written (packets.PingResp (record {}))) b
serves_as (kinds.Goodbye reason expiry) c i x b = disconnects c i reason expiry b
serves_as kinds.Message c i x b = brings c i x b

-- one that may be
abbrev pub serves_by : Option DisconnectReasonCode → ℕ → ℕ → Packet → Broker → Broker
serves_by (Some reason) c i x b = refuses c i reason b
serves_by None c i x b = serves_as (kind_of x) c i x b

-- why one is refused, if it is: by itself, or since it asks for more than may be kept
unfoldable pub fault_of : ℕ → Packet → Broker → Option DisconnectReasonCode
fault_of i x b = first_of (client_fault (stays_at i b.members) x) (quota_fault i x b)

unfoldable pub serves : ℕ → ℕ → Packet → Broker → Broker
serves c i x b = serves_by (fault_of i x b) c i x b

-- ---- a Connect

abbrev pub or_else : ℕ → Option ℕ → ℕ
or_else n None = n
or_else n (Some m) = m

-- what it says of its session: after how many seconds that ends (3.1.2.11.2)
abbrev pub expiry_of : Option ConnectProperties → ℕ
expiry_of None = 0
expiry_of (Some set) = or_else 0 set.session_expiry_interval

-- how many publishes it takes ahead of their acks (3.1.2.11.3)
abbrev pub receive_max_of : Option ConnectProperties → ℕ
receive_max_of None = 65535
receive_max_of (Some set) = or_else 65535 set.receive_maximum

-- and the longest packet (3.1.2.11.4)
abbrev pub longest_of : Option ConnectProperties → Option ℕ
longest_of None = None
longest_of (Some set) = set.max_packet_size

-- the keep alive that it is told, where it asks for none, or for a longer one than the longest
-- (3.2.2.3.14)
abbrev pub told_keep_alive : ℕ → ℕ → Option ℕ
told_keep_alive most asked =
    if most == 0 then None else if asked == 0 || nat_lt most asked then Some most else None

-- for how many milliseconds it may be silent: one and a half times its keep alive (3.1.2.10)
abbrev pub silence_of : ℕ → Connect → ℕ
silence_of most k = 1500 * or_else k.keep_alive (told_keep_alive most k.keep_alive)

-- by what it is known that says this, of a user
abbrev pub member_of : Option ℕ → Connect → Option LastWill → Member
member_of user k will = record {
  name = k.client_id;
  owner = user;
  expiry = expiry_of k.properties;
  delay = delay_in will;
  ends = None;
  due = None;
}

-- what is told of a number, of which 0 says nothing
abbrev pub if_any : ℕ → Option ℕ
if_any n = if n == 0 then None else Some n

-- the name that the client is given, if it said none (3.2.2.3.7)
abbrev pub given_name : Bool → Utf8 → Option Utf8
given_name given name = if given then Some name else None

-- what a ConnAck says (3.2.2.3.6, 3.2.2.3.8, 3.2.2.3.14)
abbrev pub offers : Bool → Connect → Broker → ConnAckProperties
offers given k b = record no_connack_properties {
  max_packet_size = if_any b.longest;
  assigned_client_identifier = given_name given k.client_id;
  topic_alias_max = if_any b.alias_max;
  server_keep_alive = told_keep_alive b.keep_alive_max k.keep_alive;
}

-- whether the broker has a session of the client (3.2.2.1.1)
abbrev pub connack : Bool → Bool → Connect → Broker → Packet
connack present given k b =
    packets.ConnAck
    (record {
      session_present = present;
      code = return_codes.Success;
      properties = Some (offers given k b);
    })

-- the first packets to a client that is taken: the answer, and what its session sends again (4.4)
abbrev pub welcome : ℕ → Bool → Bool → Connect → Broker → List Packet
welcome i present given k b =
    connack present given k b
    ∷ map (counted b.moment) (sent_again i (Some (receive_max_of k.properties)) b.sessions)

-- it is taken, and sent these; the will of a connection that it still had is published, unless it has a
-- delay (3.1.4)
unfoldable pub comes_in : ℕ → ℕ → Bool → Bool → Connect → Option LastWill → Broker → Broker
comes_in c i present given k will b =
    on_connection c
    (λ (l : Connection).
    written_all (welcome i present given k b)
    (taken_by i (longest_of k.properties) (silence_of b.keep_alive_max k) b.moment l))
    (record b {
      sessions =
          comes i (Some (receive_max_of k.properties)) (option_map will_of will)
          (sessions_dated false i b);
    })

-- the connection that it has is told that another takes its place (3.1.4)
abbrev pub displaced : Option ℕ → Broker → Broker
displaced None b = b
displaced (Some d) b = on_connection d (told reasons.SessionTakenOver) b

unfoldable pub displaces : ℕ → Broker → Broker
displaces i b = displaced (connection_of i b.connections) b

-- whether its session starts anew: it asks for that (3.1.2.4), or the one that it has ends with its
-- connection, or should have ended by now (3.1.2.11.2)
abbrev pub starts_anew : ℕ → Connect → Broker → Bool
starts_anew i k b =
    k.clean_start || not (stays_at i b.members) || has_ended b.moment (member_at i b.members)

-- then that one ends; and it is known by what it says now, of the same user
unfoldable pub begins : ℕ → Bool → Connect → Option LastWill → Broker → Broker
begins i anew k will b = record b {
  sessions =
      if anew then sessions_without i b.groups (ends i (sessions_dated true i b))
      else b.sessions;
  members = slice_set b.members i (Some (member_of (owner_at i b.members) k will));
  groups = if anew then groups_without i b.groups else b.groups;
}

-- one that is known
abbrev pub returns : ℕ → ℕ → Connect → Option LastWill → Broker → Broker
returns c i k will b =
    comes_in c i (not (starts_anew i k b)) false k will
    (begins i (starts_anew i k b) k will (displaces i b))

-- one that isn't, which may have been given its name
unfoldable pub enters : ℕ → Bool → Connect → Option LastWill → Broker → Broker
enters c given k will b =
    comes_in c (number_in (free_number b.members) b) false given k will
    (numbers (member_of (user_at c b) k will) (free_number b.members) b)

-- a Connect is refused by this
abbrev pub turns_away : ℕ → Packet → Broker → Broker
turns_away c answer b = on_connection c (λ (l : Connection). shut (written answer l)) b

-- what it is told, by the longest packet that it takes (3.1.2.11.4, 3.2.2.2)
abbrev pub rejects_by : Connect → ConnectReturnCode → Packet
rejects_by k code = rejection (longest_of k.properties) code

-- one more client enters, where there is room for it
abbrev pub enters_if_room : ℕ → Bool → Connect → Option LastWill → Broker → Broker
enters_if_room c given k will b =
    if has_room b then enters c given k will b
    else turns_away c (rejects_by k return_codes.QuotaExceeded) b

-- one that says no name is given the next one, unless somebody has that (3.1.3.1)
abbrev pub assigns_by : Option ℕ → ℕ → Connect → Option LastWill → Broker → Broker
assigns_by (Some i) c k will b = turns_away c (rejects_by k return_codes.ServerBusy) b
assigns_by None c k will b = enters_if_room c true k will b

unfoldable pub assigns : ℕ → Connect → Option LastWill → Broker → Broker
assigns c k will b =
    assigns_by (number_of (assigned_name b.next_name) b.members) c
    (record k { client_id = assigned_name b.next_name }) will
    (record b { next_name = number_after b.next_name })

-- whether the session of a number is of the same user as a connection, or both are of none
abbrev pub is_its : ℕ → ℕ → Broker → Bool
is_its c i b = is_same (user_at c b) (owner_at i b.members)

-- one that is known has its session, unless that is another user's (5.4.2)
abbrev pub returns_to_its : ℕ → ℕ → Connect → Option LastWill → Broker → Broker
returns_to_its c i k will b =
    if is_its c i b then returns c i k will b
    else turns_away c (rejects_by k return_codes.ClientIdentifierNotValid) b

abbrev pub admits_as : Option ℕ → ℕ → Connect → Option LastWill → Broker → Broker
admits_as (Some i) c k will b = returns_to_its c i k will b
admits_as None c k will b = enters_if_room c false k will b

-- one that isn't refused
unfoldable pub admits : ℕ → Connect → Option LastWill → Broker → Broker
admits c k will b =
    if length k.client_id.bytes == 0 then assigns c k will b
    else admits_as (number_of k.client_id b.members) c k will b

abbrev pub connects_by : Option ConnectReturnCode → ℕ → Connect → Option LastWill → Broker → Broker
connects_by (Some code) c k will b = turns_away c (rejects_by k code) b
connects_by None c k will b = admits c k will b

-- why it is refused, if it is: by itself, or since its user may not publish its will
unfoldable pub entry_fault : ℕ → Connect → Option LastWill → Broker → Option ConnectReturnCode
entry_fault c k will b =
    first_code (connect_fault k will) (will_denial (user_at c b) b.rights will)

unfoldable pub connects : ℕ → Connect → Option LastWill → Broker → Broker
connects c k will b = connects_by (entry_fault c k will b) c k will b

-- ---- any packet

-- the first on a connection is a Connect (3.1.0)
abbrev pub begins_with : ℕ → Packet → Broker → Broker
begins_with c (packets.Connect k will login) b = connects c k will b
begins_with c other b = on_connection c shut b

-- a publish that uses an alias: with a topic it lets the alias stand for that on its connection, and
-- otherwise it has the topic that the alias stands for (3.3.2.3.4)
abbrev pub takes_under : ℕ → ℕ → ℕ → Packet → Broker → Broker
takes_under a c i (packets.Publish p) b =
    if length p.topic == 0
    then serves c i (packets.Publish (named (learned_topic a (connection_at c b.connections)) p)) b
    else serves c i (packets.Publish (unaliased p)) (on_connection c (learned a p.topic) b)
takes_under a c i other b = serves c i other b

abbrev pub takes_by : Option ℕ → ℕ → ℕ → Packet → Broker → Broker
takes_by None c i x b = serves c i x b
takes_by (Some a) c i x b = takes_under a c i x b

abbrev pub takes_of : Option ℕ → ℕ → Packet → Broker → Broker
takes_of None c x b = begins_with c x b
takes_of (Some i) c x b = takes_by (alias_used b.alias_max x) c i (dated b.moment x) b

-- on a connection that takes none it does nothing; and otherwise that is heard
abbrev pub takes_at : Connection → ℕ → Packet → Broker → Broker
takes_at l c x b =
    if l.is_open then takes_of l.client c x (on_connection c (heard b.moment) b) else b

unfoldable pub takes : ℕ → Packet → Broker → Broker
takes c x b = takes_at (connection_at c b.connections) c x b

-- ---- what is sent

-- whether the first of a client's queue has expired (3.3.2.3.3)
abbrev pub first_is_over : ℕ → Broker → Bool
first_is_over i b = is_over b.moment (message_expiry i b.sessions)

-- then it is taken out; otherwise it is passed on, and what its session sends of it is written (3.3.4)
abbrev pub passes_of : Option ℕ → ℕ → Broker → Broker
passes_of None c b = b
passes_of (Some i) c b =
    if first_is_over i b then record b { sessions = takes_out i b.sessions }
    else on_connection c (written_all (map (counted b.moment) (passed i b.sessions)))
    (record b { sessions = passes i b.sessions })

unfoldable pub passes_on : ℕ → Broker → Broker
passes_on c b = passes_of (connection_at c b.connections).client c b

-- at a moment
abbrev pub passes_at : ℕ → ℕ → Broker → Broker
passes_at at c b = passes_on c (at_moment at b)

-- whether there is a first one that has expired, or of which something is sent
abbrev pub has_passed_of : Option ℕ → Broker → Bool
has_passed_of None b = false
has_passed_of (Some i) b = first_is_over i b || has_any (passed i b.sessions)

abbrev pub has_passed : ℕ → Broker → Bool
has_passed c b = has_passed_of (connection_at c b.connections).client b
