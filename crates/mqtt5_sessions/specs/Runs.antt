-- What happens to what a broker keeps of its clients, one event after another; and a network in which
-- the same happens (MQTT 5.0 sections 4.1 to 4.4).
use Rattle.std.specs.Prelude.{◌≡◌, ℕ, zero, suc, Bool, List, [], ◌∷◌, ◌++◌, length, map, Option, Some}
use Rattle.std.specs.Prelude.{None, slice_get, ⊤}
use Rattle.mqtt5_base.specs.Texts.{Utf8}
use Rattle.mqtt5_codec.specs.declared.packet.Packet.{Packet}
use Rattle.mqtt5_network.specs.declared.event.ClientEvent.{ClientEvent}
use Rattle.mqtt5_network.specs.declared.event.ClientEvent.TheVariants as events
use Rattle.mqtt5_network.specs.declared.event.NetworkEvent.{NetworkEvent}
use Rattle.mqtt5_network.specs.declared.event.Will.{Will}
use Rattle.mqtt5_network.specs.Place.{Place}
use Rattle.mqtt5_network.specs.Network.{Network, Profile, start_network, happens_in, run_network}
use Rattle.mqtt5_sessions.specs.Sessions.{Sessions, new_state, joins, arrives, passes, takes_out, loses}
use Rattle.mqtt5_sessions.specs.Sessions.{is_due, dates, turns, leaves, comes, ends}

-- ---- at the broker

-- what happens to the sessions, each to a client by its number: one more comes to be known, with the
-- greatest identifier to it; a packet of it arrives; the first of its queue is passed on, or has
-- expired; its connection is lost; the delay of its will has passed; its will has another Message
-- Expiry Interval; it is given the turn in a shared subscription, or that is taken from it; it leaves;
-- it comes on a new connection; its session ends
pub data SessionEvent : Type 0 where
  Joins : (limit : ℕ) → SessionEvent
  Arrives : (client : ℕ) (packet : Packet) → SessionEvent
  Passes : (client : ℕ) → SessionEvent
  TakesOut : (client : ℕ) → SessionEvent
  Loses : (client : ℕ) → SessionEvent
  IsDue : (client : ℕ) → SessionEvent
  Dates : (client : ℕ) (interval : Option ℕ) → SessionEvent
  Turns : (client : ℕ) (topic_filter : Utf8) (turn : Bool) → SessionEvent
  Leaves : (client : ℕ) → SessionEvent
  Comes : (client : ℕ) (receive_max : Option ℕ) (will : Option Will) → SessionEvent
  Ends : (client : ℕ) → SessionEvent

-- what comes of it
abbrev pub after_event : SessionEvent → Sessions → Sessions
after_event (Joins limit) s = joins limit s
after_event (Arrives i x) s = arrives i x s
after_event (Passes i) s = passes i s
after_event (TakesOut i) s = takes_out i s
after_event (Loses i) s = loses i s
after_event (IsDue i) s = is_due i s
after_event (Dates i n) s = dates i n s
after_event (Turns i f turn) s = turns i f turn s
after_event (Leaves i) s = leaves i s
after_event (Comes i m will) s = comes i m will s
after_event (Ends i) s = ends i s

abbrev pub after_events : List SessionEvent → Sessions → Sessions
after_events [] s = s
after_events (e ∷ es) s = after_events es (after_event e s)

-- no client is known, and nothing is retained
abbrev pub no_sessions : Sessions
no_sessions = record { clients = []; retained = [] }

-- ---- at the broker and at its clients

-- an event of the sessions, or one of a client alone
pub data RunEvent : Type 0 where
  AtBroker : (event : SessionEvent) → RunEvent
  AtClient : (event : NetworkEvent) → RunEvent

-- of a client alone: it asks for something, or the first packet on its way down arrives
abbrev pub IsOfClient : ClientEvent → Type 0
IsOfClient (events.Ask p) = ⊤
IsOfClient (events.Subscribe p) = ⊤
IsOfClient (events.Unsubscribe p) = ⊤
IsOfClient events.Down = ⊤
IsOfClient other = ⊥

-- the events of the sessions among them
abbrev pub at_broker : List RunEvent → List SessionEvent
at_broker [] = []
at_broker (AtBroker e ∷ es) = e ∷ at_broker es
at_broker (AtClient e ∷ es) = at_broker es

-- the greatest identifiers to the clients that come to be known in them, in order (2.2.1)
abbrev pub limit_of : SessionEvent → List ℕ
limit_of (Joins limit) = limit ∷ []
limit_of other = []

abbrev pub limits_in : List RunEvent → List ℕ
limits_in [] = []
limits_in (AtBroker e ∷ es) = limit_of e ++ limits_in es
limits_in (AtClient e ∷ es) = limits_in es

-- ---- a network in which the same happens

-- with clients that aren't known yet
abbrev pub with_new : List ℕ → Sessions → Sessions
with_new limits s = record s { clients = s.clients ++ map new_state limits }

-- before: each client that will ever be known is there, without a subscription, and away
abbrev pub all_lost : ℕ → List Profile → List NetworkEvent
all_lost i [] = []
all_lost i (p ∷ ps) = record { client = i; what = events.Lost } ∷ all_lost (suc i) ps

abbrev pub before : List Profile → Network
before ps = run_network (all_lost 0 ps) (start_network ps)

abbrev pub HaveNone : List Profile → Type 0
HaveNone [] = ⊤
HaveNone (p ∷ ps) = (p.subscriptions ≡ []) × HaveNone ps

-- events of the client of a number, if it is one of the first so many
abbrev pub within : ℕ → ℕ → List NetworkEvent → List NetworkEvent
within zero i es = []
within (suc count) zero es = es
within (suc count) (suc i) es = within count i es

abbrev pub to_client_in : ℕ → ℕ → ClientEvent → List NetworkEvent
to_client_in count i e = within count i (record { client = i; what = e } ∷ [])

-- what happens in the network, where so many clients are known. (A ConnAck says no receive maximum)
abbrev pub in_network : ℕ → SessionEvent → List NetworkEvent
in_network count (Joins limit) = []
in_network count (Arrives i x) = to_client_in count i events.Up
in_network count (Passes i) = to_client_in count i events.PassOn
in_network count (TakesOut i) = to_client_in count i events.Expire
in_network count (Loses i) = to_client_in count i events.Lost
in_network count (IsDue i) = to_client_in count i events.Due
in_network count (Dates i n) = to_client_in count i (events.Dated n)
in_network count (Turns i f turn) = to_client_in count i (events.Turn f turn)
in_network count (Leaves i) = to_client_in count i events.Left
in_network count (Comes i m will) = to_client_in count i (events.Back None m will)
in_network count (Ends i) = to_client_in count i events.Ends

-- and in all of it, from these sessions on
abbrev pub all_in_network : Sessions → List RunEvent → List NetworkEvent
all_in_network s [] = []
all_in_network s (AtBroker e ∷ es) =
    in_network (length s.clients) e ++ all_in_network (after_event e s) es
all_in_network s (AtClient e ∷ es) = e ∷ all_in_network s es

-- a packet that arrives is the first on its way up
abbrev pub IsFirst : Network → SessionEvent → Type 0
IsFirst n (Arrives i x) =
    (p : Place) × (way : List Packet) × (slice_get n.places i ≡ Some p) × (p.client.up ≡ x ∷ way)
IsFirst n other = ⊤

-- each is, there and then; and what is of a client alone is that
abbrev pub IsRun : Sessions → Network → List RunEvent → Type 0
IsRun s n [] = ⊤
IsRun s n (AtBroker e ∷ es) =
    IsFirst n e
    × IsRun (after_event e s) (run_network (in_network (length s.clients) e) n) es
IsRun s n (AtClient e ∷ es) = IsOfClient e.what × IsRun s (happens_in n e) es
