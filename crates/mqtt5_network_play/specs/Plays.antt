-- This file serves the logic alone: a client of which nothing came, and what is to be done next for
-- one.
use Rattle.std.specs.Prelude.{◌≡◌, ◌==◌, ℕ, zero, suc, Bool, true, false, List, [], ◌∷◌, take, ⊤}
use Rattle.std.specs.Prelude.{Option, Some, None}
use Rattle.std.specs.List.{All}
use Rattle.mqtt5_publish.specs.declared.publish.Publish.{Publish}
use Rattle.mqtt5_codec.specs.declared.packet.Packet.{Packet}
use Rattle.mqtt5_inflight.specs.declared.event.Request.{Request}
use Rattle.mqtt5_inflight.specs.declared.event.Request.TheVariants as requests
use Rattle.mqtt5_session.specs.Session.{Session}
use Rattle.mqtt5_network.specs.declared.event.ClientEvent.{ClientEvent}
use Rattle.mqtt5_network.specs.declared.event.ClientEvent.TheVariants as events
use Rattle.mqtt5_network.specs.Client.{Client}
use Rattle.mqtt5_network.specs.Place.{Place, queues_at, AtRest}
use Rattle.mqtt5_network.specs.Network.{Network}
use Rattle.mqtt5_router.specs.Kept.{Kept}

-- a client with this session, for which this is kept, and of which nothing came
abbrev pub client_of : Session → Kept → Client
client_of session kept = record {
  session = session;
  receiver = record { ids = kept.ids; handed = [] };
  sender = kept.sender;
  up = [];
  down = [];
  accepted = [];
  subscriptions = kept.subscriptions;
  queue = kept.queue;
  taken = [];
  expired = [];
  lost = 0;
}

-- a request about subscriptions
abbrev pub IsAbout : Request → Type 0
IsAbout (requests.Subscribe p) = ⊤
IsAbout (requests.Unsubscribe p) = ⊤
IsAbout request = ⊥

-- what is to be done next of one that is here, by what is on the ways and in the queue
abbrev pub next_for : List Packet → List Packet → List Publish → Option ClientEvent
next_for (x ∷ up) down queue = Some events.Up
next_for [] (x ∷ down) queue = Some events.Down
next_for [] [] (p ∷ queue) = Some events.PassOn
next_for [] [] [] = None

-- of one that is away nothing is
abbrev pub next_at : Bool → List Packet → List Packet → List Publish → Option ClientEvent
next_at true up down queue = next_for up down queue
next_at false up down queue = None

abbrev pub next_of : Place → Option ClientEvent
next_of p = next_at p.here p.client.up p.client.down p.client.queue

-- a client that is here is at rest
abbrev pub RestsHere : Place → Type 0
RestsHere p = p.here ≡ true → AtRest p

-- so are the clients before a place
abbrev pub RestsBefore : ℕ → Network → Type 0
RestsBefore from n = All RestsHere (take from n.places)

-- the client at a place, alone, if there is one
abbrev pub at : ℕ → List Place → List Place
at i [] = []
at zero (p ∷ ps) = p ∷ []
at (suc i) (p ∷ ps) = at i ps

-- whether an event is the end of a session
abbrev pub is_end : ClientEvent → Bool
is_end events.Ends = true
is_end event = false

-- the clients, of which those before a place are changed, each by its place
abbrev pub before : ℕ → (ℕ → Place → Place) → List Place → List Place
before zero f ps = ps
before (suc k) f [] = []
before (suc k) f (p ∷ ps) = f 0 p ∷ before k (λ i. f (suc i)) ps

-- what goes into the queue of the client at a place, of publishes of the one at another
abbrev pub queues_of : ℕ → List Publish → ℕ → Place → Place
queues_of client xs i p = queues_at (i == client) xs p
