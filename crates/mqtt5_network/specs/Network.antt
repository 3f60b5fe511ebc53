-- A broker and its clients: what it hands on of one of them goes to each for which a subscription
-- of it then holds (MQTT 5.0 section 3.3.4).
use Rattle.std.specs.Prelude.{◌≡◌, ℕ, zero, suc, ◌+◌, ◌*◌, Bool, true, false, filter, List, []}
use Rattle.std.specs.Prelude.{◌∷◌, ◌++◌, length, drop, map, sum_by, count_by, None}
use Rattle.std.specs.List.{All}
use Rattle.std.specs.Ordering.{nat_cmp}
use Rattle.std.specs.FinMap.{get}
use Rattle.std.specs.FinSet as set
use Rattle.mqtt5_publish.specs.declared.publish.Publish.{Publish}
use Rattle.mqtt5_codec.specs.declared.packet.Packet.{Packet}
use Rattle.mqtt5_session.specs.Session.{Core}
use Rattle.mqtt5_world.specs.Delivery.{Token, is_token_up, is_token_down, stored_in, waiting_in}
use Rattle.mqtt5_progress.specs.Progress.{IsIdle}
use Rattle.mqtt5_network.specs.Connection.{sent, kept_at}
use Rattle.mqtt5_network.specs.declared.subscription.Subscription.{Subscription}
use Rattle.mqtt5_network.specs.declared.event.ClientEvent.{ClientEvent}
use Rattle.mqtt5_network.specs.declared.event.NetworkEvent.{NetworkEvent}
use Rattle.mqtt5_network.specs.Asking.{acks}
use Rattle.mqtt5_network.specs.Client.{Client, new_client}
use Rattle.mqtt5_network.specs.Place.{Place, happens_at, becomes_with, ends_of, queues_at, AtRest}

-- ---- runs

-- the clients with the sessions that they have, the sessions that ended, as they were then, and the
-- publishes that the broker handed on, of all clients and of all wills, in order
pub record Network : Type 0 where
  pub places : List Place
  pub ended : List Place
  pub handed : List Publish

-- what a client begins with: the greatest id that it uses, the greatest that the broker uses to it
-- (2.2.1), and the subscriptions that the broker has of it
pub record Profile : Type 0 where
  pub limit : ℕ
  pub sender_limit : ℕ
  pub subscriptions : List Subscription

-- such a client, connected without a will
abbrev pub begins : Profile → Place
begins p = record {
  client = new_client p.limit p.sender_limit p.subscriptions;
  here = true;
  will = None;
  willed = [];
}

-- no client has sent anything
abbrev pub start_network : List Profile → Network
start_network ps = record { places = map begins ps; ended = []; handed = [] }

-- the clients, of which the one at a place changes
abbrev pub changed : ℕ → (Place → Place) → List Place → List Place
changed i f [] = []
changed zero f (p ∷ ps) = f p ∷ ps
changed (suc i) f (p ∷ ps) = p ∷ changed i f ps

-- what the broker hands on of one: what came from it, and its will
abbrev pub new_of : Place → Place → List Publish
new_of p q =
    drop (length p.client.receiver.handed) q.client.receiver.handed
    ++ drop (length p.willed) q.willed

-- of the one at a place
abbrev pub newly : ℕ → (Place → Place) → List Place → List Publish
newly i f [] = []
newly zero f (p ∷ ps) = new_of p (f p)
newly (suc i) f (p ∷ ps) = newly i f ps

-- publishes that are handed on go into the queues; they are of the client at the place
abbrev pub routes : ℕ → List Publish → List Place → List Place
routes i xs [] = []
routes zero xs (p ∷ ps) = queues_at true xs p ∷ map (queues_at false xs) ps
routes (suc i) xs (p ∷ ps) = queues_at false xs p ∷ routes i xs ps

-- what the broker hands on in an event
abbrev pub handed_by : Network → NetworkEvent → List Publish
handed_by n e = newly e.client (λ p. happens_at p e.what) n.places

-- the session that ends at a place, if one does
abbrev pub ends_at : ℕ → ClientEvent → List Place → List Place
ends_at i e [] = []
ends_at zero e (p ∷ ps) = ends_of p e
ends_at (suc i) e (p ∷ ps) = ends_at i e ps

-- an event
abbrev pub happens_in : Network → NetworkEvent → Network
happens_in n e = record {
  places =
      routes e.client (handed_by n e)
      (changed e.client (becomes_with n.handed e.what) n.places);
  ended = n.ended ++ ends_at e.client e.what n.places;
  handed = n.handed ++ handed_by n e;
}

-- the events, one after another
abbrev pub run_network : List NetworkEvent → Network → Network
run_network [] n = n
run_network (e ∷ es) n = run_network es (happens_in n e)

-- a network that events make of one in which no client has sent anything
pub record IsReached (n : Network) : Type 0 where
  pub profiles : List Profile
  pub events : List NetworkEvent
  pub reached : n ≡ run_network events (start_network profiles)

-- all clients are here, and at rest
abbrev pub AllAtRest : Network → Type 0
AllAtRest n = All AtRest n.places

-- neither side of a client's connection stores a publish, lets one wait, or awaits a release (4.3)
pub record IsDone (c : Client) : Type 0 where
  pub session : IsIdle c.session.core
  pub sender : IsIdle c.sender.core
  pub ids : (id : ℕ) → set.contains c.receiver.ids id ≡ false
  pub incoming : (id : ℕ) → set.contains c.session.core.incoming id ≡ false

-- ---- counts

-- how often publishes that pass a test were accepted by these sessions, or published as their wills
abbrev pub given_by : List Place → (Publish → Bool) → ℕ
given_by ps test =
    sum_by (λ (p : Place). count_by test p.client.accepted + count_by test p.willed) ps

-- by all sessions, also those that ended
abbrev pub given_in : Network → (Publish → Bool) → ℕ
given_in n test = given_by n.places test + given_by n.ended test

-- so often at most the broker hands them on: once, and once more for each new connection of the
-- client that published them, and a will once (4.4)
abbrev pub most_by : List Place → (Publish → Bool) → ℕ
most_by ps test =
    sum_by (λ (p : Place). (p.client.lost + 1) * count_by test p.client.accepted
    + count_by test p.willed) ps

abbrev pub most_in : Network → (Publish → Bool) → ℕ
most_in n test = most_by n.places test + most_by n.ended test

-- how often they are on their way to the broker: waiting at the client that published them, or
-- stored there under an id that the broker doesn't have (4.3.3)
abbrev pub kept_by : List Place → (Publish → Bool) → ℕ
kept_by ps test =
    sum_by (λ (p : Place). kept_at p.client.receiver.ids p.client.session.core test) ps

-- so of the sessions that ended: they took these along
abbrev pub lost_in : Network → (Publish → Bool) → ℕ
lost_in n test = kept_by n.ended test

-- of these sessions, how often they await an ack, or wait for their id (4.3.2)
abbrev pub unacked_by : List Place → (Publish → Bool) → ℕ
unacked_by ps test =
    sum_by (λ (p : Place). count_by test (stored_in p.client.session.core)
    + count_by test (waiting_in p.client.session.core)) ps

-- so of the sessions that ended
abbrev pub unacked_in : Network → (Publish → Bool) → ℕ
unacked_in n test = unacked_by n.ended test

-- ---- tokens

-- the token of an id, by what its sender and its receiver know of it, on the ways there and back
-- (4.3)
abbrev pub TokenOn : ℕ → Core → set.FinSet nat_cmp → List Packet → List Packet → Type 0
TokenOn id sender ids there back =
    Token id (get sender.in_use id) (set.contains ids id)
    (filter (is_token_up id) (sent there))
    (filter (is_token_down id) (acks back))

-- each id in use by a publish has one token on its way, and a free one none: an id of the client's
-- session, and one of the broker's to it (4.3)
pub record HasTokens (c : Client) (id : ℕ) : Type 0 where
  pub session : TokenOn id c.session.core c.receiver.ids c.up c.down
  pub sender : TokenOn id c.sender.core c.session.core.incoming c.down c.up
