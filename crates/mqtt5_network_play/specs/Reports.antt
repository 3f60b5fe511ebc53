-- What is told of a network, and how often contents were shown to a client, by what is told (MQTT
-- 5.0 sections 3.3.4, 4.3 and 4.4).
use Rattle.std.specs.Prelude.{◌≡◌, ℕ, ◌+◌, ◌*◌, List, length, map, sum_by, count_by}
use Rattle.std.specs.Prelude.{true, false, [], Some, slice_get}
use Rattle.std.specs.List.{All}
use Rattle.mqtt5_publish.specs.declared.publish.Publish.{Publish}
use Rattle.mqtt5_world.specs.Delivery.{has_content}
use Rattle.mqtt5_network.specs.Receiver.{shown}
use Rattle.mqtt5_network.specs.declared.event.NetworkEvent.{NetworkEvent}
use Rattle.mqtt5_network.specs.declared.subscription.Subscription.{Subscription}
use Rattle.mqtt5_network.specs.Client.{routed}
use Rattle.mqtt5_network.specs.Place.{Place}
use Rattle.mqtt5_network.specs.Network.{Network, run_network}
use Rattle.mqtt5_network.specs.Granted.{Unchanged, reaching}
use Rattle.mqtt5_network.specs.Steps.{Steps, HereAtRest}
use Rattle.mqtt5_network_play.specs.declared.report.ClientReport.{ClientReport}
use Rattle.mqtt5_network_play.specs.declared.report.NetworkReport.{NetworkReport}

-- what is told of a client
abbrev pub told : Place → ClientReport
told p = record {
  shown = shown p.client.session;
  routed = routed p.client;
  expired = p.client.expired;
  accepted = p.client.accepted;
  willed = p.willed;
  subscriptions = p.client.subscriptions;
  here = p.here;
  lost = p.client.lost;
  up = length p.client.up;
  down = length p.client.down;
  queued = length p.client.queue;
}

-- and of all clients, with the sessions that ended
abbrev pub all_told : Network → NetworkReport
all_told n = record { clients = map told n.places; ended = map told n.ended }

-- by what is told a client is here, nothing is on its way to or from it, and its queue is empty
pub record ClientRests (c : ClientReport) : Type 0 where
  pub here : c.here ≡ true
  pub up : c.up ≡ 0
  pub down : c.down ≡ 0
  pub queued : c.queued ≡ 0

-- so it is with each client
abbrev pub Rests : NetworkReport → Type 0
Rests r = All ClientRests r.clients

-- so it is with each client that is here
abbrev pub HereRest : NetworkReport → Type 0
HereRest r = All (λ (c : ClientReport). c.here ≡ true → ClientRests c) r.clients

-- a client that keeps the subscriptions that it began with, none of them with No Local, while these
-- events happen, where no session ended
pub record KeepsAll
    (events : List NetworkEvent) (r : NetworkReport) (i : ℕ) (c : ClientReport) : Type 0
  where
    pub is_at : slice_get r.clients i ≡ Some c
    pub unchanged : Unchanged i events
    pub local : All (λ (s : Subscription). s.no_local ≡ false) c.subscriptions
    pub ended : r.ended ≡ []

-- how often publishes were accepted or published as a will, of these clients, that reach one with a
-- content under the subscriptions that it has
abbrev pub given_times : Publish → ClientReport → List ClientReport → ℕ
given_times k c ds =
    let reach = reaching c.subscriptions (has_content k) in
    sum_by (λ (d : ClientReport). count_by reach d.accepted + count_by reach d.willed) ds

-- so often at most they are shown: once, and once more for each new connection of the client that
-- published them, a will once, and all that once more for each new connection of this client (4.4)
abbrev pub most_times : Publish → ClientReport → List ClientReport → ℕ
most_times k c ds =
    let reach = reaching c.subscriptions (has_content k) in
    let most = λ (d : ClientReport). (d.lost + 1) * count_by reach d.accepted
    + count_by reach d.willed in
    (c.lost + 1) * sum_by most ds

-- steps alone, with no request, no loss and no new connection, make one network of another
pub record TakesSteps (old new : Network) : Type 0 where
  pub more : List NetworkEvent
  pub steps : Steps more
  pub same : new ≡ run_network more old

-- steps bring each client of a network that is here to rest, and then this is told
pub record SettlesTo (n : Network) (r : NetworkReport) : Type 0 where
  pub settled : Network
  pub steps : TakesSteps n settled
  pub rest : HereAtRest settled
  pub report : r ≡ all_told settled
