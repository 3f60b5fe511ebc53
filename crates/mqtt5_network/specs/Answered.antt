-- What a client asks for about its subscriptions, and how many answers it is told of (MQTT 5.0
-- sections 3.8 to 3.11 and 4.4).
use Rattle.std.specs.Prelude.{◌≡◌, ℕ, Bool, true, false, count_by, List, [], ◌∷◌, ◌++◌, slice_get}
use Rattle.std.specs.Prelude.{Option, Some, None, ◌==◌, if◌then◌else◌}
use Rattle.mqtt5_codec.specs.declared.packet.Packet.{Packet}
use Rattle.mqtt5_codec.specs.declared.packet.Packet.TheVariants as packets
use Rattle.mqtt5_inflight.specs.declared.event.Event.{Event}
use Rattle.mqtt5_inflight.specs.declared.event.Event.TheVariants as session_events
use Rattle.mqtt5_inflight.specs.declared.event.Request.TheVariants as requests
use Rattle.mqtt5_session.specs.Session.{Session}
use Rattle.mqtt5_session.specs.Requests.{on_request}
use Rattle.mqtt5_network.specs.Connection.{reply_in}
use Rattle.mqtt5_network.specs.declared.subscription.Subscription.{Subscription}
use Rattle.mqtt5_network.specs.declared.event.ClientEvent.{ClientEvent}
use Rattle.mqtt5_network.specs.declared.event.ClientEvent.TheVariants as events
use Rattle.mqtt5_network.specs.declared.event.NetworkEvent.{NetworkEvent}
use Rattle.mqtt5_network.specs.Asking.{subscriptions_after, others}
use Rattle.mqtt5_network.specs.Client.{Client}
use Rattle.mqtt5_network.specs.Place.{Place}
use Rattle.mqtt5_network.specs.Network.{Network, happens_in}

-- ---- what a client is told

-- whether an event tells of the answer to a request about subscriptions (3.9, 3.11)
abbrev pub is_answer : Event → Bool
is_answer (session_events.Incoming (packets.SubAck p)) = true
is_answer (session_events.Incoming (packets.UnsubAck p)) = true
is_answer event = false

-- of how many answers a session told
abbrev pub answers_told : Session → ℕ
answers_told s = count_by is_answer s.events

-- ---- what it asks for

-- the request about subscriptions that a session sends in an event: none where it refuses it (3.8,
-- 3.10)
abbrev pub asked_by : ClientEvent → Session → List Packet
asked_by (events.Subscribe p) s = reply_in (on_request s (requests.Subscribe p) 0).0
asked_by (events.Unsubscribe p) s = reply_in (on_request s (requests.Unsubscribe p) 0).0
asked_by event s = []

-- so of the client at a place, if there is one
abbrev pub asked_at : ClientEvent → Option Place → List Packet
asked_at event (Some p) = asked_by event p.client.session
asked_at event None = []

-- all that the client at a place sends of them in these events, in order, also what goes nowhere
-- since it is away, or is lost on its way (4.4)
abbrev pub asked_in : ℕ → List NetworkEvent → Network → List Packet
asked_in i [] n = []
asked_in i (e ∷ es) n =
    (if i == e.client then asked_at e.what (slice_get n.places i) else [])
    ++ asked_in i es (happens_in n e)

-- what requests make of subscriptions, in order (3.8.4, 3.10.4)
abbrev pub subscriptions_by : List Packet → List Subscription → List Subscription
subscriptions_by [] ss = ss
subscriptions_by (x ∷ xs) ss = subscriptions_by xs (subscriptions_after ss x)

-- ---- what is on its way

-- no request about a client's subscriptions is on its way to the broker, and no answer to the
-- client
pub record IsClear (c : Client) : Type 0 where
  pub up : others c.up ≡ []
  pub down : others c.down ≡ []
