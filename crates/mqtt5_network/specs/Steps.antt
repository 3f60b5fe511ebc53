-- Steps of a network, with no request, no loss and no new connection, and how many of them are left
-- (MQTT 5.0 sections 4.3 and 4.4).
use Rattle.std.specs.Prelude.{◌≡◌, ℕ, zero, suc, ◌+◌, ◌-◌, ◌*◌, Bool, true, false, List, [], ◌∷◌}
use Rattle.std.specs.Prelude.{length, sum_by, ⊤}
use Rattle.std.specs.List.{All}
use Rattle.mqtt5_codec.specs.declared.packet.Packet.{Packet}
use Rattle.mqtt5_codec.specs.declared.packet.Packet.TheVariants as packets
use Rattle.mqtt5_session.specs.Session.{Session}
use Rattle.mqtt5_progress.specs.Progress.{work_up, work_down, work_waiting, found}
use Rattle.mqtt5_network.specs.Connection.{sent}
use Rattle.mqtt5_network.specs.declared.event.ClientEvent.{ClientEvent}
use Rattle.mqtt5_network.specs.declared.event.ClientEvent.TheVariants as events
use Rattle.mqtt5_network.specs.declared.event.NetworkEvent.{NetworkEvent}
use Rattle.mqtt5_network.specs.Asking.{acks, others}
use Rattle.mqtt5_network.specs.Client.{Client}
use Rattle.mqtt5_network.specs.Place.{Place, happens_at, AtRest}
use Rattle.mqtt5_network.specs.Network.{Network, happens_in}

-- a delivery, or the first publish of a queue is passed on
abbrev pub IsStep : ClientEvent → Type 0
IsStep events.Up = ⊤
IsStep events.Down = ⊤
IsStep events.PassOn = ⊤
IsStep event = ⊥

-- events that are steps alone
abbrev pub Steps : List NetworkEvent → Type 0
Steps [] = ⊤
Steps (e ∷ es) = IsStep e.what × Steps es

-- ---- what is left to do

-- how many deliveries a sender's packets on their way, the acks to it, and the publish that waits
-- still take at most (4.3)
abbrev pub flow_work : List Packet → List Packet → Session → ℕ
flow_work there back s =
    sum_by work_up (sent there) + sum_by work_down (acks back) + work_waiting s.core.waiting

-- so of what a client sends
abbrev pub work_from : Client → ℕ
work_from c = flow_work c.up c.down c.session

-- of what is about subscriptions: a request and its answer (3.8.4)
abbrev pub work_about : Client → ℕ
work_about c = 2 * length (others c.up) + length (others c.down)

-- how many filters a packet asks for subscriptions to
abbrev pub filters_in : Packet → ℕ
filters_in (packets.Subscribe p) = length p.filters
filters_in other = 0

-- so of all that are on their way to the broker
abbrev pub filters_up : Client → ℕ
filters_up c = sum_by filters_in (others c.up)

-- and of what goes to it: five steps for each publish of its queue, and the deliveries
abbrev pub work_to : Client → ℕ
work_to c = 5 * length c.queue + flow_work c.down c.up c.sender + work_about c

-- of one that is away no step is left
abbrev pub if_here : Bool → ℕ → ℕ
if_here true n = n
if_here false n = 0

abbrev pub left_from : Place → ℕ
left_from p = if_here p.here (work_from p.client)

abbrev pub left_to : Place → ℕ
left_to p = if_here p.here (work_to p.client)

abbrev pub left_asked : Place → ℕ
left_asked p = if_here p.here (filters_up p.client)

-- how many steps are left at most: a delivery to the broker may hand a publish on, which then goes
-- into each queue; and a filter that is asked for may bring a copy of each that was handed on by
-- then
abbrev pub work_left : Network → ℕ
work_left n =
    (5 * length n.places + 1) * sum_by left_from n.places + sum_by left_to n.places
    + 5 * (sum_by left_asked n.places * (length n.handed + sum_by left_from n.places))

-- ---- steps that find something to do

-- one where an event of a client finds something: a packet, or a publish that is passed on
abbrev pub client_moves : ClientEvent → Place → ℕ
client_moves events.Up p = found p.client.up
client_moves events.Down p = found p.client.down
client_moves events.PassOn p =
    length p.client.queue - length (happens_at p events.PassOn).client.queue
client_moves event p = 0

-- a number of the client at a place, if there is one
abbrev pub at_place : ℕ → (Place → ℕ) → List Place → ℕ
at_place i f [] = 0
at_place zero f (p ∷ ps) = f p
at_place (suc i) f (p ∷ ps) = at_place i f ps

-- one where an event finds something to do
abbrev pub moves : Network → NetworkEvent → ℕ
moves n e = at_place e.client (client_moves e.what) n.places

-- how many of these events did
abbrev pub moved : List NetworkEvent → Network → ℕ
moved [] n = 0
moved (e ∷ es) n = moves n e + moved es (happens_in n e)

-- each client that is here is at rest
abbrev pub HereAtRest : Network → Type 0
HereAtRest n = All (λ (p : Place). p.here ≡ true → AtRest p) n.places
