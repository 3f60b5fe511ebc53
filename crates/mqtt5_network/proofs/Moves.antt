-- What changes a client and what the broker keeps for it, while its connection stands or as a new one begins.
use Rattle.std.specs.Prelude.{ℕ, List, [], Option}
use Rattle.mqtt5_publish.specs.declared.publish.Publish.{Publish}
use Rattle.mqtt5_subscribe.specs.declared.subscribe.Subscribe.{Subscribe}
use Rattle.mqtt5_subscribe.specs.declared.unsubscribe.Unsubscribe.{Unsubscribe}
use Rattle.mqtt5_inflight.specs.declared.event.Request.TheVariants as requests
use Rattle.mqtt5_codec.specs.declared.packet.Packet.{Packet}
use Rattle.mqtt5_session.specs.Session.{Session}
use Rattle.mqtt5_session.specs.Requests.{on_request}
use Rattle.mqtt5_network.specs.Connection.{connected, reply_in}
use Rattle.mqtt5_network.specs.Client.{Client, asks_for, requests_for, goes_up, goes_down, passes_on, takes_out, reconnects}

-- an event of a place that is here, and of one that comes
pub data Move : Type 0 where
  Ask : Publish → Move
  Subscribing : Subscribe → Move
  Unsubscribing : Unsubscribe → Move
  Up : Move
  Down : Move
  PassOn : Move
  Expire : Move
  Back : Option ℕ → Option ℕ → Move

abbrev pub moved : Client → Move → Client
moved c (Ask p) = asks_for c p
moved c (Subscribing p) = requests_for c (requests.Subscribe p)
moved c (Unsubscribing p) = requests_for c (requests.Unsubscribe p)
moved c Up = goes_up c c.up
moved c Down = goes_down c c.down
moved c PassOn = passes_on c c.queue
moved c Expire = takes_out c
moved c (Back m n) = reconnects c (connected m c.session) (connected n c.sender)

-- the client doesn't ask for subscriptions, or for some to be taken out
abbrev pub AsksForNone : Move → Type 0
AsksForNone (Subscribing p) = ⊥
AsksForNone (Unsubscribing p) = ⊥
AsksForNone move = Unit {0}

-- what is sent of that
abbrev pub asked_in_move : Session → Move → List Packet
asked_in_move s (Subscribing p) = reply_in (on_request s (requests.Subscribe p) 0).0
asked_in_move s (Unsubscribing p) = reply_in (on_request s (requests.Unsubscribe p) 0).0
asked_in_move s move = []
