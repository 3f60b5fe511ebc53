-- A client that goes away and comes back, with the will of its connection, and the end of its
-- session (MQTT 5.0 sections 3.1.2.4, 3.1.2.5, 3.1.2.11.2, 3.1.3.2, 3.1.4, 3.14.4, 4.1 and 4.4).
use Rattle.std.specs.Prelude.{◌≡◌, ℕ, Bool, true, false, List, [], ◌∷◌, ◌++◌, Option, Some, None}
use Rattle.std.specs.Prelude.{option_map, if◌then◌else◌}
use Rattle.mqtt5_publish.specs.declared.publish.Publish.{Publish}
use Rattle.mqtt5_publish.specs.declared.publish.PublishProperties.{PublishProperties}
use Rattle.mqtt5_inflight.specs.declared.event.Request.TheVariants as requests
use Rattle.mqtt5_network.specs.Connection.{connected}
use Rattle.mqtt5_network.specs.declared.event.ClientEvent.{ClientEvent}
use Rattle.mqtt5_network.specs.declared.event.ClientEvent.TheVariants as events
use Rattle.mqtt5_network.specs.declared.event.Will.{Will}
use Rattle.mqtt5_network.specs.Client.{Client, new_client, asks_for, requests_for, goes_up}
use Rattle.mqtt5_network.specs.Client.{goes_down, queues, passes_on, takes_out, takes_turn}
use Rattle.mqtt5_network.specs.Client.{reconnects}
use Rattle.mqtt5_network.specs.Retained.{retained_of, copies_first}

-- a client with what the broker keeps for it, whether it is connected, the will of its connection,
-- or the one that waits, if there is one, and the wills that the broker published for it (3.1.2.5)
pub record Place : Type 0 where
  pub client : Client
  pub here : Bool
  pub will : Option Will
  pub willed : List Publish

-- ---- here and away

-- the client, of which nothing is on its way (4.2)
abbrev pub cut_off : Client → Client
cut_off c = record c { up = []; down = [] }

-- after a request of it: away, what it sends goes nowhere
abbrev pub sent_from : Bool → Client → Client
sent_from true c = c
sent_from false c = cut_off c

-- the first of its queue is passed on, if it is here (4.1)
abbrev pub passes : Bool → Client → Client
passes true c = passes_on c c.queue
passes false c = c

-- ---- wills

-- what the broker publishes of a will, if there is one (3.1.2.5)
abbrev pub message_of : Option Will → List Publish
message_of None = []
message_of (Some w) = w.publish ∷ []

-- where the connection is lost: none that has a delay (3.1.3.2.2)
abbrev pub lost_message : Option Will → List Publish
lost_message None = []
lost_message (Some w) = if w.delayed then [] else w.publish ∷ []

-- which waits then
abbrev pub waiting : Option Will → Option Will
waiting None = None
waiting (Some w) = if w.delayed then Some w else None

-- where the client comes on a new connection: of one that is here the old will, but none that has a
-- delay; one that waits is dropped (3.1.3.2.2, 3.1.4)
abbrev pub replaced_message : Bool → Option Will → List Publish
replaced_message true w = lost_message w
replaced_message false w = []

-- where the delay has passed: the one that waits, of a client that is away; and what is left
abbrev pub due_message : Bool → Option Will → List Publish
due_message true w = []
due_message false w = message_of w

abbrev pub not_due : Bool → Option Will → Option Will
not_due true w = w
not_due false w = None

-- where the client leaves, its will is dropped; one that waits stays (3.14.4)
abbrev pub left_will : Bool → Option Will → Option Will
left_will true w = None
left_will false w = w

-- properties with another Message Expiry Interval, and a will, if it has properties (3.1.3.2.4)
abbrev pub expiring_in : Option ℕ → PublishProperties → PublishProperties
expiring_in interval set = record set { message_expiry_interval = interval }

abbrev pub expiring : Option ℕ → Will → Will
expiring interval w = record w {
  publish = record w.publish {
    properties = option_map (expiring_in interval) w.publish.properties;
  };
}

-- ---- events

-- the connection is lost (3.1.2.5)
abbrev pub loses : Place → Place
loses p = record {
  client = cut_off p.client;
  here = false;
  will = waiting p.will;
  willed = p.willed ++ lost_message p.will;
}

-- the session ends: like a loss that nothing follows, and its will is published (3.1.3.2.2)
abbrev pub ended : Place → Place
ended p = record {
  client = cut_off p.client;
  here = false;
  will = None;
  willed = p.willed ++ message_of p.will;
}

-- an event of the session that the client has
abbrev pub happens_at : Place → ClientEvent → Place
happens_at p (events.Ask x) = record p { client = sent_from p.here (asks_for p.client x) }
happens_at p (events.Subscribe x) =
    record p { client = sent_from p.here (requests_for p.client (requests.Subscribe x)) }
happens_at p (events.Unsubscribe x) =
    record p { client = sent_from p.here (requests_for p.client (requests.Unsubscribe x)) }
happens_at p events.Up = record p { client = goes_up p.client p.client.up }
happens_at p events.Down = record p { client = goes_down p.client p.client.down }
happens_at p events.PassOn = record p { client = passes p.here p.client }
happens_at p events.Expire = record p { client = takes_out p.client }
happens_at p (events.Turn topic_filter turn) =
    record p { client = takes_turn topic_filter turn p.client }
happens_at p events.Lost = loses p
happens_at p events.Due =
    record p { will = not_due p.here p.will; willed = p.willed ++ due_message p.here p.will }
happens_at p (events.Dated interval) =
    record p { will = option_map (expiring interval) p.will }
happens_at p events.Left =
    record p { client = cut_off p.client; here = false; will = left_will p.here p.will }
happens_at p (events.Back m n will) = record {
  client =
      reconnects p.client (connected m p.client.session) (connected n p.client.sender);
  here = true;
  will = will;
  willed = p.willed ++ replaced_message p.here p.will;
}
happens_at p events.Ends = ended p

-- the client with a new session, and away (3.1.2.4)
abbrev pub renewed : Place → Place
renewed p = record {
  client = new_client p.client.session.core.limit p.client.sender.core.limit [];
  here = false;
  will = None;
  willed = [];
}

-- what the client is after an event
abbrev pub becomes : Place → ClientEvent → Place
becomes p events.Ends = renewed p
becomes p e = happens_at p e

-- the session that ended in it, if one did
abbrev pub ends_of : Place → ClientEvent → List Place
ends_of p events.Ends = ended p ∷ []
ends_of p e = []

-- publishes go to the end of its queue, here or away
abbrev pub queues_at : Bool → List Publish → Place → Place
queues_at own ps p = record p { client = queues own ps p.client }

-- publishes go to the end of its queue as they are
abbrev pub gets_at : List Publish → Place → Place
gets_at ps p = record p { client = record p.client { queue = p.client.queue ++ ps } }

-- the copies of retained messages that an event brings, where the broker handed these publishes on:
-- those for a Subscribe that arrives (3.3.1.3)
abbrev pub copies_in : List Publish → Place → ClientEvent → List Publish
copies_in handed p events.Up =
    copies_first (retained_of handed) p.client.subscriptions p.client.up
copies_in handed p e = []

-- what the client is after an event, with them
abbrev pub becomes_with : List Publish → ClientEvent → Place → Place
becomes_with handed e p = gets_at (copies_in handed p e) (becomes p e)

-- ---- rest

-- it is here, nothing is on its way to or from it, and its queue is empty
pub record AtRest (p : Place) : Type 0 where
  pub here : p.here ≡ true
  pub up : p.client.up ≡ []
  pub down : p.client.down ≡ []
  pub queue : p.client.queue ≡ []
