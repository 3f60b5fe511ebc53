-- What a broker keeps for a client, by itself (MQTT 5.0 sections 3.8, 3.10, 4.1 and 4.3): each call
-- does what happens to a client of a network of which no more is known than that.
use Rattle.std.specs.Prelude.{ℕ, false, List, [], drop}
use Rattle.std.specs.Ordering.{nat_cmp}
use Rattle.std.specs.FinSet as set
use Rattle.mqtt5_publish.specs.declared.publish.Publish.{Publish}
use Rattle.mqtt5_codec.specs.declared.packet.Packet.{Packet}
use Rattle.mqtt5_session.specs.Session.{Session, fresh}
use Rattle.mqtt5_network.specs.Connection.{is_sending}
use Rattle.mqtt5_network.specs.declared.subscription.Subscription.{Subscription}
use Rattle.mqtt5_network.specs.Asking.{is_ack}
use Rattle.mqtt5_network.specs.Client.{Client, comes_to, passes_on}

-- the ids of its publishes of QoS 2 that aren't released (4.3.3), the session by which the broker
-- sends to it, its subscriptions, and the publishes that are still to be sent to it, as they are
-- forwarded
pub record Kept : Type 0 where
  pub ids : set.FinSet nat_cmp
  pub sender : Session
  pub subscriptions : List Subscription
  pub queue : List Publish

-- of a client of which nothing came; with the greatest id that the broker uses to it (2.2.1)
abbrev pub new_kept : ℕ → List Subscription → Kept
new_kept limit subscriptions = record {
  ids = set.empty;
  sender = fresh limit false;
  subscriptions = subscriptions;
  queue = [];
}

-- without the events at its sender, by which a session tells its user of what it sends and takes
abbrev pub without_events : Kept → Kept
without_events k = record k { sender = record k.sender { events = [] } }

-- without the first of its queue
abbrev pub without_first : Kept → Kept
without_first k = record k { queue = drop 1 k.queue }

-- of a client of a network
abbrev pub kept_of : Client → Kept
kept_of c = record {
  ids = c.receiver.ids;
  sender = c.sender;
  subscriptions = c.subscriptions;
  queue = c.queue;
}

-- a client for which this is kept, and of which nothing else is known: nothing is on its way, and
-- nothing was handed on or sent to it
abbrev pub alone : Kept → Client
alone k = record {
  session = fresh 0 false;
  receiver = record { ids = k.ids; handed = [] };
  sender = k.sender;
  up = [];
  down = [];
  accepted = [];
  subscriptions = k.subscriptions;
  queue = k.queue;
  taken = [];
  expired = [];
  lost = 0;
}

-- such a client once a packet came from it: the reply is on its way down
abbrev pub after_packet : Kept → Packet → Client
after_packet k x = comes_to (is_sending x) (is_ack x) (alone k) x

-- and once the first of its queue is passed on: what is sent is on its way down
abbrev pub after_pass : Kept → Client
after_pass k = passes_on (alone k) k.queue
