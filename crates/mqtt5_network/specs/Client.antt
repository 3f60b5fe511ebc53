-- A client that publishes and subscribes over one connection, and what a broker keeps for it (MQTT
-- 5.0 sections 3.3.4, 3.8 to 3.11, and 4.1 to 4.4).
use Rattle.std.specs.Prelude.{ℕ, ◌+◌, Bool, true, false, List, [], ◌∷◌, ◌++◌, Option}
use Rattle.std.specs.Prelude.{Result, Ok, Err, take, drop}
use Rattle.std.specs.Option.{option_to_list}
use Rattle.std.specs.List.{filter_map}
use Rattle.mqtt5_base.specs.Texts.{Utf8}
use Rattle.mqtt5_publish.specs.declared.publish.Publish.{Publish}
use Rattle.mqtt5_codec.specs.declared.packet.Packet.{Packet}
use Rattle.mqtt5_inflight.specs.declared.event.Request.{Request}
use Rattle.mqtt5_inflight.specs.declared.event.Request.TheVariants as requests
use Rattle.mqtt5_inflight.specs.declared.error.StateError.{StateError}
use Rattle.mqtt5_session.specs.Session.{Session, fresh}
use Rattle.mqtt5_session.specs.Requests.{on_request}
use Rattle.mqtt5_session.specs.Packets.{on_packet}
use Rattle.mqtt5_session.specs.Resuming.{resume_of}
use Rattle.mqtt5_session.specs.Ledger.{kept_by}
use Rattle.mqtt5_world.specs.Broker.{Broker, idle, serve}
use Rattle.mqtt5_network.specs.Connection.{reply_in, is_sending, sent_in}
use Rattle.mqtt5_network.specs.declared.subscription.Subscription.{Subscription}
use Rattle.mqtt5_network.specs.Subscriptions.{turned, forwarded_to}
use Rattle.mqtt5_network.specs.Asking.{is_ack, subscriptions_after, answer_of}

-- ---- a client

-- The client's session; the broker as the receiver of what the client sends, and the broker's
-- session as the sender of what goes to the client (4.3); the packets on their way up to the broker
-- and down to the client (4.2); the publishes that the client's session accepted; its subscriptions
-- (3.8); the publishes that the broker has still to send to it, as they are forwarded, those that
-- left these, as the sender took them on or they had expired, and of those the ones that had expired
-- (3.3.2.3.3); and on how many new connections it came.
pub record Client : Type 0 where
  pub session : Session
  pub receiver : Broker
  pub sender : Session
  pub up : List Packet
  pub down : List Packet
  pub accepted : List Publish
  pub subscriptions : List Subscription
  pub queue : List Publish
  pub taken : List Publish
  pub expired : List Publish
  pub lost : ℕ

-- all that was ever put into its queue, in order
abbrev pub routed : Client → List Publish
routed c = c.taken ++ c.queue

-- a client that has sent nothing, of which the broker has its subscriptions alone; with the
-- greatest id that the client uses, and the greatest that the broker uses to it (2.2.1)
abbrev pub new_client : ℕ → ℕ → List Subscription → Client
new_client limit sender_limit subscriptions = record {
  session = fresh limit false;
  receiver = idle;
  sender = fresh sender_limit false;
  up = [];
  down = [];
  accepted = [];
  subscriptions = subscriptions;
  queue = [];
  taken = [];
  expired = [];
  lost = 0;
}

-- ---- requests and deliveries

-- the client asked for a publish: it is accepted, and the reply goes up, or it is refused
abbrev pub asked_of : Client → Publish → Result (Option Packet) StateError → Session → Client
asked_of c p (Ok reply) s = record c {
  session = s;
  up = c.up ++ option_to_list reply;
  accepted = c.accepted ++ p ∷ [];
}
asked_of c p (Err e) s = c

-- it asks for one, at moment 0
abbrev pub asks_for : Client → Publish → Client
asks_for c p = let a = on_request c.session (requests.Publish p) 0 in asked_of c p a.0 a.1

-- the client asked for something else: the reply goes up, or it is refused
abbrev pub sends_of : Client → Result (Option Packet) StateError → Session → Client
sends_of c (Ok reply) s = record c { session = s; up = c.up ++ option_to_list reply }
sends_of c (Err e) s = c

-- it asks for it, at moment 0
abbrev pub requests_for : Client → Request → Client
requests_for c r = let a = on_request c.session r 0 in sends_of c a.0 a.1

-- a packet comes to the broker, as the receiver, as the sender, or about subscriptions, and the
-- reply goes down
abbrev pub comes_to : Bool → Bool → Client → Packet → Client
comes_to true b c x = record c {
  receiver = (serve c.receiver x).1;
  down = c.down ++ option_to_list (serve c.receiver x).0;
}
comes_to false true c x = record c {
  sender = (on_packet c.sender x 0).1;
  down = c.down ++ reply_in (on_packet c.sender x 0).0;
}
comes_to false false c x = record c {
  subscriptions = subscriptions_after c.subscriptions x;
  down = c.down ++ option_to_list (answer_of c.subscriptions x);
}

-- the first packet on its way up arrives, if there is one
abbrev pub goes_up : Client → List Packet → Client
goes_up c [] = c
goes_up c (x ∷ rest) = comes_to (is_sending x) (is_ack x) (record c { up = rest }) x

-- the client takes a packet, and the reply goes up
abbrev pub takes_in : Client → Packet → Client
takes_in c x = record c {
  session = (on_packet c.session x 0).1;
  up = c.up ++ reply_in (on_packet c.session x 0).0;
}

-- the first packet on its way down arrives, if there is one
abbrev pub goes_down : Client → List Packet → Client
goes_down c [] = c
goes_down c (x ∷ rest) = takes_in (record c { down = rest }) x

-- ---- the queue

-- of publishes that are handed on, the client's own or another's, what is forwarded under its
-- subscriptions as they are now goes to the end of its queue (3.3.4)
abbrev pub queues : Bool → List Publish → Client → Client
queues own ps c = record c {
  queue = c.queue ++ filter_map (forwarded_to own c.subscriptions) ps;
}

-- the sender takes the first of the queue on, and the reply goes down; or it refuses it for now,
-- where another one waits (2.2.1)
abbrev pub taken_for : Client → Publish → List Publish → Result (Option Packet) StateError → Session
    → Client
taken_for c p rest (Ok reply) s = record c {
  sender = s;
  down = c.down ++ option_to_list reply;
  queue = rest;
  taken = c.taken ++ p ∷ [];
}
taken_for c p rest (Err e) s = c

-- it is asked to, if there is one
abbrev pub passes_on : Client → List Publish → Client
passes_on c [] = c
passes_on c (p ∷ rest) =
    let a = on_request c.sender (requests.Publish p) 0 in taken_for c p rest a.0 a.1

-- the first of it is taken out, if there is one, since it has expired (3.3.2.3.3)
abbrev pub takes_out : Client → Client
takes_out c = record c {
  queue = drop 1 c.queue;
  taken = c.taken ++ take 1 c.queue;
  expired = c.expired ++ take 1 c.queue;
}

-- ---- a shared subscription

-- the client is given the turn in the one of a filter, or it is taken from it (4.8.2)
abbrev pub takes_turn : Utf8 → Bool → Client → Client
takes_turn topic_filter turn c = record c {
  subscriptions = turned topic_filter turn c.subscriptions;
}

-- ---- a new connection

-- both sides take up their session, and nothing of the old connection is on its way (4.4)
abbrev pub reconnects : Client → Session → Session → Client
reconnects c session sender = record c {
  session = kept_by session (resume_of session 0);
  up = sent_in (resume_of session 0);
  sender = kept_by sender (resume_of sender 0);
  down = sent_in (resume_of sender 0);
  lost = c.lost + 1;
}
