-- What a broker keeps of all its clients, by itself, and what is made of it by a packet that comes, by
-- what it sends, and by connections that are lost and begin (MQTT 5.0 sections 3.1.2.4, 3.1.2.5,
-- 3.1.3.2.2, 3.1.3.2.4, 3.3.4, 3.8, 4.1, 4.3, 4.4 and 4.8.2).
use Rattle.std.specs.Prelude.{ℕ, zero, suc, Bool, true, false, List, [], ◌∷◌, ◌++◌, map, Option, None}
use Rattle.std.specs.Prelude.{option_map}
use Rattle.std.specs.List.{filter_map}
use Rattle.mqtt5_base.specs.Texts.{Utf8}
use Rattle.mqtt5_publish.specs.declared.publish.Publish.{Publish}
use Rattle.mqtt5_codec.specs.declared.packet.Packet.{Packet}
use Rattle.mqtt5_session.specs.Resuming.{resume_of}
use Rattle.mqtt5_session.specs.Ledger.{kept_by}
use Rattle.mqtt5_network.specs.declared.event.Will.{Will}
use Rattle.mqtt5_network.specs.Connection.{connected, sent_in}
use Rattle.mqtt5_network.specs.Subscriptions.{turned, forwarded_to}
use Rattle.mqtt5_network.specs.Retained.{retained_after, retained_of, copies_for}
use Rattle.mqtt5_network.specs.Place.{Place, lost_message, waiting, replaced_message, due_message}
use Rattle.mqtt5_network.specs.Place.{not_due, left_will, message_of, expiring}
use Rattle.mqtt5_network.specs.Network.{Network}
use Rattle.mqtt5_router.specs.Kept.{Kept, new_kept, without_events, without_first, kept_of}
use Rattle.mqtt5_router.specs.Kept.{after_packet, after_pass}

-- of one client: what is kept for it, with no events at its sender, since a broker takes them out
-- after each step; whether it is connected; and its will, or the one that waits
pub record ClientState : Type 0 where
  pub kept : Kept
  pub here : Bool
  pub will : Option Will

-- of all clients; and what is retained (3.3.1.3)
pub record Sessions : Type 0 where
  pub clients : List ClientState
  pub retained : List Publish

-- of a client that never came; with the greatest id that the broker uses to it (2.2.1)
abbrev pub new_state : ℕ → ClientState
new_state limit = record { kept = new_kept limit []; here = false; will = None }

-- of a network
abbrev pub state_of : Place → ClientState
state_of p = record { kept = without_events (kept_of p.client); here = p.here; will = p.will }

abbrev pub sessions_of : Network → Sessions
sessions_of n = record { clients = map state_of n.places; retained = retained_of n.handed }

-- ---- queues

-- publishes go to the end of a client's queue as they are
abbrev pub gets : List Publish → ClientState → ClientState
gets xs c = record c { kept = record c.kept { queue = c.kept.queue ++ xs } }

-- what is forwarded of publishes, its own or another's (3.3.4)
abbrev pub queues : Bool → List Publish → ClientState → ClientState
queues own xs c = gets (filter_map (forwarded_to own c.kept.subscriptions) xs) c

-- of the publishes of the client at a place, into each queue
abbrev pub queues_all : ℕ → List Publish → List ClientState → List ClientState
queues_all i xs [] = []
queues_all zero xs (c ∷ cs) = queues true xs c ∷ map (queues false xs) cs
queues_all (suc i) xs (c ∷ cs) = queues false xs c ∷ queues_all i xs cs

-- ---- the client at a place

-- it changes
abbrev pub with_client : ℕ → (ClientState → ClientState) → List ClientState → List ClientState
with_client i f [] = []
with_client zero f (c ∷ cs) = f c ∷ cs
with_client (suc i) f (c ∷ cs) = c ∷ with_client i f cs

-- some publishes of it
abbrev pub of_client : ℕ → (ClientState → List Publish) → List ClientState → List Publish
of_client i f [] = []
of_client zero f (c ∷ cs) = f c
of_client (suc i) f (c ∷ cs) = of_client i f cs

-- some packets to it
abbrev pub to_client : ℕ → (ClientState → List Packet) → List ClientState → List Packet
to_client i f [] = []
to_client zero f (c ∷ cs) = f c
to_client (suc i) f (c ∷ cs) = to_client i f cs

-- it changes, and the broker hands publishes of it on: they go into the queues, and are retained
abbrev pub changes : ℕ → (ClientState → ClientState) → (ClientState → List Publish) → Sessions → Sessions
changes i f new s = record {
  clients = queues_all i (of_client i new s.clients) (with_client i f s.clients);
  retained = retained_after s.retained (of_client i new s.clients);
}

-- ---- what happens

-- one more client comes to be known
abbrev pub joins : ℕ → Sessions → Sessions
joins limit s = record s { clients = s.clients ++ new_state limit ∷ [] }

-- a packet comes from it: a Subscribe brings copies of retained messages (3.3.1.3), and a publish is
-- handed on, or was before (4.3.3)
abbrev pub arrives : ℕ → Packet → Sessions → Sessions
arrives i x s =
    changes i
    (λ (c : ClientState). gets (copies_for s.retained c.kept.subscriptions x)
    (record c { kept = without_events (kept_of (after_packet c.kept x)) }))
    (λ (c : ClientState). (after_packet c.kept x).receiver.handed) s

-- what is sent back
abbrev pub replies : ℕ → Packet → Sessions → List Packet
replies i x s = to_client i (λ (c : ClientState). (after_packet c.kept x).down) s.clients

-- the first of its queue is passed on, if it is connected
abbrev pub passes_here : Bool → Kept → Kept
passes_here true k = without_events (kept_of (after_pass k))
passes_here false k = k

-- what is sent to it then
abbrev pub sent_here : Bool → Kept → List Packet
sent_here true k = (after_pass k).down
sent_here false k = []

abbrev pub passed : ℕ → Sessions → List Packet
passed i s = to_client i (λ (c : ClientState). sent_here c.here c.kept) s.clients

abbrev pub passes : ℕ → Sessions → Sessions
passes i s = changes i (λ (c : ClientState). record c { kept = passes_here c.here c.kept }) (λ c. []) s

-- the first of its queue has expired (3.3.2.3.3)
abbrev pub takes_out : ℕ → Sessions → Sessions
takes_out i s = changes i (λ (c : ClientState). record c { kept = without_first c.kept }) (λ c. []) s

-- its connection is lost (3.1.2.5)
abbrev pub loses : ℕ → Sessions → Sessions
loses i s =
    changes i (λ (c : ClientState). record c { here = false; will = waiting c.will })
    (λ (c : ClientState). lost_message c.will) s

-- the delay of its will has passed (3.1.3.2.2)
abbrev pub is_due : ℕ → Sessions → Sessions
is_due i s =
    changes i (λ (c : ClientState). record c { will = not_due c.here c.will })
    (λ (c : ClientState). due_message c.here c.will) s

-- its will has another Message Expiry Interval, before it is published (3.1.3.2.4)
abbrev pub with_dated_will : Option ℕ → ClientState → ClientState
with_dated_will interval c = record c { will = option_map (expiring interval) c.will }

abbrev pub dates : ℕ → Option ℕ → Sessions → Sessions
dates i interval s = changes i (with_dated_will interval) (λ c. []) s

-- whether it is connected: not one that isn't there
abbrev pub here_in : ℕ → List ClientState → Bool
here_in i [] = false
here_in zero (c ∷ cs) = c.here
here_in (suc i) (c ∷ cs) = here_in i cs

abbrev pub is_here : ℕ → Sessions → Bool
is_here i s = here_in i s.clients

-- it is given the turn in the shared subscription of a filter, or that is taken from it (4.8.2)
abbrev pub with_turn_of : Utf8 → Bool → ClientState → ClientState
with_turn_of f turn c = record c {
  kept = record c.kept { subscriptions = turned f turn c.kept.subscriptions };
}

abbrev pub turns : ℕ → Utf8 → Bool → Sessions → Sessions
turns i f turn s = changes i (with_turn_of f turn) (λ c. []) s

-- it leaves (3.14.4)
abbrev pub leaves : ℕ → Sessions → Sessions
leaves i s =
    changes i (λ (c : ClientState). record c { here = false; will = left_will c.here c.will }) (λ c. []) s

-- it comes on a new connection, where it says a receive maximum and a will, if it does (4.4)
abbrev pub taken_up : Option ℕ → Kept → Kept
taken_up m k = without_events (record k {
  sender = kept_by (connected m k.sender) (resume_of (connected m k.sender) 0);
})

abbrev pub comes : ℕ → Option ℕ → Option Will → Sessions → Sessions
comes i m will s =
    changes i (λ (c : ClientState). record { kept = taken_up m c.kept; here = true; will = will })
    (λ (c : ClientState). replaced_message c.here c.will) s

-- what is sent again then
abbrev pub sent_again : ℕ → Option ℕ → Sessions → List Packet
sent_again i m s =
    to_client i
    (λ (c : ClientState). sent_in (resume_of (connected m c.kept.sender) 0)) s.clients

-- its session ends (3.1.2.4)
abbrev pub ends : ℕ → Sessions → Sessions
ends i s =
    changes i (λ (c : ClientState). record {
      kept = new_kept c.kept.sender.core.limit [];
      here = false;
      will = None;
    })
    (λ (c : ClientState). message_of c.will) s
