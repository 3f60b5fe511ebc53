-- What is kept of each client: its flows, and of a class of QoS 2 no more is put into its queue than was handed on.
use Rattle.std.proofs.Common.{◌≡◌, ℕ, ◌≤◌, Bool, List, ◌++◌, count_by, sym, ap, subst, arith, append_assoc}
use Rattle.std.specs.List.{AllByRecursion, filter_map}
use Rattle.mqtt5_base.specs.Texts.{Utf8}
use Rattle.mqtt5_base.specs.declared.quality.QoS.TheVariants.{ExactlyOnce}
use Rattle.mqtt5_publish.specs.declared.publish.Publish.{Publish}
use Rattle.mqtt5_world.specs.Delivery.{IsClass}
use Rattle.mqtt5_network.specs.declared.subscription.Subscription.{Subscription}
use Rattle.mqtt5_network.specs.Subscriptions.{forwarded_to}
use Rattle.mqtt5_network.specs.Client.{Client, routed, new_client, queues, takes_turn}
use Rattle.mqtt5_network.specs.Granted.{published, IsNew}
use Rattle.mqtt5_network.proofs.Moves.{Move, moved}
use Rattle.mqtt5_network.proofs.Grown.{IsForwarded, all_both}
use Rattle.mqtt5_network.proofs.Good.{IsGood, good_next, good_start, good_queues, routed_same, routed_queues}
use Rattle.mqtt5_network.proofs.Forwarding.{count_both, forwarded_few}

-- of a class of new messages of QoS 2 no more was put into its queue than these
abbrev pub Few : List Publish → Client → Type 0
Few handed c = (test : Publish → Bool) → IsClass ExactlyOnce test → IsNew test → count_by test (routed c) ≤ count_by (published test) handed

pub record IsClient (handed : List Publish) (c : Client) : Type 0 where
  pub limit : ℕ
  pub sender_limit : ℕ
  pub good : IsGood limit sender_limit c
  pub few : Few handed c

-- with a new session
pub client_start : (handed : List Publish) (limit sender_limit : ℕ) (ss : List Subscription) → IsClient handed (new_client limit sender_limit ss)
client_start handed limit sender_limit ss = record { limit = limit; sender_limit = sender_limit; good = good_start limit sender_limit ss; few = λ test k new. omega arith }

-- after a move of it
pub client_moved : (handed : List Publish) (e : Move) (c : Client) → IsClient handed c → IsClient handed (moved c e)
client_moved handed e c i =
    record {
      limit = i.limit;
      sender_limit = i.sender_limit;
      good = good_next i.limit i.sender_limit c i.good e;
      few = λ test k new. subst (λ ps. count_by test ps ≤ count_by (published test) handed) (sym (routed_same c e)) (i.few test k new);
    }

-- and once more is handed on
pub client_queues : (handed more : List Publish) (own : Bool) (c : Client) → IsClient handed c → IsClient (handed ++ more) (queues own more c)
client_queues handed more own c i =
    record {
      limit = i.limit;
      sender_limit = i.sender_limit;
      good = good_queues own more i.limit i.sender_limit c i.good;
      few = λ test k new.
          let a = ap (count_by test) (routed_queues own more c) in
          let b = count_both test (routed c) (filter_map (forwarded_to own c.subscriptions) more) in
          let d = count_both (published test) handed more in
          let f = i.few test k new in
          let g = forwarded_few test own c.subscriptions k new more in
          omega (arith, a, b, d, f, g);
    }

-- and once it is given a turn, or that is taken from it
pub client_turned : (handed : List Publish) (f : Utf8) (turn : Bool) (c : Client) → IsClient handed c → IsClient handed (takes_turn f turn c)
client_turned handed f turn c i =
    record {
      limit = i.limit;
      sender_limit = i.sender_limit;
      good = record {
        from = i.good.from;
        passed = i.good.passed;
        to = i.good.to;
        parts = i.good.parts;
        own = i.good.own;
        range = i.good.range;
        queued = i.good.queued;
        told = i.good.told;
      };
      few = i.few;
    }

-- publishes go into its queue as they are
abbrev pub gets : List Publish → Client → Client
gets xs c = record c { queue = c.queue ++ xs }

pub routed_gets : (xs : List Publish) (c : Client) → routed (gets xs c) ≡ routed c ++ xs
routed_gets xs c = sym (append_assoc c.taken c.queue xs)

-- none of these is new, and each is as it is to be forwarded
pub record AreCopies (xs : List Publish) : Type 0 where
  pub forwarded : AllByRecursion IsForwarded xs
  pub none : (test : Publish → Bool) → IsNew test → count_by test xs ≡ 0

pub client_gets : (handed xs : List Publish) (c : Client) → AreCopies xs → IsClient handed c → IsClient handed (gets xs c)
client_gets handed xs c copies i =
    record {
      limit = i.limit;
      sender_limit = i.sender_limit;
      good = record {
        from = i.good.from;
        passed = i.good.passed;
        to = i.good.to;
        parts = i.good.parts;
        own = i.good.own;
        range = i.good.range;
        queued = all_both c.queue xs i.good.queued copies.forwarded;
        told = i.good.told;
      };
      few = λ test k new.
          let a = ap (count_by test) (routed_gets xs c) in
          let b = count_both test (routed c) xs in
          let z = copies.none test new in
          let f = i.few test k new in
          omega (arith, a, b, z, f);
    }
