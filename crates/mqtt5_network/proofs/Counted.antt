-- How often the publishes of a class are shown to a client, by how often they were put into its queue; and how often the broker
-- handed its own ones on, by how often its session accepted them.
use Rattle.std.proofs.Common.{◌≡◌, ◌≢◌, ℕ, zero, suc, ◌+◌, ◌*◌, ◌≤◌, Bool, true, List, [], ◌∷◌, count_by, map, refl, sym, ap, ◌∙◌, subst, arith, mul-le-mul_left}
use Rattle.mqtt5_base.specs.declared.quality.QoS.{QoS}
use Rattle.mqtt5_base.specs.declared.quality.QoS.TheVariants.{AtMostOnce, AtLeastOnce, ExactlyOnce}
use Rattle.mqtt5_publish.specs.declared.publish.Publish.{Publish}
use Rattle.mqtt5_codec.specs.declared.packet.Packet.{Packet}
use Rattle.mqtt5_world.specs.World.{World, start, run_world, losses}
use Rattle.mqtt5_world.specs.Delivery.{IsClass, HasOneToken, stored_in, waiting_in}
use Rattle.mqtt5_world.proofs.Runs.{inv_start, inv_run}
use Rattle.mqtt5_world.proofs.Step.{one}
use Rattle.mqtt5_world.proofs.Contents as contents
use Rattle.mqtt5_progress.specs.Progress.{all_up, all_down, downward, round, settle, Settled}
use Rattle.mqtt5_progress.proofs.Settled.{at_rest}
use Rattle.mqtt5_progress.proofs.Counted as counted
use Rattle.mqtt5_network.specs.Receiver.{shown}
use Rattle.mqtt5_network.specs.Connection.{sent, kept_at}
use Rattle.mqtt5_network.specs.Asking.{acks}
use Rattle.mqtt5_network.specs.Client.{Client, routed}
use Rattle.mqtt5_network.specs.Network.{IsDone, HasTokens}
use Rattle.mqtt5_network.proofs.Flow.{IsFlow, unnumbered}
use Rattle.mqtt5_network.proofs.Good.{flow_from, flow_to}
use Rattle.mqtt5_network.proofs.Forwarding.{count_here, count_both}
use Rattle.mqtt5_network.proofs.Clients.{IsClient}

-- ---- a flow

-- a world with nothing on its way is as it is after any rounds
still : (w : World) → w.up ≡ [] → w.down ≡ [] → round w ≡ w
still w u d = ap downward (ap (λ us. run_world (all_up us) w) u) ∙ ap (λ ds. run_world (all_down ds) w) d

still_settled : (n : ℕ) (w : World) → w.up ≡ [] → w.down ≡ [] → settle n w ≡ w
still_settled zero w u d = refl
still_settled (suc n) w u d = ap (settle n) (still w u d) ∙ still_settled n w u d

-- publishes that differ in their ids alone count alike
blind_count : (test : Publish → Bool) → ((p : Publish) (id : ℕ) → test (record p { pkid = id }) ≡ test p) → (ps : List Publish) → count_by test (map unnumbered ps) ≡ count_by test ps
blind_count test blind [] = refl
blind_count test blind (p ∷ ps) =
    let a = count_here test (unnumbered p) (map unnumbered ps) in
    let b = count_here test p ps in
    let e = ap one (blind p 0) in
    let r = blind_count test blind ps in
    omega (arith, a, b, e, r)

-- what is said of a run is said of its flow
module _ (test : Publish → Bool) (Q : Packet → Type 0) (limit lost : ℕ) (v : World) (i : IsFlow Q limit lost v) where
  abbrev w : World
  w = run_world i.events (start limit)

  -- asked for with an id or without
  asked_alike : (q : QoS) → IsClass q test → count_by test i.ids ≡ count_by test v.accepted
  asked_alike q k = sym (blind_count test k.blind i.ids) ∙ ap (count_by test) i.like ∙ blind_count test k.blind v.accepted

  most : (q : QoS) → q ≢ AtLeastOnce → IsClass q test → count_by test v.broker.handed ≤ count_by test v.accepted
  most q ne k = subst (λ m. count_by test v.broker.handed ≤ m) (asked_alike q k) (subst (λ (w : World). count_by test w.broker.handed ≤ count_by test w.accepted) i.reached (contents.at_most test limit i.events q ne k))

  balance : IsClass ExactlyOnce test → count_by test v.broker.handed + kept_at v.broker.ids v.session.core test ≡ count_by test v.accepted
  balance k =
      subst (λ (w : World). count_by test w.broker.handed + kept_at w.broker.ids w.session.core test ≡ count_by test w.accepted) i.reached
      (let l = contents.ledger test limit i.events k in omega (arith, l)) ∙ asked_alike ExactlyOnce k

  -- at QoS 1 what isn't handed on is stored, or waits
  left : IsClass AtLeastOnce test → count_by test v.accepted ≤ count_by test v.broker.handed + count_by test (stored_in v.session.core) + count_by test (waiting_in v.session.core)
  left k =
      subst (λ m. m ≤ count_by test v.broker.handed + count_by test (stored_in v.session.core) + count_by test (waiting_in v.session.core)) (asked_alike AtLeastOnce k)
      (subst (λ (w : World). count_by test w.accepted ≤ count_by test w.broker.handed + count_by test (stored_in w.session.core) + count_by test (waiting_in w.session.core)) i.reached
      (contents.at_least test limit i.events AtLeastOnce (λ e. absurd cc) k))

  again : IsClass AtLeastOnce test → count_by test v.broker.handed ≤ (lost + 1) * count_by test v.accepted
  again k =
      subst (λ m. count_by test v.broker.handed ≤ (lost + 1) * m) (asked_alike AtLeastOnce k)
      (subst (λ m. count_by test v.broker.handed ≤ (m + 1) * count_by test i.ids) i.lost
      (subst (λ (w : World). count_by test w.broker.handed ≤ (losses i.events + 1) * count_by test w.accepted) i.reached (contents.for_each_loss test limit i.events k)))

  -- at any QoS
  for_losses : (q : QoS) → IsClass q test → count_by test v.broker.handed ≤ (lost + 1) * count_by test v.accepted
  for_losses AtLeastOnce k = again k
  for_losses AtMostOnce k = let a = most AtMostOnce (λ e. absurd cc) k in omega (arith, a)
  for_losses ExactlyOnce k = let a = most ExactlyOnce (λ e. absurd cc) k in omega (arith, a)

  tokens : (id : ℕ) → HasOneToken v id
  tokens id = subst (λ (w : World). HasOneToken w id) i.reached ((inv_run i.events (start limit) (inv_start limit)).tokens id)

  module _ (u : v.up ≡ []) (d : v.down ≡ []) where
    up : w.up ≡ []
    up = ap (λ (w : World). w.up) i.reached ∙ u

    down : w.down ≡ []
    down = ap (λ (w : World). w.down) i.reached ∙ d

    exactly : IsClass ExactlyOnce test → count_by test v.broker.handed ≡ count_by test v.accepted
    exactly k =
        subst (λ (w : World). count_by test w.broker.handed ≡ count_by test w.accepted) i.reached
        (subst (λ (s : World). count_by test s.broker.handed ≡ count_by test w.accepted) (still_settled 4 w up down) (counted.exactly test limit i.events k)) ∙ asked_alike ExactlyOnce k

    least : IsClass AtLeastOnce test → count_by test v.accepted ≤ count_by test v.broker.handed
    least k =
        subst (λ m. m ≤ count_by test v.broker.handed) (asked_alike AtLeastOnce k)
        (subst (λ (w : World). count_by test w.accepted ≤ count_by test w.broker.handed) i.reached
        (subst (λ (s : World). count_by test w.accepted ≤ count_by test s.broker.handed) (still_settled 4 w up down) (counted.least test limit i.events k)))

    settled : Settled v
    settled =
        let s = at_rest limit i.events up down in
        let t = subst Settled i.reached (record { up = s.up; down = s.down; core = record { in_use = s.core.in_use; waiting = s.core.waiting }; ids = s.ids; faults = s.faults }) in
        record { up = t.up; down = t.down; core = t.core; ids = t.ids; faults = t.faults }

-- ---- a client: what is shown to it

-- nothing is on its way to or from it, and its queue is empty
pub record Rests (c : Client) : Type 0 where
  pub up : c.up ≡ []
  pub down : c.down ≡ []
  pub queue : c.queue ≡ []

module _ (handed : List Publish) (c : Client) (i : IsClient handed c) where
  module _ (test : Publish → Bool) where
    -- what was put into its queue the sender took on, or it expired, or it is in it
    parted : count_by test (routed c) ≡ count_by test i.good.passed + count_by test c.expired + count_by test c.queue
    parted =
        let a = count_both test c.taken c.queue in
        let b = i.good.parts test in
        omega (arith, a, b)

    pub shown_most : (q : QoS) → q ≢ AtLeastOnce → IsClass q test → count_by test (shown c.session) ≤ count_by test (routed c)
    shown_most q ne k =
        let a = most test _ i.sender_limit c.lost (flow_to c i.good.passed) i.good.to q ne k in
        let p = parted in
        omega (arith, a, p)

    pub shown_losses : (q : QoS) → IsClass q test → count_by test (shown c.session) ≤ (c.lost + 1) * count_by test (routed c)
    shown_losses q k =
        let a = for_losses test _ i.sender_limit c.lost (flow_to c i.good.passed) i.good.to q k in
        let p = parted in
        let g : count_by test i.good.passed ≤ count_by test (routed c) = omega (arith, p) in
        let m = mul-le-mul_left c.lost g in
        omega (arith, a, g, m)

    pub shown_ledger : IsClass ExactlyOnce test → count_by test (shown c.session) + kept_at c.session.core.incoming c.sender.core test + count_by test c.expired + count_by test c.queue ≡ count_by test (routed c)
    shown_ledger k =
        let a = balance test _ i.sender_limit c.lost (flow_to c i.good.passed) i.good.to k in
        let p = parted in
        omega (arith, a, p)

    -- of its own, what the broker handed on
    pub own_most : (q : QoS) → q ≢ AtLeastOnce → IsClass q test → count_by test c.receiver.handed ≤ count_by test c.accepted
    own_most q ne k = most test _ i.limit c.lost (flow_from c) i.good.from q ne k

    pub own_losses : (q : QoS) → IsClass q test → count_by test c.receiver.handed ≤ (c.lost + 1) * count_by test c.accepted
    own_losses q k = for_losses test _ i.limit c.lost (flow_from c) i.good.from q k

    pub own_left : IsClass AtLeastOnce test → count_by test c.accepted ≤ count_by test c.receiver.handed + count_by test (stored_in c.session.core) + count_by test (waiting_in c.session.core)
    own_left k = left test _ i.limit c.lost (flow_from c) i.good.from k

    pub own_ledger : IsClass ExactlyOnce test → count_by test c.receiver.handed + kept_at c.receiver.ids c.session.core test ≡ count_by test c.accepted
    own_ledger k = balance test _ i.limit c.lost (flow_from c) i.good.from k

    module _ (r : Rests c) where
      pub own_least : IsClass AtLeastOnce test → count_by test c.accepted ≤ count_by test c.receiver.handed
      own_least k = least test _ i.limit c.lost (flow_from c) i.good.from (ap sent r.up) (ap acks r.down) k

      none_queued : count_by test c.queue ≡ 0
      none_queued = ap (count_by test) r.queue

      pub shown_exactly : IsClass ExactlyOnce test → count_by test (shown c.session) + count_by test c.expired ≡ count_by test (routed c)
      shown_exactly k =
          let a = exactly test _ i.sender_limit c.lost (flow_to c i.good.passed) i.good.to (ap sent r.down) (ap acks r.up) k in
          let p = parted in
          let z = none_queued in
          omega (arith, a, p, z)

      pub shown_least : IsClass AtLeastOnce test → count_by test (routed c) ≤ count_by test (shown c.session) + count_by test c.expired
      shown_least k =
          let a = least test _ i.sender_limit c.lost (flow_to c i.good.passed) i.good.to (ap sent r.down) (ap acks r.up) k in
          let p = parted in
          let z = none_queued in
          omega (arith, a, p, z)

      -- of its own, what the broker handed on
      pub own_exactly : IsClass ExactlyOnce test → count_by test c.receiver.handed ≡ count_by test c.accepted
      own_exactly k = exactly test _ i.limit c.lost (flow_from c) i.good.from (ap sent r.up) (ap acks r.down) k

  pub has_tokens : (id : ℕ) → HasTokens c id
  has_tokens id = record { session = tokens (λ p. true) _ i.limit c.lost (flow_from c) i.good.from id; sender = tokens (λ p. true) _ i.sender_limit c.lost (flow_to c i.good.passed) i.good.to id }

  module _ (u : c.up ≡ []) (d : c.down ≡ []) where
    pub done : IsDone c
    done =
        let a = settled (λ p. true) _ i.limit c.lost (flow_from c) i.good.from (ap sent u) (ap acks d) in
        let b = settled (λ p. true) _ i.sender_limit c.lost (flow_to c i.good.passed) i.good.to (ap sent d) (ap acks u) in
        record {
          session = record { in_use = a.core.in_use; waiting = a.core.waiting };
          sender = record { in_use = b.core.in_use; waiting = b.core.waiting };
          ids = a.ids;
          incoming = b.ids;
        }
