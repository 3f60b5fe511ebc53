-- What is granted by a subscription that a client has, and how long: while the client asks for nothing about its subscriptions, and
-- no such request is on its way.
use Rattle.std.proofs.Common.{◌≡◌, ℕ, zero, suc, ◌+◌, ◌<◌, Bool, true, false, cond, ◌&&◌, List, [], ◌∷◌, length, count_by, Option, Some, None, refl, sym, ap, ◌∙◌, subst, arith, ◌==◌}
use Rattle.std.specs.Prelude.{not, option_map, slice_get, IfSome}
use Rattle.std.specs.List.{Contains, slice_index_or}
use Rattle.std.proofs.lemmas.Bool.{eqb-true}
use Rattle.mqtt5_base.specs.declared.quality.QoS.{QoS}
use Rattle.mqtt5_base.specs.declared.quality.QoS.TheVariants.{AtMostOnce, AtLeastOnce, ExactlyOnce}
use Rattle.mqtt5_publish.specs.declared.publish.Publish.{Publish}
use Rattle.mqtt5_world.specs.Delivery.{IsClass}
use Rattle.mqtt5_progress.specs.Subscribers.{hits}
use Rattle.mqtt5_network.specs.Receiver.{shown}
use Rattle.mqtt5_network.specs.Forwarded.{greater, forwarded, passes}
use Rattle.mqtt5_network.specs.declared.subscription.Subscription.{Subscription}
use Rattle.mqtt5_network.specs.declared.event.ClientEvent.{ClientEvent}
use Rattle.mqtt5_network.specs.declared.event.ClientEvent.TheVariants as events
use Rattle.mqtt5_network.specs.declared.event.NetworkEvent.{NetworkEvent}
use Rattle.mqtt5_network.specs.Subscriptions.{pattern_of, holds_for, granted_for, holding, identifiers_of, keep_retain, forwarded_under, forwarded_to}
use Rattle.mqtt5_network.specs.Client.{Client}
use Rattle.mqtt5_network.specs.Place.{Place, becomes_with, copies_in, queues_at, gets_at}
use Rattle.mqtt5_network.specs.Network.{Network, handed_by, happens_in, run_network, IsReached, AllAtRest, given_in, lost_in}
use Rattle.mqtt5_network.specs.Granted.{published, Grants, Covers, IsNew, AtPlace, Throughout, GoesOn, Lives, KeepsSubscriptions, Unchanged, IsHeard}
use Rattle.mqtt5_network.proofs.Good.{Quiet}
use Rattle.mqtt5_network.proofs.Places.{IsPlace, goes_on, place_quiet}
use Rattle.mqtt5_network.proofs.Joined.{place_after, happens_there, IsJoined, joined, next_joined}
use Rattle.mqtt5_network.proofs.Granting.{all_at, shown_exactly_once}

-- ---- a subscription grants

greater_two : (q : QoS) → greater q (Some ExactlyOnce) ≡ ExactlyOnce
greater_two AtMostOnce = refl
greater_two AtLeastOnce = refl
greater_two ExactlyOnce = refl

two_greatest : (o : Option QoS) → greater ExactlyOnce o ≡ ExactlyOnce
two_greatest None = refl
two_greatest (Some AtMostOnce) = refl
two_greatest (Some AtLeastOnce) = refl
two_greatest (Some ExactlyOnce) = refl

module _ (test : Publish → Bool) (s : Subscription) (covers : Covers test s) (own : Bool) (p : Publish) (of_class : published test p ≡ true) where
  holds : holds_for own s p ≡ true
  holds = ap (λ t. t && (not (own && s.no_local) && hits (pattern_of s ∷ []) p)) covers.turn ∙ by own
    where
      by : (b : Bool) → (not (b && s.no_local) && hits (pattern_of s ∷ []) p) ≡ true
      by true = ap (λ l. not l && hits (pattern_of s ∷ []) p) covers.local ∙ covers.matches p of_class
      by false = covers.matches p of_class

  -- one of the subscriptions
  granted_in : (ss : List Subscription) (k : ℕ) → k < length ss → slice_index_or ss k s ≡ s → granted_for own ss p ≡ Some ExactlyOnce
  granted_in [] k l e = absurd (omega (arith, l))
  granted_in (t ∷ ss) zero l e = subst (λ (t : Subscription). granted_for own (t ∷ ss) p ≡ Some ExactlyOnce) (sym e)
      (ap (λ b. cond b (Some (greater s.granted (granted_for own ss p))) (granted_for own ss p)) holds ∙ ap (λ q. Some (greater q (granted_for own ss p))) covers.granted ∙ ap Some (two_greatest (granted_for own ss p)))
  granted_in (t ∷ ss) (suc k) l e = by (granted_in ss k (omega (arith, l)) e) (holds_for own t p)
    where
      by : granted_for own ss p ≡ Some ExactlyOnce → (b : Bool) → cond b (Some (greater t.granted (granted_for own ss p))) (granted_for own ss p) ≡ Some ExactlyOnce
      by rest true = ap (λ o. Some (greater t.granted o)) rest ∙ ap Some (greater_two t.granted)
      by rest false = rest

  -- without the retain, since this one doesn't ask for it
  kept_in : (ss : List Subscription) (k : ℕ) → k < length ss → slice_index_or ss k s ≡ s → keep_retain (holding own ss p) ≡ false
  kept_in [] k l e = absurd (omega (arith, l))
  kept_in (t ∷ ss) zero l e = subst (λ (t : Subscription). keep_retain (holding own (t ∷ ss) p) ≡ false) (sym e)
      (ap (λ b. keep_retain (cond b (s ∷ holding own ss p) (holding own ss p))) holds ∙ ap (λ b. b && keep_retain (holding own ss p)) covers.retain)
  kept_in (t ∷ ss) (suc k) l e = by (kept_in ss k (omega (arith, l)) e) (holds_for own t p)
    where
      both : (a b : Bool) → b ≡ false → (a && b) ≡ false
      both true b e = e
      both false b e = refl

      by : keep_retain (holding own ss p) ≡ false → (b : Bool) → keep_retain (cond b (t ∷ holding own ss p) (holding own ss p)) ≡ false
      by rest true = both t.retain_as_published (keep_retain (holding own ss p)) rest
      by rest false = rest

pub grants_by_one : (c : Client) (s : Subscription) (test : Publish → Bool) → IsNew test → Contains c.subscriptions s → Covers test s → Grants test c
grants_by_one c s test new has covers own p h =
    let ss = c.subscriptions in
    let all = holding own ss p in
    let x : Publish = record (forwarded ExactlyOnce p) { retain = p.retain && keep_retain all } in
    ap (λ o. passes test (option_map (λ q. forwarded_under all q p) o)) (granted_in test s covers own p h ss has.0 has.1 has.2)
    ∙ new.blind x (identifiers_of all)
    ∙ ap (λ b. test (record (forwarded ExactlyOnce p) { retain = p.retain && b })) (kept_in test s covers own p h ss has.0 has.1 has.2)
    ∙ ap (λ b. test (record (forwarded ExactlyOnce p) { retain = b })) (no p.retain)
    ∙ h
  where
    no : (b : Bool) → (b && false) ≡ false
    no true = refl
    no false = refl

-- ---- how long it stands

-- where the subscriptions stay, the session goes on
pub on_if_kept : (e : ClientEvent) → KeepsSubscriptions e → GoesOn e
on_if_kept (events.Ask x) k = tt
on_if_kept (events.Subscribe x) k = tt
on_if_kept (events.Unsubscribe x) k = tt
on_if_kept events.Up k = tt
on_if_kept events.Down k = tt
on_if_kept events.PassOn k = tt
on_if_kept events.Lost k = tt
on_if_kept events.Left k = tt
on_if_kept (events.Turn f turn) k = absurd k
on_if_kept events.Due k = tt
on_if_kept (events.Dated interval) k = tt
on_if_kept events.Expire k = tt
on_if_kept (events.Back m n w) k = tt
on_if_kept events.Ends k = absurd k

pub lives : (i : ℕ) (es : List NetworkEvent) → Unchanged i es → Lives i es
lives i [] u = tt
lives i (e ∷ es) u = (λ h. on_if_kept e.what (u.0 h), lives i es u.1)

pub quiet_at_place : (n : Network) (e : NetworkEvent) (i : ℕ) (p : Place) → IsPlace n.handed p → (i ≡ e.client → KeepsSubscriptions e.what) → Quiet p.client (place_after n e i p).client
quiet_at_place n e i p j k = by (i == e.client) refl
  where
    by : (b : Bool) → (i == e.client) ≡ b → Quiet p.client (queues_at b (handed_by n e) (cond b (becomes_with n.handed e.what p) p)).client
    by true h =
        let g = k (eqb-true i e.client h) in
        subst (λ (q : Place). Quiet p.client (queues_at true (handed_by n e) (gets_at (copies_in n.handed p e.what) q)).client) (sym (goes_on p e.what (on_if_kept e.what g)).0) (place_quiet n.handed p e.what g j)
    by false h = λ q. (q, refl)

module _ (Q : List Subscription → Type 0) (i : ℕ) where
  abbrev Keeps : Client → Type 0
  Keeps c = IsHeard c × Q c.subscriptions

  stays_once : (n : Network) (e : NetworkEvent) → IsJoined n → (i ≡ e.client → KeepsSubscriptions e.what) → AtPlace i Keeps n → AtPlace i Keeps (happens_in n e)
  stays_once n e j k g = subst (λ o. IfSome o (λ (p : Place). Keeps p.client)) (sym (happens_there n e i)) (by (slice_get n.places i) refl g)
    where
      by : (o : Option Place) → slice_get n.places i ≡ o → IfSome o (λ (p : Place). Keeps p.client) → IfSome (option_map (place_after n e i) o) (λ (p : Place). Keeps p.client)
      by None w g = tt
      by (Some p) w g =
          let q = quiet_at_place n e i p (all_at (IsPlace n.handed) n.places i p j.places w) k g.0 in
          (q.0, subst Q (sym q.1) g.1)

  said : (n : Network) → AtPlace i Keeps n → AtPlace i (λ (c : Client). Q c.subscriptions) n
  said n g = by (slice_get n.places i) g
    where
      by : (o : Option Place) → IfSome o (λ (p : Place). Keeps p.client) → IfSome o (λ (p : Place). Q p.client.subscriptions)
      by None g = tt
      by (Some p) g = g.1

  pub stays : (es : List NetworkEvent) (n : Network) → IsJoined n → Unchanged i es → AtPlace i Keeps n → Throughout es (AtPlace i (λ (c : Client). Q c.subscriptions)) n
  stays [] n j u g = said n g
  stays (e ∷ es) n j u g = (said n g, stays es (happens_in n e) (next_joined n e j) u.1 (stays_once n e j u.0 g))

abbrev GrantsBy : (Publish → Bool) → List Subscription → Type 0
GrantsBy test ss = (own : Bool) (p : Publish) → published test p ≡ true → passes test (forwarded_to own ss p) ≡ true

pub grants_stay : (n : Network) (es : List NetworkEvent) (i : ℕ) (test : Publish → Bool) → IsReached n → Unchanged i es → AtPlace i (λ (c : Client). IsHeard c × Grants test c) n → Throughout es (AtPlace i (Grants test)) n
grants_stay n es i test r u g = stays (GrantsBy test) i es n (joined n r) u g

-- ---- where the client has it from some moment on

pub shown_by_one : (n : Network) (es : List NetworkEvent) (i : ℕ) (s : Subscription) (test : Publish → Bool) → IsReached n → IsClass ExactlyOnce test → IsNew test → Covers test s → given_in n (published test) ≡ 0
    → AtPlace i (λ (c : Client). IsHeard c × Contains c.subscriptions s) n → Unchanged i es → AllAtRest (run_network es n)
    → AtPlace i (λ (c : Client). count_by test (shown c.session) + count_by test c.expired + lost_in (run_network es n) (published test) ≡ given_in (run_network es n) (published test)) (run_network es n)
shown_by_one n es i s test reached k new covers none has u r = shown_exactly_once test n es i reached none (lives i es u) r k new (grants_stay n es i test reached u (by (slice_get n.places i) has))
  where
    by : (o : Option Place) → IfSome o (λ (p : Place). IsHeard p.client × Contains p.client.subscriptions s) → IfSome o (λ (p : Place). IsHeard p.client × Grants test p.client)
    by None h = tt
    by (Some p) h = (h.0, grants_by_one p.client s test new h.1 covers)
