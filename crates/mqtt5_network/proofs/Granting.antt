-- What a client is shown of a class of publishes, where its subscriptions grant the same to it from some moment on, here or away.
use Rattle.std.proofs.Common.{◌≡◌, ℕ, zero, suc, ◌+◌, ◌≤◌, Bool, false, true, cond, List, [], ◌∷◌, ◌++◌, count_by, Option, Some, None, refl, sym, ap, ◌∙◌, subst, arith, ◌==◌}
use Rattle.std.specs.Prelude.{option_map, slice_get, IfSome}
use Rattle.std.specs.List.{AllByRecursion, filter_map}
use Rattle.std.proofs.lemmas.Bool.{eqb-true}
use Rattle.std.proofs.lemmas.List.Elements.{recursion_from_All}
use Rattle.std.proofs.lemmas.List.Sums.{sum_by-cons}
use Rattle.mqtt5_base.specs.declared.quality.QoS.{QoS}
use Rattle.mqtt5_base.specs.declared.quality.QoS.TheVariants.{AtLeastOnce, ExactlyOnce}
use Rattle.mqtt5_publish.specs.declared.publish.Publish.{Publish}
use Rattle.mqtt5_world.specs.Delivery.{IsClass}
use Rattle.mqtt5_world.proofs.Step.{one}
use Rattle.mqtt5_network.specs.Receiver.{shown}
use Rattle.mqtt5_network.specs.Forwarded.{forwarded, passes}
use Rattle.mqtt5_network.specs.declared.event.NetworkEvent.{NetworkEvent}
use Rattle.mqtt5_network.specs.Subscriptions.{granted_for, holding, forwarded_under, forwarded_to}
use Rattle.mqtt5_network.specs.Client.{Client, routed}
use Rattle.mqtt5_network.specs.Place.{Place, happens_at, becomes_with, queues_at, AtRest}
use Rattle.mqtt5_network.specs.Network.{Network, new_of, newly, handed_by, happens_in, run_network, IsReached, AllAtRest, given_in, lost_in, unacked_in}
use Rattle.mqtt5_network.specs.Granted.{published, Grants, GrantsNone, GrantsOthers, Reaches, IsNew, AtPlace, Throughout, GoesOn, Lives}
use Rattle.mqtt5_network.proofs.Forwarding.{count_here, count_both, published_class, two_granted, under_plain, forwarded_kind, forwarded_least, forwarded_few, forwarded_none}
use Rattle.mqtt5_network.proofs.Counted.{shown_exactly, shown_least, own_exactly}
use Rattle.mqtt5_network.proofs.Places.{IsPlace, goes_on, hidden_of, here_of}
use Rattle.mqtt5_network.proofs.Copies.{are_copies}
use Rattle.mqtt5_network.proofs.Joined.{own_copies, place_after, happens_there, added, by_place, handed_of, one_more, IsJoined, joined, next_joined, run_joined}
use Rattle.mqtt5_network.proofs.Handed.{rest_of, handed_exactly, handed_least, none_handed}

-- ---- the client at a place

pub same_value : (p q : Place) → Some p ≡ Some q → p ≡ q
same_value p q e = cc

pub all_at : (P : Place → Type 0) (ps : List Place) (i : ℕ) (q : Place) → AllByRecursion P ps → slice_get ps i ≡ Some q → P q
all_at P [] i q all is = absurd cc
all_at P (p ∷ ps) zero q all is = subst P (same_value p q is) all.0
all_at P (p ∷ ps) (suc i) q all is = all_at P ps i q all.1 is

-- it was there before an event, and before events
was_there : (n : Network) (e : NetworkEvent) (i : ℕ) (q : Place) → slice_get (happens_in n e).places i ≡ Some q → (p : Place) × (slice_get n.places i ≡ Some p)
was_there n e i q is = by (slice_get n.places i) refl
  where
    by : (o : Option Place) → slice_get n.places i ≡ o → (p : Place) × (slice_get n.places i ≡ Some p)
    by None w = absurd (let h = sym (ap (option_map (place_after n e i)) w) ∙ sym (happens_there n e i) ∙ is in cc)
    by (Some p) w = (p, w)

pub were_there : (es : List NetworkEvent) (n : Network) (i : ℕ) (q : Place) → slice_get (run_network es n).places i ≡ Some q → (p : Place) × (slice_get n.places i ≡ Some p)
were_there [] n i q is = (q, is)
were_there (e ∷ es) n i q is = let p = were_there es (happens_in n e) i q is in was_there n e i p.0 p.1

-- what an event adds, counted
pub added_count : (test : Publish → Bool) (i : ℕ) (n : Network) (e : NetworkEvent) (p : Place) → (i ≡ e.client → GoesOn e.what)
    → count_by test (routed (place_after n e i p).client) ≡ count_by test (routed p.client) + count_by test (own_copies (i == e.client) n e p) + count_by test (filter_map (forwarded_to (i == e.client) (place_after n e i p).client.subscriptions) (handed_by n e))
added_count test i n e p g =
    let own = own_copies (i == e.client) n e p in
    let new = filter_map (forwarded_to (i == e.client) (place_after n e i p).client.subscriptions) (handed_by n e) in
    let a = ap (count_by test) (added n e i p g) in
    let b = count_both test (routed p.client ++ own) new in
    let d = count_both test (routed p.client) own in
    omega (arith, a, b, d)

-- no copy is new
own_none : (test : Publish → Bool) → IsNew test → (b : Bool) (n : Network) (e : NetworkEvent) (p : Place) → count_by test (own_copies b n e p) ≡ 0
own_none test new true n e p = (are_copies n.handed p e.what).none test new
own_none test new false n e p = refl

-- no copy of a class comes in these events
abbrev pub Bare : (Publish → Bool) → ℕ → List NetworkEvent → Network → Type 0
Bare test i [] n = Unit {0}
Bare test i (e ∷ es) n = ((p : Place) → slice_get n.places i ≡ Some p → count_by test (own_copies (i == e.client) n e p) ≡ 0) × Bare test i es (happens_in n e)

-- as of a class of new messages
bare_new : (test : Publish → Bool) → IsNew test → (i : ℕ) (es : List NetworkEvent) (n : Network) → Bare test i es n
bare_new test new i [] n = tt {0}
bare_new test new i (e ∷ es) n = (λ p was. own_none test new (i == e.client) n e p, bare_new test new i es (happens_in n e))

-- ---- what is added all along

first : (P : Network → Type 0) (es : List NetworkEvent) (n : Network) → Throughout es P n → P n
first P [] n t = t
first P (e ∷ es) n t = t.0

module _ (test kind : Publish → Bool) (P : Client → Type 0) (i : ℕ) where
  -- what an event adds
  abbrev more : Network → NetworkEvent → Place → List Publish
  more n e p = filter_map (forwarded_to (i == e.client) (place_after n e i p).client.subscriptions) (handed_by n e)

  added_one : (n : Network) (e : NetworkEvent) (p : Place) → (i ≡ e.client → GoesOn e.what)
      → (count_by test (routed (place_after n e i p).client) ≡ count_by test (routed p.client) + count_by test (own_copies (i == e.client) n e p) + count_by test (more n e p)) × (count_by kind (happens_in n e).handed ≡ count_by kind n.handed + count_by kind (handed_by n e))
  added_one n e p g = (added_count test i n e p g, count_both kind n.handed (handed_by n e))

  -- a client of which this is said, after an event
  then_at : (n : Network) (e : NetworkEvent) (es : List NetworkEvent) (p : Place) → slice_get n.places i ≡ Some p → Throughout (e ∷ es) (AtPlace i P) n → (slice_get (happens_in n e).places i ≡ Some (place_after n e i p)) × P (place_after n e i p).client
  then_at n e es p was t =
      let now : slice_get (happens_in n e).places i ≡ Some (place_after n e i p) = happens_there n e i ∙ ap (option_map (place_after n e i)) was in
      (now, subst (λ o. IfSome o (λ (q : Place). P q.client)) now (first (AtPlace i P) es (happens_in n e) t.1))

  -- where at least as many are forwarded as are of this kind
  pub least_added : ((c : Client) → P c → (own : Bool) (xs : List Publish) → count_by kind xs ≤ count_by test (filter_map (forwarded_to own c.subscriptions) xs))
      → (es : List NetworkEvent) (n : Network) (p q : Place) → slice_get n.places i ≡ Some p → slice_get (run_network es n).places i ≡ Some q → Lives i es → Throughout es (AtPlace i P) n
      → count_by test (routed p.client) + count_by kind (run_network es n).handed ≤ count_by test (routed q.client) + count_by kind n.handed
  least_added gains [] n p q was is on t = let e = ap (λ (x : Place). count_by test (routed x.client)) (same_value p q (sym was ∙ is)) in omega (arith, e)
  least_added gains (e ∷ es) n p q was is on t =
      let h = then_at n e es p was t in
      let a = added_one n e p on.0 in
      let x = a.0 in
      let y = a.1 in
      let g = gains (place_after n e i p).client h.1 (i == e.client) (handed_by n e) in
      let b = least_added gains es (happens_in n e) (place_after n e i p) q h.0 is on.1 t.1 in
      omega (arith, x, y, g, b)

  -- where at most as many are
  pub most_added : ((c : Client) → P c → (own : Bool) (xs : List Publish) → count_by test (filter_map (forwarded_to own c.subscriptions) xs) ≤ count_by kind xs)
      → (es : List NetworkEvent) (n : Network) (p q : Place) → Bare test i es n → slice_get n.places i ≡ Some p → slice_get (run_network es n).places i ≡ Some q → Lives i es → Throughout es (AtPlace i P) n
      → count_by test (routed q.client) + count_by kind n.handed ≤ count_by test (routed p.client) + count_by kind (run_network es n).handed
  most_added gains [] n p q bare was is on t = let e = ap (λ (x : Place). count_by test (routed x.client)) (same_value p q (sym was ∙ is)) in omega (arith, e)
  most_added gains (e ∷ es) n p q bare was is on t =
      let h = then_at n e es p was t in
      let a = added_one n e p on.0 in
      let x = a.0 in
      let y = a.1 in
      let g = gains (place_after n e i p).client h.1 (i == e.client) (handed_by n e) in
      let b = most_added gains es (happens_in n e) (place_after n e i p) q bare.1 h.0 is on.1 t.1 in
      let z = bare.0 p was in
      omega (arith, x, y, g, b, z)

pub count_less : (test more : Publish → Bool) → ((p : Publish) → test p ≡ true → more p ≡ true) → (ps : List Publish) → count_by test ps ≤ count_by more ps
count_less test more implies [] = omega arith
count_less test more implies (p ∷ ps) =
    let a = count_here test p ps in
    let b = count_here more p ps in
    let c = by (test p) refl in
    let r = count_less test more implies ps in
    omega (arith, a, b, c, r)
  where
    by : (b : Bool) → test p ≡ b → one (test p) ≤ one (more p)
    by false e = let z = ap one e in omega (arith, z)
    by true e = let z = ap one e in let y = ap one (implies p e) in omega (arith, z, y)

pub none_of : (ps : List Publish) → count_by (λ (p : Publish). false) ps ≡ 0
none_of [] = refl
none_of (p ∷ ps) = let a = count_here (λ (p : Publish). false) p ps in let r = none_of ps in omega (arith, a, r)

-- ---- between two moments

module _ (test : Publish → Bool) (es : List NetworkEvent) (n : Network) (i : ℕ) (p q : Place) (was : slice_get n.places i ≡ Some p) (is : slice_get (run_network es n).places i ≡ Some q) (on : Lives i es) where
  abbrev later : Network
  later = run_network es n

  -- granted all along: each that is handed on goes into the queue
  least_granted : Throughout es (AtPlace i (Grants test)) n → count_by test (routed p.client) + count_by (published test) later.handed ≤ count_by test (routed q.client) + count_by (published test) n.handed
  least_granted t = least_added test (published test) (Grants test) i (λ c g own xs. forwarded_least test own c.subscriptions (g own) xs) es n p q was is on t

  -- never granted: none does
  pub none_added : IsClass ExactlyOnce test → IsNew test → Throughout es (AtPlace i (GrantsNone test)) n → count_by test (routed q.client) ≡ count_by test (routed p.client)
  none_added k new t =
      let a = least_added test (λ x. false) (GrantsNone test) i (λ c g own xs. let z = none_of xs in omega (arith, z)) es n p q was is on t in
      let b = most_added test (λ x. false) (GrantsNone test) i (λ c g own xs. let z = forwarded_none test own c.subscriptions k new (g own) xs in omega (arith, z)) es n p q (bare_new test new i es n) was is on t in
      let x = none_of n.handed in
      let y = none_of later.handed in
      omega (arith, a, b, x, y)

  module _ (j : IsJoined n) (r : AllAtRest later) where
    after : IsJoined later
    after = run_joined es n j

    before_place : IsPlace n.handed p
    before_place = all_at (IsPlace n.handed) n.places i p j.places was

    after_place : IsPlace later.handed q
    after_place = all_at (IsPlace later.handed) later.places i q after.places is

    rest : AtRest q
    rest = all_at AtRest later.places i q (recursion_from_All AtRest later.places r) is

    -- what is shown in the end is what was put into the queue
    shown_after : IsClass ExactlyOnce test → count_by test (shown q.client.session) + count_by test q.client.expired ≡ count_by test (routed q.client)
    shown_after k = shown_exactly later.handed q.client (here_of later.handed q after_place rest.here) test (rest_of q rest) k

    few_before : IsClass ExactlyOnce test → IsNew test → count_by test (routed p.client) ≤ count_by (published test) n.handed
    few_before k new = (hidden_of n.handed p before_place).client.few test k new

    -- a class of QoS 1, of which none was given before
    least_shown : Throughout es (AtPlace i (Grants test)) n → IsClass AtLeastOnce test → given_in n (published test) ≡ 0 → given_in later (published test) ≤ count_by test (shown q.client.session) + count_by test q.client.expired + unacked_in later (published test)
    least_shown t k none =
        let a = least_granted t in
        let b = shown_least later.handed q.client (here_of later.handed q after_place rest.here) test (rest_of q rest) k in
        let h = handed_least later after (published test) r (published_class AtLeastOnce test k) in
        let m = none_handed n j (published test) AtLeastOnce (published_class AtLeastOnce test k) none in
        omega (arith, a, b, h, m)

    module _ (t : Throughout es (AtPlace i (Grants test)) n) (k : IsClass ExactlyOnce test) (new : IsNew test) where
      exactly_granted : count_by test (routed q.client) + count_by (published test) n.handed ≡ count_by test (routed p.client) + count_by (published test) later.handed
      exactly_granted =
          let a = least_granted t in
          let b = most_added test (published test) (Grants test) i (λ c g own xs. forwarded_few test own c.subscriptions k new xs) es n p q (bare_new test new i es n) was is on t in
          omega (arith, a, b)

      handed_after : count_by (published test) later.handed + lost_in later (published test) ≡ given_in later (published test)
      handed_after = handed_exactly later after (published test) r (published_class ExactlyOnce test k)

      -- none was given before
      all_shown : given_in n (published test) ≡ 0 → count_by test (shown q.client.session) + count_by test q.client.expired + lost_in later (published test) ≡ given_in later (published test)
      all_shown none =
          let a = exactly_granted in
          let b = shown_after k in
          let h = handed_after in
          let m = none_handed n j (published test) ExactlyOnce (published_class ExactlyOnce test k) none in
          let f = few_before k new in
          omega (arith, a, b, h, m, f)

      -- all was at rest before
      pub shown_since : AllAtRest n → count_by test (shown q.client.session) + count_by test q.client.expired + given_in n (published test) + lost_in later (published test) ≡ count_by test (shown p.client.session) + count_by test p.client.expired + given_in later (published test) + lost_in n (published test)
      shown_since rested =
          let a = exactly_granted in
          let b = shown_after k in
          let h = handed_after in
          let m = handed_exactly n j (published test) rested (published_class ExactlyOnce test k) in
          let rest_before : AtRest p = all_at AtRest n.places i p (recursion_from_All AtRest n.places rested) was in
          let s = shown_exactly n.handed p.client (here_of n.handed p before_place rest_before.here) test (rest_of p rest_before) k in
          omega (arith, a, b, h, m, s)

  -- the same publishes reach it all along
  module _ (kind : Publish → Bool) (k : IsClass ExactlyOnce test) (new : IsNew test) (kk : IsClass ExactlyOnce kind) (j : IsJoined n) (r : AllAtRest later) (t : Throughout es (AtPlace i (Reaches test kind)) n) where
    -- those of the kind are of the class, where a client is there
    kind_few : (x : Publish) → kind x ≡ true → published test x ≡ true
    kind_few x h =
        let g : Reaches test kind p.client = subst (λ o. IfSome o (λ (p : Place). Reaches test kind p.client)) was (first (AtPlace i (Reaches test kind)) es n t) in
        by (granted_for false p.client.subscriptions x) (g false x ∙ h)
      where
        by : (o : Option QoS) → passes test (option_map (λ q. forwarded_under (holding false p.client.subscriptions x) q x) o) ≡ true → published test x ≡ true
        by None e = absurd cc
        by (Some q) e =
            let h = under_plain test new (holding false p.client.subscriptions x) q x e in
            ap (λ g. test (forwarded g x)) (sym (two_granted x.qos q (k.of_qos (forwarded q x) h))) ∙ h

    kind_shown : given_in n (published test) ≡ 0 → count_by test (shown q.client.session) + count_by test q.client.expired + lost_in later kind ≡ given_in later kind
    kind_shown none =
        let l = least_added test kind (Reaches test kind) i (λ c g own xs. let e = forwarded_kind test own c.subscriptions kind (g own) xs in omega (arith, e)) es n p q was is on t in
        let m = most_added test kind (Reaches test kind) i (λ c g own xs. let e = forwarded_kind test own c.subscriptions kind (g own) xs in omega (arith, e)) es n p q (bare_new test new i es n) was is on t in
        let b = shown_after j r k in
        let h = handed_exactly later (run_joined es n j) kind r kk in
        let z = none_handed n j (published test) ExactlyOnce (published_class ExactlyOnce test k) none in
        let f = few_before j r k new in
        let y = count_less kind (published test) kind_few n.handed in
        omega (arith, l, m, b, h, z, f, y)

-- ---- where none of its own is granted

-- what is handed on is what the client at the event's place did
newly_at : (i : ℕ) (f : Place → Place) (ps : List Place) (p : Place) → slice_get ps i ≡ Some p → newly i f ps ≡ new_of p (f p)
newly_at i f [] p was = absurd cc
newly_at zero f (x ∷ ps) p was = ap (λ (y : Place). new_of y (f y)) (same_value x p was)
newly_at (suc i) f (x ∷ ps) p was = newly_at i f ps p was

module _ (test : Publish → Bool) (k : IsClass ExactlyOnce test) (new : IsNew test) (i : ℕ) where
  -- the client's own, as the broker handed them on, and its wills
  abbrev own_of : Place → ℕ
  own_of p = by_place (published test) p

  -- an event at another place, or at this one, adds to what was put into the queue or to these
  other_added : (n : Network) (e : NetworkEvent) (p : Place) → IsPlace n.handed p → slice_get n.places i ≡ Some p → (i ≡ e.client → GoesOn e.what) → GrantsOthers test (place_after n e i p).client
      → count_by test (routed (place_after n e i p).client) + own_of (place_after n e i p) ≡ count_by test (routed p.client) + own_of p + count_by (published test) (handed_by n e)
  other_added n e p j was on g =
      let a = added_count test i n e p on in
      let z = own_none test new (i == e.client) n e p in
      let d = by (i == e.client) refl g in
      omega (arith, a, z, d)
    where
      by : (b : Bool) → (i == e.client) ≡ b → GrantsOthers test (queues_at b (handed_by n e) (cond b (becomes_with n.handed e.what p) p)).client
          → count_by test (filter_map (forwarded_to b (cond b (becomes_with n.handed e.what p) p).client.subscriptions) (handed_by n e)) + own_of (queues_at b (handed_by n e) (cond b (becomes_with n.handed e.what p) p)) ≡ own_of p + count_by (published test) (handed_by n e)
      by false at g =
          let x = forwarded_few test false p.client.subscriptions k new (handed_by n e) in
          let y = forwarded_least test false p.client.subscriptions g.0 (handed_by n e) in
          omega (arith, x, y)
      by true at g =
          let x = forwarded_none test true (becomes_with n.handed e.what p).client.subscriptions k new g.1 (handed_by n e) in
          let y = one_more (published test) n.handed e.what p j in
          let s = ap own_of (goes_on p e.what (on (eqb-true i e.client at))).0 in
          let z = ap (count_by (published test)) (newly_at e.client (λ p. happens_at p e.what) n.places p (ap (slice_get n.places) (sym (eqb-true i e.client at)) ∙ was)) in
          omega (arith, x, y, s, z)

  others_added : (es : List NetworkEvent) (n : Network) (p q : Place) → IsJoined n → slice_get n.places i ≡ Some p → slice_get (run_network es n).places i ≡ Some q → Lives i es → Throughout es (AtPlace i (GrantsOthers test)) n
      → count_by test (routed q.client) + own_of q + count_by (published test) n.handed ≡ count_by test (routed p.client) + own_of p + count_by (published test) (run_network es n).handed
  others_added [] n p q j was is on t = let e = same_value p q (sym was ∙ is) in let x = ap (λ (x : Place). count_by test (routed x.client)) e in let y = ap own_of e in omega (arith, x, y)
  others_added (e ∷ es) n p q j was is on t =
      let h = then_at test test (GrantsOthers test) i n e es p was t in
      let a = other_added n e p (all_at (IsPlace n.handed) n.places i p j.places was) was on.0 h.1 in
      let x = count_both (published test) n.handed (handed_by n e) in
      let b = others_added es (happens_in n e) (place_after n e i p) q (next_joined n e j) h.0 is on.1 t.1 in
      omega (arith, a, x, b)

  -- its own are among those that were handed on
  own_few : (ps : List Place) (m : ℕ) (p : Place) → slice_get ps m ≡ Some p → own_of p ≤ handed_of (published test) ps
  own_few [] m p was = absurd cc
  own_few (x ∷ ps) zero p was =
      let a = sum_by-cons own_of x ps in
      let e = ap own_of (same_value x p was) in
      omega (arith, a, e)
  own_few (x ∷ ps) (suc m) p was =
      let a = sum_by-cons own_of x ps in
      let r = own_few ps m p was in
      omega (arith, a, r)

  module _ (es : List NetworkEvent) (n : Network) (p q : Place) (was : slice_get n.places i ≡ Some p) (is : slice_get (run_network es n).places i ≡ Some q) (on : Lives i es) (j : IsJoined n) (r : AllAtRest (run_network es n)) (t : Throughout es (AtPlace i (GrantsOthers test)) n) where
    abbrev last : Network
    last = run_network es n

    others_shown : given_in n (published test) ≡ 0 → count_by test (shown q.client.session) + count_by test q.client.expired + (count_by (published test) q.client.accepted + count_by (published test) q.willed) + lost_in last (published test) ≡ given_in last (published test)
    others_shown none =
        let a = others_added es n p q j was is on t in
        let b = shown_after test es n i p q was is on j r k in
        let h = handed_exactly last (run_joined es n j) (published test) r (published_class ExactlyOnce test k) in
        let at = rest test es n i p q was is on j r in
        let o = own_exactly last.handed q.client (here_of last.handed q (after_place test es n i p q was is on j r) at.here) (published test) (rest_of q at) (published_class ExactlyOnce test k) in
        let m = none_handed n j (published test) ExactlyOnce (published_class ExactlyOnce test k) none in
        let f = few_before test es n i p q was is on j r k new in
        let g = own_few n.places i p was in
        let l = j.counts (published test) in
        omega (arith, a, b, h, o, m, f, g, l)

-- ---- of the client at a place, where none was given before

module _ (test : Publish → Bool) (n : Network) (es : List NetworkEvent) (i : ℕ) (reached : IsReached n) (none : given_in n (published test) ≡ 0) (on : Lives i es) (r : AllAtRest (run_network es n)) where
  abbrev end : Network
  end = run_network es n

  pub shown_exactly_once : IsClass ExactlyOnce test → IsNew test → Throughout es (AtPlace i (Grants test)) n → AtPlace i (λ (c : Client). count_by test (shown c.session) + count_by test c.expired + lost_in end (published test) ≡ given_in end (published test)) end
  shown_exactly_once k new t = by (slice_get end.places i) refl
    where
      by : (o : Option Place) → slice_get end.places i ≡ o → IfSome o (λ (p : Place). count_by test (shown p.client.session) + count_by test p.client.expired + lost_in end (published test) ≡ given_in end (published test))
      by None e = tt
      by (Some q) e = let p = were_there es n i q e in all_shown test es n i p.0 q p.1 e on (joined n reached) r t k new none

  pub shown_at_least_once : IsClass AtLeastOnce test → Throughout es (AtPlace i (Grants test)) n → AtPlace i (λ (c : Client). given_in end (published test) ≤ count_by test (shown c.session) + count_by test c.expired + unacked_in end (published test)) end
  shown_at_least_once k t = by (slice_get end.places i) refl
    where
      by : (o : Option Place) → slice_get end.places i ≡ o → IfSome o (λ (p : Place). given_in end (published test) ≤ count_by test (shown p.client.session) + count_by test p.client.expired + unacked_in end (published test))
      by None e = tt
      by (Some q) e = let p = were_there es n i q e in least_shown test es n i p.0 q p.1 e on (joined n reached) r t k none

  pub shown_others : IsClass ExactlyOnce test → IsNew test → Throughout es (AtPlace i (GrantsOthers test)) n
      → IfSome (slice_get end.places i) (λ (p : Place). count_by test (shown p.client.session) + count_by test p.client.expired + (count_by (published test) p.client.accepted + count_by (published test) p.willed) + lost_in end (published test) ≡ given_in end (published test))
  shown_others k new t = by (slice_get end.places i) refl
    where
      by : (o : Option Place) → slice_get end.places i ≡ o → IfSome o (λ (p : Place). count_by test (shown p.client.session) + count_by test p.client.expired + (count_by (published test) p.client.accepted + count_by (published test) p.willed) + lost_in end (published test) ≡ given_in end (published test))
      by None e = tt
      by (Some q) e = let p = were_there es n i q e in others_shown test k new i es n p.0 q p.1 e on (joined n reached) r t none

  pub shown_kind : (kind : Publish → Bool) → IsClass ExactlyOnce test → IsNew test → IsClass ExactlyOnce kind → Throughout es (AtPlace i (Reaches test kind)) n → AtPlace i (λ (c : Client). count_by test (shown c.session) + count_by test c.expired + lost_in end kind ≡ given_in end kind) end
  shown_kind kind k new kk t = by (slice_get end.places i) refl
    where
      by : (o : Option Place) → slice_get end.places i ≡ o → IfSome o (λ (p : Place). count_by test (shown p.client.session) + count_by test p.client.expired + lost_in end kind ≡ given_in end kind)
      by None e = tt
      by (Some q) e = let p = were_there es n i q e in kind_shown test es n i p.0 q p.1 e on kind k new kk (joined n reached) r t none
