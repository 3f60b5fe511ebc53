-- Each client of a network that is reached is as it has to be, here or away, and so is each session that ended; what the broker
-- handed on is what it did as the receiver of each of them, and their wills.
use Rattle.std.proofs.Common.{◌≡◌, ℕ, zero, suc, ◌+◌, Bool, true, false, cond, List, [], ◌∷◌, ◌++◌, length, drop, count_by, map, Some, refl, sym, ap, ◌∙◌, subst, arith, ◌==◌, inl, append-nil}
use Rattle.std.specs.Prelude.{sum_by, option_map, slice_get}
use Rattle.std.specs.List.{AllByRecursion, Contains, filter_map}
use Rattle.std.proofs.Math.Dec.{eqb-suc-suc, eqb-suc-zero, eqb-zero-suc}
use Rattle.std.proofs.lemmas.Bool.{eqb-true}
use Rattle.std.proofs.lemmas.Option.{slice_get-map}
use Rattle.std.proofs.lemmas.List.{drop_at}
use Rattle.std.proofs.lemmas.List.Elements.{All-from_recursion, All-contains}
use Rattle.std.proofs.lemmas.List.Sums.{sum_by-cons, sum_by-append}
use Rattle.mqtt5_publish.specs.declared.publish.Publish.{Publish}
use Rattle.mqtt5_network.specs.declared.event.ClientEvent.{ClientEvent}
use Rattle.mqtt5_network.specs.declared.event.ClientEvent.TheVariants as events
use Rattle.mqtt5_network.specs.declared.event.NetworkEvent.{NetworkEvent}
use Rattle.mqtt5_network.specs.Subscriptions.{forwarded_to}
use Rattle.mqtt5_network.specs.Client.{routed}
use Rattle.mqtt5_network.specs.Place.{Place, ended, happens_at, becomes, becomes_with, copies_in, ends_of, queues_at}
use Rattle.mqtt5_network.specs.Network.{Network, Profile, begins, start_network, changed, new_of, newly, routes, handed_by, ends_at, happens_in, run_network, IsReached}
use Rattle.mqtt5_network.specs.Granted.{GoesOn}
use Rattle.mqtt5_network.proofs.Grown.{Grows}
use Rattle.mqtt5_network.proofs.Good.{routed_queues}
use Rattle.mqtt5_network.proofs.Forwarding.{count_both}
use Rattle.mqtt5_network.proofs.Clients.{client_start, routed_gets}
use Rattle.mqtt5_network.proofs.Copies.{are_copies}
use Rattle.mqtt5_network.proofs.Places.{IsHidden, IsPlace, Course, On, End, course, goes_on, place_next, place_becomes, place_queues, place_gets, place_grows, wills_grow, place_routed, hidden_of}

-- ---- of the client at a place

-- it changes, if it is at this place too, and then publishes go into its queue
abbrev pub routes_to : ℕ → (Place → Place) → List Publish → ℕ → Place → Place
routes_to k f xs i p = queues_at (i == k) xs (cond (i == k) (f p) p)

routes_at : (k : ℕ) (f : Place → Place) (xs : List Publish) (ps : List Place) (i : ℕ) → slice_get (routes k xs (changed k f ps)) i ≡ option_map (routes_to k f xs i) (slice_get ps i)
routes_at k f xs [] i = refl
routes_at zero f xs (p ∷ ps) zero = refl
routes_at zero f xs (p ∷ ps) (suc i) = slice_get-map (queues_at false xs) ps i ∙ ap (λ b. option_map (λ p. queues_at b xs (cond b (f p) p)) (slice_get ps i)) (sym (eqb-suc-zero i))
routes_at (suc k) f xs (p ∷ ps) zero = ap (λ b. Some (queues_at b xs (cond b (f p) p))) (sym (eqb-zero-suc k))
routes_at (suc k) f xs (p ∷ ps) (suc i) = routes_at k f xs ps i ∙ ap (λ b. option_map (λ p. queues_at b xs (cond b (f p) p)) (slice_get ps i)) (sym (eqb-suc-suc i k))

-- the client at a place after an event
abbrev pub place_after : Network → NetworkEvent → ℕ → Place → Place
place_after n e i p = routes_to e.client (becomes_with n.handed e.what) (handed_by n e) i p

pub happens_there : (n : Network) (e : NetworkEvent) (i : ℕ) → slice_get (happens_in n e).places i ≡ option_map (place_after n e i) (slice_get n.places i)
happens_there n e i = routes_at e.client (becomes_with n.handed e.what) (handed_by n e) n.places i

becomes_routed : (handed : List Publish) (p : Place) (e : ClientEvent) → GoesOn e → routed (becomes_with handed e p).client ≡ routed p.client ++ copies_in handed p e
becomes_routed handed p e g =
    routed_gets (copies_in handed p e) (becomes p e).client
    ∙ ap (λ (q : Place). routed q.client ++ copies_in handed p e) (goes_on p e g).0
    ∙ ap (λ xs. xs ++ copies_in handed p e) (place_routed p e)

-- its copies, where the event is one of it
abbrev pub own_copies : Bool → Network → NetworkEvent → Place → List Publish
own_copies true n e p = copies_in n.handed p e.what
own_copies false n e p = []

-- what is added to what was put into its queue
pub added : (n : Network) (e : NetworkEvent) (i : ℕ) (p : Place) → (i ≡ e.client → GoesOn e.what)
    → routed (place_after n e i p).client ≡ routed p.client ++ own_copies (i == e.client) n e p ++ filter_map (forwarded_to (i == e.client) (place_after n e i p).client.subscriptions) (handed_by n e)
added n e i p g = by (i == e.client) refl
  where
    by : (b : Bool) → (i == e.client) ≡ b
        → routed (queues_at b (handed_by n e) (cond b (becomes_with n.handed e.what p) p)).client ≡ routed p.client ++ own_copies b n e p ++ filter_map (forwarded_to b (cond b (becomes_with n.handed e.what p) p).client.subscriptions) (handed_by n e)
    by true h =
        routed_queues true (handed_by n e) (becomes_with n.handed e.what p).client
        ∙ ap (λ l. l ++ filter_map (forwarded_to true (becomes_with n.handed e.what p).client.subscriptions) (handed_by n e)) (becomes_routed n.handed p e.what (g (eqb-true i e.client h)))
    by false h = routed_queues false (handed_by n e) p.client ∙ ap (λ l. l ++ filter_map (forwarded_to false p.client.subscriptions) (handed_by n e)) (sym (append-nil (routed p.client)))

pub added_at : (n : Network) (e : NetworkEvent) (i : ℕ) (p q : Place) → slice_get n.places i ≡ Some p → slice_get (happens_in n e).places i ≡ Some q → (i ≡ e.client → GoesOn e.what)
    → routed q.client ≡ routed p.client ++ (cond (i == e.client) (copies_in n.handed p e.what) []) ++ filter_map (forwarded_to (i == e.client) q.client.subscriptions) (handed_by n e)
added_at n e i p q was is g =
    subst (λ (q : Place). routed q.client ≡ routed p.client ++ (cond (i == e.client) (copies_in n.handed p e.what) []) ++ filter_map (forwarded_to (i == e.client) q.client.subscriptions) (handed_by n e)) (by (sym (happens_there n e i ∙ ap (option_map (place_after n e i)) was) ∙ is)) (with (i == e.client) (added n e i p g))
  where
    by : Some (place_after n e i p) ≡ Some q → place_after n e i p ≡ q
    by h = cc

    with : (b : Bool) → routed (place_after n e i p).client ≡ routed p.client ++ own_copies b n e p ++ filter_map (forwarded_to b (place_after n e i p).client.subscriptions) (handed_by n e)
        → routed (place_after n e i p).client ≡ routed p.client ++ (cond b (copies_in n.handed p e.what) []) ++ filter_map (forwarded_to b (place_after n e i p).client.subscriptions) (handed_by n e)
    with true h = h
    with false h = h

-- ---- each client

module _ (handed more : List Publish) where
  all_queues : (ps : List Place) → AllByRecursion (IsPlace handed) ps → AllByRecursion (IsPlace (handed ++ more)) (map (queues_at false more) ps)
  all_queues [] all = tt
  all_queues (p ∷ ps) all = (place_queues handed p more false all.0, all_queues ps all.1)

  all_next : (e : ClientEvent) (i : ℕ) (ps : List Place) → AllByRecursion (IsPlace handed) ps → AllByRecursion (IsPlace (handed ++ more)) (routes i more (changed i (becomes_with handed e) ps))
  all_next e i [] all = tt
  all_next e zero (p ∷ ps) all = (place_queues handed (becomes_with handed e p) more true (place_gets handed (becomes p e) (copies_in handed p e) (are_copies handed p e) (place_becomes handed p e all.0)), all_queues ps all.1)
  all_next e (suc i) (p ∷ ps) all = (place_queues handed p more false all.0, all_next e i ps all.1)

-- a session that ended was as it had to be
pub record IsOld (p : Place) : Type 0 where
  pub handed : List Publish
  pub hidden : IsHidden handed p.client

module _ (handed : List Publish) where
  old_of : (p : Place) (e : ClientEvent) → IsPlace handed p → AllByRecursion IsOld (ends_of p e)
  old_of p e i = by e (course e)
    where
      by : (e : ClientEvent) → Course e → AllByRecursion IsOld (ends_of p e)
      by _ (On e g) = subst (AllByRecursion IsOld) (sym (goes_on p e g).1) tt
      by _ End = (record { handed = handed; hidden = hidden_of handed (ended p) (place_next handed p events.Ends i) }, tt)

  old_at : (e : ClientEvent) (i : ℕ) (ps : List Place) → AllByRecursion (IsPlace handed) ps → AllByRecursion IsOld (ends_at i e ps)
  old_at e i [] all = tt
  old_at e zero (p ∷ ps) all = old_of p e all.0
  old_at e (suc i) (p ∷ ps) all = old_at e i ps all.1

old_both : (ps qs : List Place) → AllByRecursion IsOld ps → AllByRecursion IsOld qs → AllByRecursion IsOld (ps ++ qs)
old_both [] qs all more = more
old_both (p ∷ ps) qs all more = (all.0, old_both ps qs all.1 more)

-- ---- what was handed on

pub new_counted : (test : Publish → Bool) (old new : List Publish) → Grows old new → count_by test new ≡ count_by test old + count_by test (drop (length old) new)
new_counted test old new g =
    let a = ap (count_by test) g.grown in
    let b = count_both test old g.more in
    let c = ap (count_by test) (ap (drop (length old)) g.grown ∙ drop_at old g.more (length old) refl) in
    omega (arith, a, b, c)

module _ (test : Publish → Bool) where
  -- of one client
  abbrev pub by_place : Place → ℕ
  by_place p = count_by test p.client.receiver.handed + count_by test p.willed

  abbrev pub handed_of : List Place → ℕ
  handed_of ps = sum_by by_place ps

  queues_handed : (xs : List Publish) (ps : List Place) → handed_of (map (queues_at false xs) ps) ≡ handed_of ps
  queues_handed xs [] = refl
  queues_handed xs (p ∷ ps) =
      let a = sum_by-cons by_place (queues_at false xs p) (map (queues_at false xs) ps) in
      let b = sum_by-cons by_place p ps in
      let r = queues_handed xs ps in
      omega (arith, a, b, r)

  routes_handed : (i : ℕ) (xs : List Publish) (ps : List Place) → handed_of (routes i xs ps) ≡ handed_of ps
  routes_handed i xs [] = refl
  routes_handed zero xs (p ∷ ps) =
      let a = sum_by-cons by_place (queues_at true xs p) (map (queues_at false xs) ps) in
      let b = sum_by-cons by_place p ps in
      let r = queues_handed xs ps in
      omega (arith, a, b, r)
  routes_handed (suc i) xs (p ∷ ps) =
      let a = sum_by-cons by_place (queues_at false xs p) (routes i xs ps) in
      let b = sum_by-cons by_place p ps in
      let r = routes_handed i xs ps in
      omega (arith, a, b, r)

  module _ (handed : List Publish) (e : ClientEvent) where
    -- what one hands on in an event
    pub one_more : (p : Place) → IsPlace handed p → by_place (happens_at p e) ≡ by_place p + count_by test (new_of p (happens_at p e))
    one_more p i =
        let q = happens_at p e in
        let x = new_counted test p.client.receiver.handed q.client.receiver.handed (place_grows handed p i e) in
        let y = new_counted test p.willed q.willed (wills_grow p e) in
        let z = count_both test (drop (length p.client.receiver.handed) q.client.receiver.handed) (drop (length p.willed) q.willed) in
        omega (arith, x, y, z)

    -- is added to it, or to the session that ended
    one_changed : (p : Place) → IsPlace handed p → by_place (becomes p e) + handed_of (ends_of p e) ≡ by_place p + count_by test (new_of p (happens_at p e))
    one_changed p i =
        let x = one_more p i in
        let s = split e (course e) in
        omega (arith, x, s)
      where
        split : (e : ClientEvent) → Course e → by_place (becomes p e) + handed_of (ends_of p e) ≡ by_place (happens_at p e)
        split _ (On e g) = let a = ap by_place (goes_on p e g).0 in let b = ap handed_of (goes_on p e g).1 in omega (arith, a, b)
        split _ End = let a = sum_by-cons by_place (ended p) [] in omega (arith, a)

    handed_changed : (i : ℕ) (ps : List Place) → AllByRecursion (IsPlace handed) ps → handed_of (changed i (becomes_with handed e) ps) + handed_of (ends_at i e ps) ≡ handed_of ps + count_by test (newly i (λ p. happens_at p e) ps)
    handed_changed i [] all = refl
    handed_changed zero (p ∷ ps) all =
        let a = sum_by-cons by_place (becomes_with handed e p) ps in
        let b = sum_by-cons by_place p ps in
        let o = one_changed p all.0 in
        omega (arith, a, b, o)
    handed_changed (suc i) (p ∷ ps) all =
        let a = sum_by-cons by_place p (changed i (becomes_with handed e) ps) in
        let b = sum_by-cons by_place p ps in
        let r = handed_changed i ps all.1 in
        omega (arith, a, b, r)

-- ---- every network that is reached

pub record IsJoined (n : Network) : Type 0 where
  pub places : AllByRecursion (IsPlace n.handed) n.places
  pub ended : AllByRecursion IsOld n.ended
  pub counts : (test : Publish → Bool) → count_by test n.handed ≡ handed_of test n.places + handed_of test n.ended

pub next_joined : (n : Network) (e : NetworkEvent) → IsJoined n → IsJoined (happens_in n e)
next_joined n e i =
    record {
      places = all_next n.handed (handed_by n e) e.what e.client n.places i.places;
      ended = old_both n.ended (ends_at e.client e.what n.places) i.ended (old_at n.handed e.what e.client n.places i.places);
      counts = λ test.
          let a = count_both test n.handed (handed_by n e) in
          let b = i.counts test in
          let c = handed_changed test n.handed e.what e.client n.places i.places in
          let d = routes_handed test e.client (handed_by n e) (changed e.client (becomes_with n.handed e.what) n.places) in
          let f = sum_by-append (by_place test) n.ended (ends_at e.client e.what n.places) in
          omega (arith, a, b, c, d, f);
    }

pub run_joined : (es : List NetworkEvent) (n : Network) → IsJoined n → IsJoined (run_network es n)
run_joined [] n i = i
run_joined (e ∷ es) n i = run_joined es (happens_in n e) (next_joined n e i)

start_places : (ps : List Profile) → AllByRecursion (IsPlace []) (map begins ps)
start_places [] = tt
start_places (p ∷ ps) = (inl (record { is = refl; client = client_start [] p.limit p.sender_limit p.subscriptions }), start_places ps)

start_handed : (test : Publish → Bool) (ps : List Profile) → handed_of test (map begins ps) ≡ 0
start_handed test [] = refl
start_handed test (p ∷ ps) =
    let a = sum_by-cons (by_place test) (begins p) (map begins ps) in
    let b = start_handed test ps in
    omega (arith, a, b)

pub joined : (n : Network) → IsReached n → IsJoined n
joined n r =
    let start : IsJoined (start_network r.profiles) = record { places = start_places r.profiles; ended = tt; counts = λ test. let z = start_handed test r.profiles in omega (arith, z) } in
    subst IsJoined (sym r.reached) (run_joined r.events (start_network r.profiles) start)

pub place_of : (n : Network) (p : Place) → IsJoined n → Contains n.places p → IsPlace n.handed p
place_of n p j has = All-contains (IsPlace n.handed) n.places p (All-from_recursion (IsPlace n.handed) n.places j.places) has
