-- Each step of a network that finds something to do leaves less work, and where a client that is here isn't at rest some step does.
use Rattle.std.proofs.Common.{◌≡◌, ℕ, zero, suc, ◌+◌, ◌-◌, ◌*◌, ◌<◌, ◌≤◌, Bool, true, false, cond, ◌&&◌, List, [], ◌∷◌, ◌++◌, length, drop, filter, map, Option, Some, None, Result, Ok, Err, refl, sym, ap, ◌∙◌, subst, arith, ◌⊎◌, inl, inr, ⊎_elim, length-append, mul-le-mul_left, mul-suc}
use Rattle.std.specs.Prelude.{is_none, not, sum_by, option_map}
use Rattle.std.specs.List.{All, AllByRecursion, filter_map, cons_option}
use Rattle.std.proofs.lemmas.List.Elements.{All-from_recursion, recursion_from_All}
use Rattle.std.proofs.lemmas.List.Sums.{sum_by-cons}
use Rattle.mqtt5_base.specs.declared.quality.QoS.{QoS}
use Rattle.mqtt5_publish.specs.declared.publish.Publish.{Publish}
use Rattle.mqtt5_codec.specs.declared.packet.Packet.{Packet}
use Rattle.mqtt5_codec.specs.declared.packet.Packet.TheVariants as packets
use Rattle.mqtt5_inflight.specs.declared.event.Request.TheVariants as requests
use Rattle.mqtt5_inflight.specs.declared.error.StateError.{StateError}
use Rattle.mqtt5_session.specs.Session.{Session}
use Rattle.mqtt5_session.specs.Requests.{on_request}
use Rattle.mqtt5_world.specs.declared.event.WorldEvent.TheVariants as world_events
use Rattle.mqtt5_world.specs.World.{World}
use Rattle.mqtt5_progress.specs.Progress.{work, found}
use Rattle.mqtt5_progress.proofs.Work.{lowers}
use Rattle.mqtt5_progress.specs.Subscribers.{hits}
use Rattle.mqtt5_network.specs.Connection.{is_sending, sent}
use Rattle.mqtt5_network.proofs.Sending.{InRange}
use Rattle.mqtt5_network.proofs.Taking.{IsTaken, out_taken}
use Rattle.mqtt5_network.specs.declared.subscription.Subscription.{Subscription}
use Rattle.mqtt5_network.specs.declared.event.ClientEvent.{ClientEvent}
use Rattle.mqtt5_network.specs.declared.event.ClientEvent.TheVariants as events
use Rattle.mqtt5_network.specs.declared.event.NetworkEvent.{NetworkEvent}
use Rattle.mqtt5_subscribe.specs.declared.filter.Filter.{Filter}
use Rattle.mqtt5_network.specs.Subscriptions.{subscribed, pattern_of, granted_for, holding, forwarded_under, forwarded_to}
use Rattle.mqtt5_network.specs.Asking.{identifier_of, share_of, subscription_of, is_ack, acks, others}
use Rattle.mqtt5_network.specs.Retained.{is_to, kept_of, retains, retained_after, retained_of, copied_under, copy_for, gets_copies, copies_of, copies_all, copies_for, copies_first}
use Rattle.mqtt5_network.specs.Client.{Client, goes_up, goes_down, taken_for, passes_on}
use Rattle.mqtt5_network.specs.Place.{Place, passes, happens_at, becomes_with, copies_in, queues_at, gets_at, AtRest}
use Rattle.mqtt5_network.specs.Network.{Network, changed, new_of, newly, routes, handed_by, happens_in, run_network, IsReached}
use Rattle.mqtt5_network.specs.Granted.{GoesOn}
use Rattle.mqtt5_network.specs.Steps.{IsStep, Steps, filters_in, filters_up, work_from, work_to, if_here, left_from, left_to, left_asked, work_left, client_moves, at_place, moves, moved, HereAtRest}
use Rattle.mqtt5_network.proofs.Grown.{IsForwarded, none_new}
use Rattle.mqtt5_network.proofs.Good.{filters_first, Less, flow_from, flow_to, up_less, down_less, pass_less, sender_limited}
use Rattle.mqtt5_network.proofs.Clients.{IsClient}
use Rattle.mqtt5_network.proofs.Counted.{done}
use Rattle.mqtt5_network.proofs.Places.{IsHere, IsGone, IsPlace, goes_on}
use Rattle.mqtt5_network.proofs.Joined.{IsJoined, next_joined, joined}

-- ---- a step of one client

-- how many filters are asked for in what arrives in an event
abbrev filters_of : ClientEvent → Place → ℕ
filters_of events.Up p = filters_first p.client.up
filters_of event p = 0

-- a step leaves less work from it by s and to it by t, at most s are handed on, m were found, and a request for so many filters was
-- taken in
pub record PlaceLess (p q : Place) (m filters : ℕ) : Type 0 where
  pub s : ℕ
  pub t : ℕ
  pub from : left_from q + s ≤ left_from p
  pub to : left_to q + t ≤ left_to p
  pub few : length (new_of p q) ≤ s
  pub found : m ≤ s + t
  pub asked : left_asked q + filters ≤ left_asked p

-- a session goes on in a step
step_on : (e : ClientEvent) → IsStep e → GoesOn e
step_on (events.Ask x) s = tt
step_on (events.Subscribe x) s = tt
step_on (events.Unsubscribe x) s = tt
step_on events.Up s = tt
step_on events.Down s = tt
step_on events.PassOn s = tt
step_on events.Lost s = tt
step_on events.Left s = tt
step_on (events.Turn f turn) s = tt
step_on events.Due s = tt
step_on (events.Dated interval) s = tt
step_on events.Expire s = tt
step_on (events.Back m n w) s = tt
step_on events.Ends s = absurd s

module _ (p : Place) where
  -- with another client there
  abbrev with : Client → Place
  with d = record p { client = d }

  here_less : (d : Client) (m filters : ℕ) → p.here ≡ true → Less p.client d m filters → PlaceLess p (with d) m filters
  here_less d m filters h l =
      let a = ap (λ b. if_here b (work_from p.client)) h in
      let b = ap (λ b. if_here b (work_from d)) h in
      let x = ap (λ b. if_here b (work_to p.client)) h in
      let y = ap (λ b. if_here b (work_to d)) h in
      let f = l.from in
      let g = l.to in
      let k = l.few in
      let v = ap (λ b. if_here b (filters_up p.client)) h in
      let u = ap (λ b. if_here b (filters_up d)) h in
      let r = l.asked in
      let w = none_new p.willed in
      let n = length-append (drop (length p.client.receiver.handed) d.receiver.handed) (drop (length p.willed) p.willed) in
      record { s = l.s; t = l.t; from = omega (arith, a, b, f); to = omega (arith, x, y, g); few = omega (arith, k, w, n); found = l.found; asked = omega (arith, v, u, r) }

  -- where it doesn't change
  same_less : PlaceLess p p 0 0
  same_less =
      let a = none_new p.client.receiver.handed in
      let b = none_new p.willed in
      let n = length-append (drop (length p.client.receiver.handed) p.client.receiver.handed) (drop (length p.willed) p.willed) in
      record { s = 0; t = 0; from = omega arith; to = omega arith; few = omega (arith, a, b, n); found = omega arith; asked = omega arith }

  module _ (handed : List Publish) where
    here_step : (e : ClientEvent) → IsStep e → IsHere handed p → PlaceLess p (happens_at p e) (client_moves e p) (filters_of e p)
    here_step (events.Ask x) s h = absurd s
    here_step (events.Subscribe x) s h = absurd s
    here_step (events.Unsubscribe x) s h = absurd s
    here_step events.Up s h = here_less _ (found p.client.up) (filters_first p.client.up) h.is (up_less h.client.limit h.client.sender_limit p.client h.client.good)
    here_step events.Down s h = here_less _ (found p.client.down) 0 h.is (down_less h.client.limit h.client.sender_limit p.client h.client.good)
    here_step events.PassOn s h =
        subst (λ b. PlaceLess p (with (passes b p.client)) (length p.client.queue - length (passes b p.client).queue) 0) (sym h.is)
        (here_less _ (length p.client.queue - length (passes_on p.client p.client.queue).queue) 0 h.is (pass_less h.client.limit h.client.sender_limit p.client h.client.good))
    here_step events.Lost s h = absurd s
    here_step events.Left s h = absurd s
    here_step (events.Turn f turn) s h = absurd s
    here_step events.Due s h = absurd s
    here_step (events.Dated interval) s h = absurd s
    here_step events.Expire s h = absurd s
    here_step (events.Back m n w) s h = absurd s
    here_step events.Ends s h = absurd s

    gone_step : (e : ClientEvent) → IsStep e → IsGone handed p → PlaceLess p (happens_at p e) (client_moves e p) (filters_of e p)
    gone_step (events.Ask x) s h = absurd s
    gone_step (events.Subscribe x) s h = absurd s
    gone_step (events.Unsubscribe x) s h = absurd s
    gone_step events.Up s h = subst (λ us. PlaceLess p (with (goes_up p.client us)) (found us) (filters_first us)) (sym h.up) same_less
    gone_step events.Down s h = subst (λ ds. PlaceLess p (with (goes_down p.client ds)) (found ds) 0) (sym h.down) same_less
    gone_step events.PassOn s h =
        subst (λ b. PlaceLess p (with (passes b p.client)) (length p.client.queue - length (passes b p.client).queue) 0) (sym h.is)
        (subst (λ m. PlaceLess p p m 0) (omega arith) same_less)
    gone_step events.Lost s h = absurd s
    gone_step events.Left s h = absurd s
    gone_step (events.Turn f turn) s h = absurd s
    gone_step events.Due s h = absurd s
    gone_step (events.Dated interval) s h = absurd s
    gone_step events.Expire s h = absurd s
    gone_step (events.Back m n w) s h = absurd s
    gone_step events.Ends s h = absurd s

    place_less : (e : ClientEvent) → IsStep e → IsPlace handed p → PlaceLess p (happens_at p e) (client_moves e p) (filters_of e p)
    place_less e s i = ⊎_elim (λ (h : IsHere handed p). here_step e s h) (λ (h : IsGone handed p). gone_step e s h) i

-- ---- what goes into the queues

same_length : (i : ℕ) (f : Place → Place) (ps : List Place) → length (changed i f ps) ≡ length ps
same_length i f [] = refl
same_length zero f (p ∷ ps) = refl
same_length (suc i) f (p ∷ ps) = let r = same_length i f ps in omega (arith, r)

-- what is forwarded of what is handed on is no more
fits_length : (own : Bool) (ss : List Subscription) (xs : List Publish) → length (filter_map (forwarded_to own ss) xs) ≤ length xs
fits_length own ss [] = omega arith
fits_length own ss (x ∷ xs) = by (granted_for own ss x) (fits_length own ss xs)
  where
    by : (o : Option QoS) → length (filter_map (forwarded_to own ss) xs) ≤ length xs → length (cons_option (option_map (λ q. forwarded_under (holding own ss x) q x) o) (filter_map (forwarded_to own ss) xs)) ≤ length (x ∷ xs)
    by None h = omega (arith, h)
    by (Some q) h = omega (arith, h)

-- so much work comes to each client by what goes into its queue
work_queues : (own : Bool) (xs : List Publish) (p : Place) → left_to (queues_at own xs p) ≤ left_to p + 5 * length xs
work_queues own xs p = by p.here
  where
    by : (b : Bool) → if_here b (work_to (queues_at own xs p).client) ≤ if_here b (work_to p.client) + 5 * length xs
    by true =
        let a = length-append p.client.queue (filter_map (forwarded_to own p.client.subscriptions) xs) in
        let b = fits_length own p.client.subscriptions xs in
        omega (arith, a, b)
    by false = omega arith

map_queues : (xs : List Publish) (ps : List Place) → (sum_by left_from (map (queues_at false xs) ps) ≡ sum_by left_from ps) × (sum_by left_to (map (queues_at false xs) ps) ≤ sum_by left_to ps + 5 * (length xs * length ps)) × (sum_by left_asked (map (queues_at false xs) ps) ≡ sum_by left_asked ps)
map_queues xs [] = (refl, omega arith, refl)
map_queues xs (p ∷ ps) =
    let r = map_queues xs ps in
    let f = r.0 in
    let t = r.1 in
    let k = r.2 in
    let a = sum_by-cons left_from (queues_at false xs p) (map (queues_at false xs) ps) in
    let b = sum_by-cons left_from p ps in
    let d = sum_by-cons left_to (queues_at false xs p) (map (queues_at false xs) ps) in
    let e = sum_by-cons left_to p ps in
    let w = work_queues false xs p in
    let m = mul-suc (length xs) (length ps) in
    let g = sum_by-cons left_asked (queues_at false xs p) (map (queues_at false xs) ps) in
    let h = sum_by-cons left_asked p ps in
    (omega (arith, f, a, b), omega (arith, t, d, e, w, m), omega (arith, k, g, h))

route_queues : (i : ℕ) (xs : List Publish) (ps : List Place) → (sum_by left_from (routes i xs ps) ≡ sum_by left_from ps) × (sum_by left_to (routes i xs ps) ≤ sum_by left_to ps + 5 * (length xs * length ps)) × (sum_by left_asked (routes i xs ps) ≡ sum_by left_asked ps)
route_queues i xs [] = (refl, omega arith, refl)
route_queues zero xs (p ∷ ps) =
    let r = map_queues xs ps in
    let f = r.0 in
    let t = r.1 in
    let k = r.2 in
    let a = sum_by-cons left_from (queues_at true xs p) (map (queues_at false xs) ps) in
    let b = sum_by-cons left_from p ps in
    let d = sum_by-cons left_to (queues_at true xs p) (map (queues_at false xs) ps) in
    let e = sum_by-cons left_to p ps in
    let w = work_queues true xs p in
    let m = mul-suc (length xs) (length ps) in
    let g = sum_by-cons left_asked (queues_at true xs p) (map (queues_at false xs) ps) in
    let h = sum_by-cons left_asked p ps in
    (omega (arith, f, a, b), omega (arith, t, d, e, w, m), omega (arith, k, g, h))
route_queues (suc i) xs (p ∷ ps) =
    let r = route_queues i xs ps in
    let f = r.0 in
    let t = r.1 in
    let k = r.2 in
    let a = sum_by-cons left_from (queues_at false xs p) (routes i xs ps) in
    let b = sum_by-cons left_from p ps in
    let d = sum_by-cons left_to (queues_at false xs p) (routes i xs ps) in
    let e = sum_by-cons left_to p ps in
    let w = work_queues false xs p in
    let m = mul-suc (length xs) (length ps) in
    let g = sum_by-cons left_asked (queues_at false xs p) (routes i xs ps) in
    let h = sum_by-cons left_asked p ps in
    (omega (arith, f, a, b), omega (arith, t, d, e, w, m), omega (arith, k, g, h))

map_length : (xs : List Publish) (ps : List Place) → length (map (queues_at false xs) ps) ≡ length ps
map_length xs [] = refl
map_length xs (p ∷ ps) = let r = map_length xs ps in omega (arith, r)

route_length : (i : ℕ) (xs : List Publish) (ps : List Place) → length (routes i xs ps) ≡ length ps
route_length i xs [] = refl
route_length zero xs (p ∷ ps) = let r = map_length xs ps in omega (arith, r)
route_length (suc i) xs (p ∷ ps) = let r = route_length i xs ps in omega (arith, r)

-- ---- copies

-- no more are retained than were handed on
filter_few : (b : Publish → Bool) (xs : List Publish) → length (filter b xs) ≤ length xs
filter_few b [] = omega arith
filter_few b (x ∷ xs) = by (b x) (filter_few b xs)
  where
    by : (c : Bool) → length (filter b xs) ≤ length xs → length (cond c (x ∷ filter b xs) (filter b xs)) ≤ length (x ∷ xs)
    by true h = omega (arith, h)
    by false h = omega (arith, h)

kept_few : (bytes : List ℕ) (x : Publish) → length (kept_of bytes x) ≤ 1
kept_few [] x = omega arith
kept_few (b ∷ bytes) x = omega arith

retains_few : (kept : List Publish) (x : Publish) → length (retains kept x) ≤ length kept + 1
retains_few kept x = by x.retain
  where
    by : (b : Bool) → length (cond b (filter (λ q. not (is_to x.topic q)) kept ++ kept_of x.payload x) kept) ≤ length kept + 1
    by true =
        let a = length-append (filter (λ q. not (is_to x.topic q)) kept) (kept_of x.payload x) in
        let b = filter_few (λ q. not (is_to x.topic q)) kept in
        let c = kept_few x.payload x in
        omega (arith, a, b, c)
    by false = omega arith

after_few : (kept xs : List Publish) → length (retained_after kept xs) ≤ length kept + length xs
after_few kept [] = omega arith
after_few kept (x ∷ xs) =
    let a = after_few (retains kept x) xs in
    let b = retains_few kept x in
    omega (arith, a, b)

-- a filter brings a copy of each at most
copied_few : (s : Subscription) (kept : List Publish) → length (filter_map (copy_for s) kept) ≤ length kept
copied_few s [] = omega arith
copied_few s (x ∷ kept) = by (hits (pattern_of s ∷ []) x) (copied_few s kept)
  where
    by : (b : Bool) → length (filter_map (copy_for s) kept) ≤ length kept → length (cons_option (cond b (Some (copied_under s x)) None) (filter_map (copy_for s) kept)) ≤ length (x ∷ kept)
    by true h = omega (arith, h)
    by false h = omega (arith, h)

copies_of_few : (kept : List Publish) (n : Option ℕ) (ss : List Subscription) (f : Filter) → length (copies_of kept n ss f) ≤ length kept
copies_of_few kept n ss f = by (is_none (share_of f.path) && gets_copies f.retain_forward_rule f.path ss)
  where
    by : (b : Bool) → length (cond b (filter_map (copy_for (subscription_of n f)) kept) []) ≤ length kept
    by true = copied_few (subscription_of n f) kept
    by false = omega arith

copies_all_few : (kept : List Publish) (n : Option ℕ) (fs : List Filter) (ss : List Subscription) → length (copies_all kept n fs ss) ≤ length fs * length kept
copies_all_few kept n [] ss = omega arith
copies_all_few kept n (f ∷ fs) ss =
    let a = length-append (copies_of kept n ss f) (copies_all kept n fs (subscribed (subscription_of n f) ss)) in
    let b = copies_of_few kept n ss f in
    let c = copies_all_few kept n fs (subscribed (subscription_of n f) ss) in
    omega (arith, a, b, c)

copies_for_few : (kept : List Publish) (ss : List Subscription) (x : Packet) → length (copies_for kept ss x) ≤ filters_in x * length kept
copies_for_few kept ss (packets.Subscribe x) = copies_all_few kept (identifier_of x.properties) x.filters ss
copies_for_few kept ss other = omega arith

copies_first_few : (kept : List Publish) (ss : List Subscription) (way : List Packet) → length (copies_first kept ss way) ≤ filters_first way * length kept
copies_first_few kept ss [] = omega arith
copies_first_few kept ss (x ∷ way) = copies_for_few kept ss x

up_few : (handed : List Publish) (p : Place) → length (copies_first (retained_of handed) p.client.subscriptions p.client.up) ≤ filters_first p.client.up * length handed
up_few handed p =
    let a = copies_first_few (retained_of handed) p.client.subscriptions p.client.up in
    let b = after_few [] handed in
    let c : length (retained_of handed) ≤ length handed = omega (arith, b) in
    let m = mul-le-mul_left (filters_first p.client.up) c in
    omega (arith, a, m)

copies_few : (handed : List Publish) (p : Place) (e : ClientEvent) → length (copies_in handed p e) ≤ filters_of e p * length handed
copies_few handed p (events.Ask x) = omega arith
copies_few handed p (events.Subscribe x) = omega arith
copies_few handed p (events.Unsubscribe x) = omega arith
copies_few handed p events.Up = up_few handed p
copies_few handed p events.Down = omega arith
copies_few handed p events.PassOn = omega arith
copies_few handed p events.Lost = omega arith
copies_few handed p events.Left = omega arith
copies_few handed p (events.Turn f turn) = omega arith
copies_few handed p events.Due = omega arith
copies_few handed p (events.Dated interval) = omega arith
copies_few handed p events.Expire = omega arith
copies_few handed p (events.Back m n w) = omega arith
copies_few handed p events.Ends = omega arith

work_gets : (xs : List Publish) (p : Place) → left_to (gets_at xs p) ≤ left_to p + 5 * length xs
work_gets xs p = by p.here
  where
    by : (b : Bool) → if_here b (work_to (gets_at xs p).client) ≤ if_here b (work_to p.client) + 5 * length xs
    by true = let a = length-append p.client.queue xs in omega (arith, a)
    by false = omega arith

-- ---- a step of a network

module _ (handed : List Publish) (event : ClientEvent) (is : IsStep event) where
  abbrev step : Place → Place
  step p = becomes_with handed event p

  step_is : (p : Place) → step p ≡ gets_at (copies_in handed p event) (happens_at p event)
  step_is p = ap (gets_at (copies_in handed p event)) (goes_on p event (step_on event is)).0

  -- so much less is left from the clients and to them, but for copies, at most s are handed on, what was found is within both, and a
  -- request for so many filters was taken in
  pub record AllLess (i : ℕ) (ps : List Place) : Type 0 where
    pub s : ℕ
    pub t : ℕ
    pub filters : ℕ
    pub from : sum_by left_from (changed i step ps) + s ≤ sum_by left_from ps
    pub to : sum_by left_to (changed i step ps) + t ≤ sum_by left_to ps + 5 * (filters * length handed)
    pub few : length (newly i (λ p. happens_at p event) ps) ≤ s
    pub found : at_place i (client_moves event) ps ≤ s + t
    pub asked : sum_by left_asked (changed i step ps) + filters ≤ sum_by left_asked ps

  all_less : (i : ℕ) (ps : List Place) → AllByRecursion (IsPlace handed) ps → AllLess i ps
  all_less i [] all = record { s = 0; t = 0; filters = 0; from = omega arith; to = omega arith; few = omega arith; found = omega arith; asked = omega arith }
  all_less zero (p ∷ ps) all =
      let l = place_less p handed event is all.0 in
      let x = ap left_from (step_is p) in
      let y = ap left_to (step_is p) in
      let z = ap left_asked (step_is p) in
      let a = sum_by-cons left_from (step p) ps in
      let b = sum_by-cons left_from p ps in
      let d = sum_by-cons left_to (step p) ps in
      let e = sum_by-cons left_to p ps in
      let u = sum_by-cons left_asked (step p) ps in
      let v = sum_by-cons left_asked p ps in
      let f = l.from in
      let g = l.to in
      let h = l.asked in
      let c = copies_few handed p event in
      let w = work_gets (copies_in handed p event) (happens_at p event) in
      record { s = l.s; t = l.t; filters = filters_of event p; from = omega (arith, a, b, f, x); to = omega (arith, d, e, g, y, c, w); few = l.few; found = l.found; asked = omega (arith, u, v, h, z) }
  all_less (suc i) (p ∷ ps) all =
      let l = all_less i ps all.1 in
      let a = sum_by-cons left_from p (changed i step ps) in
      let b = sum_by-cons left_from p ps in
      let d = sum_by-cons left_to p (changed i step ps) in
      let e = sum_by-cons left_to p ps in
      let u = sum_by-cons left_asked p (changed i step ps) in
      let v = sum_by-cons left_asked p ps in
      let f = l.from in
      let g = l.to in
      let h = l.asked in
      record { s = l.s; t = l.t; filters = l.filters; from = omega (arith, a, b, f); to = omega (arith, d, e, g); few = l.few; found = l.found; asked = omega (arith, u, v, h) }

-- a step weighs what it found
weighed : (n a b c d s t w : ℕ) → a + s ≤ b → c + t ≤ d → w ≤ s → (5 * n + 1) * a + (c + 5 * (w * n)) + (s + t) ≤ (5 * n + 1) * b + d
weighed n a b c d s t w x y z =
    let m = mul-le-mul_left n x in
    let p = mul-le-mul_left n z in
    omega (arith, m, p, x, y)

-- and what is asked for the copies that it brought
asked_weighed : (k j a x y h : ℕ) → j + a ≤ k → y ≤ x → h ≤ x → 5 * (j * y) + 5 * (a * h) ≤ 5 * (k * x)
asked_weighed k j a x y h less few below =
    let m = mul-le-mul_left x less in
    let p = mul-le-mul_left j few in
    let q = mul-le-mul_left a below in
    omega (arith, m, p, q)

step_lowers : (n : Network) (e : NetworkEvent) → IsJoined n → IsStep e.what → work_left (happens_in n e) + moves n e ≤ work_left n
step_lowers n e j step =
    subst (λ m. (5 * m + 1) * sum_by left_from next.places + sum_by left_to next.places + 5 * (sum_by left_asked next.places * (length next.handed + sum_by left_from next.places)) + moves n e ≤ work_left n) (sym z)
    (subst (λ m. (5 * length n.places + 1) * m + sum_by left_to next.places + 5 * (sum_by left_asked next.places * (length next.handed + m)) + moves n e ≤ work_left n) (sym q.0)
    (subst (λ m. (5 * length n.places + 1) * sum_by left_from after + sum_by left_to next.places + 5 * (m * (length next.handed + sum_by left_from after)) + moves n e ≤ work_left n) (sym q.2)
    (let c = weighed (length n.places) (sum_by left_from after) (sum_by left_from n.places) (sum_by left_to after) (sum_by left_to n.places + 5 * (l.filters * length n.handed)) l.s l.t (length more) l.from l.to l.few in
    let g = l.few in
    let h = l.from in
    let x = length-append n.handed more in
    let y : length next.handed + sum_by left_from after ≤ length n.handed + sum_by left_from n.places = omega (arith, g, h, x) in
    let a = asked_weighed (sum_by left_asked n.places) (sum_by left_asked after) l.filters (length n.handed + sum_by left_from n.places) (length next.handed + sum_by left_from after) (length n.handed) l.asked y (omega arith) in
    let f = l.found in
    let k : sum_by left_to next.places ≤ sum_by left_to after + 5 * (length more * length n.places) = subst (λ m. sum_by left_to next.places ≤ sum_by left_to after + 5 * (length more * m)) as_many q.1 in
    omega (arith, c, a, f, k))))
  where
    next : Network
    next = happens_in n e

    after : List Place
    after = changed e.client (becomes_with n.handed e.what) n.places

    more : List Publish
    more = handed_by n e

    as_many : length after ≡ length n.places
    as_many = same_length e.client (becomes_with n.handed e.what) n.places

    z : length next.places ≡ length n.places
    z = route_length e.client more after ∙ as_many

    q : (sum_by left_from next.places ≡ sum_by left_from after) × (sum_by left_to next.places ≤ sum_by left_to after + 5 * (length more * length after)) × (sum_by left_asked next.places ≡ sum_by left_asked after)
    q = route_queues e.client more after

    l : AllLess n.handed e.what step e.client n.places
    l = all_less n.handed e.what step e.client n.places j.places

-- ---- steps

steps_lower : (es : List NetworkEvent) (n : Network) → IsJoined n → Steps es → work_left (run_network es n) + moved es n ≤ work_left n
steps_lower [] n j s = omega arith
steps_lower (e ∷ es) n j s =
    let a = step_lowers n e j s.0 in
    let b = steps_lower es (happens_in n e) (next_joined n e j) s.1 in
    omega (arith, a, b)

pub network_lowers : (n : Network) (more : List NetworkEvent) → IsReached n → Steps more → work_left (run_network more n) + moved more n ≤ work_left n
network_lowers n more r s = steps_lower more n (joined n r) s

-- ---- no work is rest

no_work : (v : World) → work v ≡ 0 → (v.up ≡ []) × (v.down ≡ [])
no_work v z = (by_up v.up refl, by_down v.down refl)
  where
    by_up : (us : List Packet) → v.up ≡ us → v.up ≡ []
    by_up [] e = e
    by_up (x ∷ us) e = absurd (let l = lowers (world_events.Up ∷ []) v (tt {0}) in let f = ap found e in omega (arith, l, f, z))

    by_down : (ds : List Packet) → v.down ≡ ds → v.down ≡ []
    by_down [] e = e
    by_down (x ∷ ds) e = absurd (let l = lowers (world_events.Down ∷ []) v (tt {0}) in let f = ap found e in omega (arith, l, f, z))

no_packets : (xs : List Packet) → length xs ≡ 0 → xs ≡ []
no_packets [] e = refl
no_packets (x ∷ xs) e = absurd (omega (arith, e))

no_publishes : (xs : List Publish) → length xs ≡ 0 → xs ≡ []
no_publishes [] e = refl
no_publishes (x ∷ xs) e = absurd (omega (arith, e))

-- neither a sender's packets, nor acks, nor others
none_at_all : (xs : List Packet) → sent xs ≡ [] → acks xs ≡ [] → others xs ≡ [] → xs ≡ []
none_at_all [] s a o = refl
none_at_all (x ∷ xs) s a o = by (is_sending x) (is_ack x) s a o
  where
    by : (b c : Bool) → cond b (x ∷ sent xs) (sent xs) ≡ [] → cond c (x ∷ acks xs) (acks xs) ≡ [] → cond (not b && not c) (x ∷ others xs) (others xs) ≡ [] → x ∷ xs ≡ []
    by true c s a o = absurd cc
    by false true s a o = absurd cc
    by false false s a o = absurd cc

place_rest : (p : Place) → left_from p ≡ 0 → left_to p ≡ 0 → p.here ≡ true → AtRest p
place_rest p f t h =
    let x : work_from p.client ≡ 0 = sym (ap (λ b. if_here b (work_from p.client)) h) ∙ f in
    let y : work_to p.client ≡ 0 = sym (ap (λ b. if_here b (work_to p.client)) h) ∙ t in
    let a = no_work (flow_from p.client) x in
    let b = no_work (flow_to p.client []) (omega (arith, y)) in
    record {
      here = h;
      up = none_at_all p.client.up a.0 b.1 (no_packets (others p.client.up) (omega (arith, y)));
      down = none_at_all p.client.down b.0 a.1 (no_packets (others p.client.down) (omega (arith, y)));
      queue = no_publishes p.client.queue (omega (arith, y));
    }

abbrev RestsHere : Place → Type 0
RestsHere p = p.here ≡ true → AtRest p

places_rest : (ps : List Place) → sum_by left_from ps ≡ 0 → sum_by left_to ps ≡ 0 → AllByRecursion RestsHere ps
places_rest [] f t = tt
places_rest (p ∷ ps) f t =
    let a = sum_by-cons left_from p ps in
    let b = sum_by-cons left_to p ps in
    (place_rest p (omega (arith, a, f)) (omega (arith, b, t)), places_rest ps (omega (arith, a, f)) (omega (arith, b, t)))

no_work_left : (n : Network) → work_left n ≡ 0 → HereAtRest n
no_work_left n none = All-from_recursion RestsHere n.places (places_rest n.places (omega (arith, none)) (omega (arith, none)))

pub network_rests : (n : Network) (more : List NetworkEvent) → IsReached n → Steps more → work_left n ≤ moved more n → HereAtRest (run_network more n)
network_rests n more r s le = no_work_left (run_network more n) (let l = network_lowers n more r s in omega (arith, l, le))

-- ---- where a client that is here isn't at rest, a step finds something

abbrev Finds : Place → Type 0
Finds p = (event : ClientEvent) × IsStep event × (client_moves event p ≡ 1)

abbrev Can : Place → Type 0
Can p = 0 < p.client.sender.core.limit

module _ (handed : List Publish) (c : Client) (i : IsClient handed c) (can : 0 < c.sender.core.limit) where
  range : InRange c.sender.core
  range = i.good.range (subst (λ n. 0 < n) (sender_limited i.limit i.sender_limit c i.good) can)

  module _ (x : Publish) (rest : List Publish) (l : c.queue ≡ x ∷ rest) where
    taken_moves : (r : Result (Option Packet) StateError) (s : Session) → IsTaken (r, s) → length c.queue - length (taken_for c x rest r s).queue ≡ 1
    taken_moves (Ok reply) s t = let f = ap length l in omega (arith, f)
    taken_moves (Err e) s t = absurd (let f = t.1 in cc)

    pub passes_moves : c.up ≡ [] → c.down ≡ [] → length c.queue - length (passes_on c (x ∷ rest)).queue ≡ 1
    passes_moves u d =
        let is : IsForwarded x × AllByRecursion IsForwarded rest = subst (AllByRecursion IsForwarded) l i.good.queued in
        taken_moves (on_request c.sender (requests.Publish x) 0).0 (on_request c.sender (requests.Publish x) 0).1
        (out_taken c.sender (done handed c i u d).sender range x is.0.unnumbered is.0.plain)

module _ (handed : List Publish) (p : Place) (can : Can p) where
  here_finds : IsHere handed p → RestsHere p ⊎ Finds p
  here_finds h = by p.client.up p.client.down p.client.queue refl refl refl
    where
      by : (us ds : List Packet) (xs : List Publish) → p.client.up ≡ us → p.client.down ≡ ds → p.client.queue ≡ xs → RestsHere p ⊎ Finds p
      by (x ∷ us) ds xs u d l = inr (events.Up, tt, ap found u)
      by [] (x ∷ ds) xs u d l = inr (events.Down, tt, ap found d)
      by [] [] (x ∷ rest) u d l =
          inr (events.PassOn, tt, ap (λ b. length p.client.queue - length (passes b p.client).queue) h.is ∙ ap (λ xs. length p.client.queue - length (passes_on p.client xs).queue) l ∙ passes_moves handed p.client h.client can x rest l u d)
      by [] [] [] u d l = inl (λ e. record { here = e; up = u; down = d; queue = l })

  gone_rests : IsGone handed p → RestsHere p ⊎ Finds p
  gone_rests h = inl (λ e. absurd (let z = sym e ∙ h.is in cc))

  place_finds : IsPlace handed p → RestsHere p ⊎ Finds p
  place_finds i = ⊎_elim (λ (h : IsHere handed p). here_finds h) (λ (h : IsGone handed p). gone_rests h) i

-- of all clients
abbrev FindsIn : List Place → Type 0
FindsIn ps = (i : ℕ) × (event : ClientEvent) × IsStep event × (at_place i (client_moves event) ps ≡ 1)

places_find : (handed : List Publish) (ps : List Place) → AllByRecursion (IsPlace handed) ps → AllByRecursion Can ps → AllByRecursion RestsHere ps ⊎ FindsIn ps
places_find handed [] all can = inl tt
places_find handed (p ∷ ps) all can = ⊎_elim
    (λ (r : RestsHere p). ⊎_elim
    (λ (rs : AllByRecursion RestsHere ps). inl (r, rs))
    (λ (f : FindsIn ps). inr (suc f.0, f.1, f.2, f.3))
    (places_find handed ps all.1 can.1))
    (λ (f : Finds p). inr (zero, f.0, f.1, f.2))
    (place_finds handed p can.0 all.0)

pub network_finds : (n : Network) → IsReached n → All Can n.places → HereAtRest n ⊎ ((e : NetworkEvent) × IsStep e.what × (moves n e ≡ 1))
network_finds n r can = ⊎_elim
    (λ (rest : AllByRecursion RestsHere n.places). inl (All-from_recursion RestsHere n.places rest))
    (λ (f : FindsIn n.places). inr (record { client = f.0; what = f.1 }, f.2, f.3))
    (places_find n.handed n.places (joined n r).places (recursion_from_All Can n.places can))
