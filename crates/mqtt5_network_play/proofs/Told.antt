-- What is told of a network that is reached: the counts of its contents.
use Rattle.std.proofs.Common.{◌≡◌, ◌≢◌, ℕ, ◌+◌, ◌*◌, ◌≤◌, true, List, [], ◌∷◌, ◌++◌, Some, None, Option, count_by, refl, sym, ap, ◌∙◌, subst, arith, map, length}
use Rattle.std.specs.Prelude.{Bool, false, sum_by, slice_get, option_map}
use Rattle.std.specs.List.{All, AllByRecursion, Contains}
use Rattle.std.proofs.lemmas.Option.{slice_get-map}
use Rattle.std.proofs.lemmas.List.{nil_from_length}
use Rattle.std.proofs.lemmas.List.Elements.{All-map, All-weaker, All-contains_itself, All-from_recursion, recursion_from_All}
use Rattle.std.proofs.lemmas.List.Sums.{sum_by-cons}
use Rattle.mqtt5_base.specs.declared.quality.QoS.TheVariants.{AtMostOnce, AtLeastOnce, ExactlyOnce}
use Rattle.mqtt5_publish.specs.declared.publish.Publish.{Publish}
use Rattle.mqtt5_world.specs.Delivery.{has_content, times}
use Rattle.mqtt5_world.proofs.Contents.{content_class, class_of}
use Rattle.mqtt5_network.specs.declared.subscription.Subscription.{Subscription}
use Rattle.mqtt5_network.specs.declared.event.ClientEvent.{ClientEvent}
use Rattle.mqtt5_network.specs.declared.event.ClientEvent.TheVariants as events
use Rattle.mqtt5_network.specs.declared.event.NetworkEvent.{NetworkEvent}
use Rattle.mqtt5_network.specs.Place.{Place, AtRest}
use Rattle.mqtt5_network.specs.Network.{Network, Profile, start_network, run_network, IsReached, AllAtRest, given_by, given_in, most_by, most_in, lost_in, unacked_in}
use Rattle.mqtt5_network.specs.Granted.{KeepsSubscriptions, Unchanged, KeepsFirst, reaching}
use Rattle.mqtt5_network.specs.Steps.{IsStep, Steps, HereAtRest}
use Rattle.mqtt5_network.proofs.Counted.{shown_most, shown_losses, shown_exactly, shown_least}
use Rattle.mqtt5_network.proofs.Places.{hidden_of, here_of}
use Rattle.mqtt5_network.proofs.Joined.{joined, place_of}
use Rattle.mqtt5_network.proofs.Handed.{rest_of}
use Rattle.mqtt5_network.proofs.Standing.{standing_twice, standing_most, standing_losses, standing_exactly, standing_least}
use Rattle.mqtt5_network_play.specs.declared.report.ClientReport.{ClientReport}
use Rattle.mqtt5_network_play.specs.declared.report.NetworkReport.{NetworkReport}
use Rattle.mqtt5_network_play.specs.Reports.{told, all_told, ClientRests, Rests, HereRest, KeepsAll, given_times, most_times, SettlesTo}
use Rattle.mqtt5_network_play.proofs.Stepped.{reached_by, run_on}

-- ---- rest

-- by what is told of a client
client_rests : (p : Place) → AtRest p → ClientRests (told p)
client_rests p r = record { here = r.here; up = ap length r.up; down = ap length r.down; queued = ap length r.queue }

rests_client : (p : Place) → ClientRests (told p) → AtRest p
rests_client p r = record { here = r.here; up = nil_from_length p.client.up r.up; down = nil_from_length p.client.down r.down; queue = nil_from_length p.client.queue r.queued }

-- what is told of each is so of each
untold : (P : ClientReport → Type 0) (Q : Place → Type 0) → ((p : Place) → P (told p) → Q p) → (ps : List Place) → All P (map told ps) → All Q ps
untold P Q f ps all = All-from_recursion Q ps (by ps (recursion_from_All P (map told ps) all))
  where
    by : (ps : List Place) → AllByRecursion P (map told ps) → AllByRecursion Q ps
    by [] all = all
    by (p ∷ ps) all = (f p all.0, by ps all.1)

told_rests : (n : Network) → Rests (all_told n) → AllAtRest n
told_rests n = untold ClientRests AtRest rests_client n.places

abbrev RestsIfHere : ClientReport → Type 0
RestsIfHere c = c.here ≡ true → ClientRests c

here_told : (n : Network) → HereAtRest n → HereRest (all_told n)
here_told n rest = All-map RestsIfHere told n.places (All-weaker (λ (p : Place). p.here ≡ true → AtRest p) (λ p. RestsIfHere (told p)) (λ p f h. client_rests p (f h)) n.places rest)

-- where each is here
all_rest : (n : Network) → HereAtRest n → All (λ (c : ClientReport). c.here ≡ true) (all_told n).clients → AllAtRest n
all_rest n rest here = λ i p has. (rest i p has) (untold (λ (c : ClientReport). c.here ≡ true) (λ (p : Place). p.here ≡ true) (λ p h. h) n.places here i p has)

-- ---- counts

sum_told : (f : ClientReport → ℕ) (ps : List Place) → sum_by f (map told ps) ≡ sum_by (λ (p : Place). f (told p)) ps
sum_told f [] = refl
sum_told f (p ∷ ps) =
    let a = sum_by-cons f (told p) (map told ps) in
    let b = sum_by-cons (λ (p : Place). f (told p)) p ps in
    let r = sum_told f ps in
    omega (arith, a, b, r)

none_told : (ps : List Place) → map told ps ≡ [] → ps ≡ []
none_told [] e = refl
none_told (p ∷ ps) e = absurd cc

-- ---- of a report

module _ (n : Network) (reached : IsReached n) (r : NetworkReport) (is : r ≡ all_told n) where
  -- what is so of each client is so of what is told of each
  each_told : (P : ClientReport → Type 0) → ((p : Place) → Contains n.places p → P (told p)) → All P r.clients
  each_told P f = subst (λ (r : NetworkReport). All P r.clients) (sym is) (All-map P told n.places (All-weaker (Contains n.places) (λ p. P (told p)) f n.places (All-contains_itself n.places)))

  pub report_most : All (λ (c : ClientReport). (k : Publish) → k.qos ≢ AtLeastOnce → times k c.shown ≤ times k c.routed) r.clients
  report_most = each_told (λ c. (k : Publish) → k.qos ≢ AtLeastOnce → times k c.shown ≤ times k c.routed)
      (λ p has k ne. shown_most n.handed _ (hidden_of n.handed p (place_of n p (joined n reached) has)).client (has_content k) k.qos ne (content_class k))

  pub report_losses : All (λ (c : ClientReport). (k : Publish) → times k c.shown ≤ (c.lost + 1) * times k c.routed) r.clients
  report_losses = each_told (λ c. (k : Publish) → times k c.shown ≤ (c.lost + 1) * times k c.routed)
      (λ p has k. shown_losses n.handed _ (hidden_of n.handed p (place_of n p (joined n reached) has)).client (has_content k) k.qos (content_class k))

  exactly_at : (p : Place) → Contains n.places p → AtRest p → (k : Publish) → k.qos ≡ ExactlyOnce → times k (told p).shown + times k (told p).expired ≡ times k (told p).routed
  exactly_at p has rest k q = shown_exactly n.handed p.client (here_of n.handed p (place_of n p (joined n reached) has) rest.here) (has_content k) (rest_of p rest) (class_of k ExactlyOnce q)

  least_at : (p : Place) → Contains n.places p → AtRest p → (k : Publish) → k.qos ≡ AtLeastOnce → times k (told p).routed ≤ times k (told p).shown + times k (told p).expired
  least_at p has rest k q = shown_least n.handed p.client (here_of n.handed p (place_of n p (joined n reached) has) rest.here) (has_content k) (rest_of p rest) (class_of k AtLeastOnce q)

  pub report_exactly : All (λ (c : ClientReport). (k : Publish) → ClientRests c → k.qos ≡ ExactlyOnce → times k c.shown + times k c.expired ≡ times k c.routed) r.clients
  report_exactly = each_told (λ c. (k : Publish) → ClientRests c → k.qos ≡ ExactlyOnce → times k c.shown + times k c.expired ≡ times k c.routed)
      (λ p has k rest q. exactly_at p has (rests_client p rest) k q)

  pub report_least : All (λ (c : ClientReport). (k : Publish) → ClientRests c → k.qos ≡ AtLeastOnce → times k c.routed ≤ times k c.shown + times k c.expired) r.clients
  report_least = each_told (λ c. (k : Publish) → ClientRests c → k.qos ≡ AtLeastOnce → times k c.routed ≤ times k c.shown + times k c.expired)
      (λ p has k rest q. least_at p has (rests_client p rest) k q)

  module _ (rest : HereAtRest n) where
    at_rest : (p : Place) → Contains n.places p → p.here ≡ true → AtRest p
    at_rest p has here = subst (λ p. p.here ≡ true → AtRest p) has.2 (rest has.0 _ has.1) here

    pub here_exactly : All (λ (c : ClientReport). (k : Publish) → c.here ≡ true → k.qos ≡ ExactlyOnce → times k c.shown + times k c.expired ≡ times k c.routed) r.clients
    here_exactly = each_told (λ c. (k : Publish) → c.here ≡ true → k.qos ≡ ExactlyOnce → times k c.shown + times k c.expired ≡ times k c.routed)
        (λ p has k here q. exactly_at p has (at_rest p has here) k q)

    pub here_least : All (λ (c : ClientReport). (k : Publish) → c.here ≡ true → k.qos ≡ AtLeastOnce → times k c.routed ≤ times k c.shown + times k c.expired) r.clients
    here_least = each_told (λ c. (k : Publish) → c.here ≡ true → k.qos ≡ AtLeastOnce → times k c.routed ≤ times k c.shown + times k c.expired)
        (λ p has k here q. least_at p has (at_rest p has here) k q)

    pub report_rests : HereRest r
    report_rests = subst HereRest (sym is) (here_told n rest)

-- ---- of a client that keeps its subscriptions

-- the one at a place, by what is told of it
record FirstAt (es : List NetworkEvent) (n : Network) (i : ℕ) (c : ClientReport) : Type 0 where
  place : Place
  told_is : told place ≡ c
  first : KeepsFirst n i place
  none : n.ended ≡ []

module _ (ps : List Profile) (es : List NetworkEvent) (n : Network) (same : n ≡ run_network es (start_network ps)) (r : NetworkReport) (is : r ≡ all_told n) where
  first_at : (i : ℕ) (c : ClientReport) → KeepsAll es r i c → FirstAt es n i c
  first_at i c keeps = by (slice_get n.places i) refl
    where
      here : option_map told (slice_get n.places i) ≡ Some c
      here = sym (slice_get-map told n.places i) ∙ ap (λ (r : NetworkReport). slice_get r.clients i) (sym is) ∙ keeps.is_at

      by : (o : Option Place) → slice_get n.places i ≡ o → FirstAt es n i c
      by None e = absurd (let z : None ≡ Some c = sym (ap (option_map told) e) ∙ here in cc)
      by (Some p) e =
          let z : Some (told p) ≡ Some c = sym (ap (option_map told) e) ∙ here in
          let t : told p ≡ c = cc in
          record {
            place = p;
            told_is = t;
            first = record { profiles = ps; events = es; reached = same; unchanged = keeps.unchanged; is_at = e; local = subst (λ (c : ClientReport). All (λ (s : Subscription). s.no_local ≡ false) c.subscriptions) (sym t) keeps.local };
            none = none_told n.ended (ap (λ (r : NetworkReport). r.ended) (sym is) ∙ keeps.ended);
          }

  module _ (k : Publish) (p : Place) (none : n.ended ≡ []) where
    abbrev reach : Publish → Bool
    reach = reaching p.client.subscriptions (has_content k)

    given_told : given_times k (told p) r.clients ≡ given_in n reach
    given_told =
        let a = ap (λ (r : NetworkReport). given_times k (told p) r.clients) is in
        let b = sum_told (λ (d : ClientReport). count_by reach d.accepted + count_by reach d.willed) n.places in
        let c = ap (λ ps. given_by ps reach) none in
        omega (arith, a, b, c)

    most_told : most_times k (told p) r.clients ≡ (p.client.lost + 1) * most_in n reach
    most_told =
        let b = sum_told (λ (d : ClientReport). (d.lost + 1) * count_by reach d.accepted + count_by reach d.willed) n.places in
        let c : most_by n.ended reach ≡ 0 = ap (λ ps. most_by ps reach) none in
        ap (λ (r : NetworkReport). most_times k (told p) r.clients) is
        ∙ ap (λ m. (p.client.lost + 1) * m) (let m : sum_by (λ (d : ClientReport). (d.lost + 1) * count_by reach d.accepted + count_by reach d.willed) (map told n.places) ≡ most_in n reach = omega (arith, b, c) in m)

    none_lost : lost_in n reach ≡ 0
    none_lost = ap (λ ps. lost_in (record n { ended = ps }) reach) none

    none_unacked : unacked_in n reach ≡ 0
    none_unacked = ap (λ ps. unacked_in (record n { ended = ps }) reach) none

  module _ (i : ℕ) (c : ClientReport) (k : Publish) (keeps : KeepsAll es r i c) where
    f : FirstAt es n i c
    f = first_at i c keeps

    to : (P : ClientReport → Type 0) → P (told f.place) → P c
    to P h = subst P f.told_is h

    pub kept_twice : k.qos ≡ ExactlyOnce → times k c.shown ≤ given_times k c r.clients
    kept_twice q = to (λ c. times k c.shown ≤ given_times k c r.clients)
        (let g = given_told k f.place f.none in
        let a = standing_twice n i f.place f.first (has_content k) (class_of k ExactlyOnce q) in
        omega (arith, g, a))

    pub kept_most : k.qos ≡ AtMostOnce → ((x : Publish) → reaching c.subscriptions (has_content k) x ≡ true → x.qos ≢ AtLeastOnce) → times k c.shown ≤ given_times k c r.clients
    kept_most q none = to (λ c. ((x : Publish) → reaching c.subscriptions (has_content k) x ≡ true → x.qos ≢ AtLeastOnce) → times k c.shown ≤ given_times k c r.clients)
        (λ none. let g = given_told k f.place f.none in
        let a = standing_most n i f.place f.first (has_content k) AtMostOnce (λ e. absurd cc) (class_of k AtMostOnce q) none in
        omega (arith, g, a)) none

    pub kept_losses : times k c.shown ≤ most_times k c r.clients
    kept_losses = to (λ c. times k c.shown ≤ most_times k c r.clients)
        (let g = most_told k f.place f.none in
        let a = standing_losses n i f.place f.first (has_content k) k.qos (content_class k) in
        omega (arith, g, a))

    module _ (rest : AllAtRest n) where
      pub kept_exactly : k.qos ≡ ExactlyOnce → times k c.shown + times k c.expired ≡ given_times k c r.clients
      kept_exactly q = to (λ c. times k c.shown + times k c.expired ≡ given_times k c r.clients)
          (let g = given_told k f.place f.none in
          let a = standing_exactly n i f.place f.first (has_content k) rest (class_of k ExactlyOnce q) in
          let l = none_lost k f.place f.none in
          omega (arith, g, a, l))

      pub kept_least : k.qos ≡ AtLeastOnce → given_times k c r.clients ≤ times k c.shown + times k c.expired
      kept_least q = to (λ c. given_times k c r.clients ≤ times k c.shown + times k c.expired)
          (let g = given_told k f.place f.none in
          let a = standing_least n i f.place f.first (has_content k) rest (class_of k AtLeastOnce q) in
          let l = none_lost k f.place f.none in
          let u = none_unacked k f.place f.none in
          omega (arith, g, a, l, u))

-- ---- of whole runs

step_keeps : (e : ClientEvent) → IsStep e → KeepsSubscriptions e
step_keeps events.Up s = tt
step_keeps events.Down s = tt
step_keeps events.PassOn s = tt
step_keeps other s = absurd s

steps_keep : (i : ℕ) (fs : List NetworkEvent) → Steps fs → Unchanged i fs
steps_keep i [] s = tt
steps_keep i (f ∷ fs) s = (λ e. step_keeps f.what s.0, steps_keep i fs s.1)

unchanged_more : (i : ℕ) (es fs : List NetworkEvent) → Unchanged i es → Steps fs → Unchanged i (es ++ fs)
unchanged_more i [] fs u s = steps_keep i fs s
unchanged_more i (e ∷ es) fs u s = (u.0, unchanged_more i es fs u.1 s)

module _ (ps : List Profile) (es : List NetworkEvent) (r : NetworkReport) where
  abbrev ended : Network
  ended = run_network es (start_network ps)

  reached : IsReached ended
  reached = reached_by ps es ended refl

  module _ (is : r ≡ all_told ended) where
    pub played_most : All (λ (c : ClientReport). (k : Publish) → k.qos ≢ AtLeastOnce → times k c.shown ≤ times k c.routed) r.clients
    played_most = report_most ended reached r is

    pub played_losses : All (λ (c : ClientReport). (k : Publish) → times k c.shown ≤ (c.lost + 1) * times k c.routed) r.clients
    played_losses = report_losses ended reached r is

    pub played_exactly : All (λ (c : ClientReport). (k : Publish) → ClientRests c → k.qos ≡ ExactlyOnce → times k c.shown + times k c.expired ≡ times k c.routed) r.clients
    played_exactly = report_exactly ended reached r is

    pub played_least : All (λ (c : ClientReport). (k : Publish) → ClientRests c → k.qos ≡ AtLeastOnce → times k c.routed ≤ times k c.shown + times k c.expired) r.clients
    played_least = report_least ended reached r is

    resting : Rests r → AllAtRest ended
    resting rests = told_rests ended (subst Rests is rests)

    pub standing_played_twice : (i : ℕ) (c : ClientReport) (k : Publish) → KeepsAll es r i c → k.qos ≡ ExactlyOnce → times k c.shown ≤ given_times k c r.clients
    standing_played_twice i c k keeps = kept_twice ps es ended refl r is i c k keeps

    pub standing_played_most : (i : ℕ) (c : ClientReport) (k : Publish) → KeepsAll es r i c → k.qos ≡ AtMostOnce → ((x : Publish) → reaching c.subscriptions (has_content k) x ≡ true → x.qos ≢ AtLeastOnce) → times k c.shown ≤ given_times k c r.clients
    standing_played_most i c k keeps = kept_most ps es ended refl r is i c k keeps

    pub standing_played_losses : (i : ℕ) (c : ClientReport) (k : Publish) → KeepsAll es r i c → times k c.shown ≤ most_times k c r.clients
    standing_played_losses i c k keeps = kept_losses ps es ended refl r is i c k keeps

    pub standing_played_exactly : (i : ℕ) (c : ClientReport) (k : Publish) → KeepsAll es r i c → Rests r → k.qos ≡ ExactlyOnce → times k c.shown + times k c.expired ≡ given_times k c r.clients
    standing_played_exactly i c k keeps rests = kept_exactly ps es ended refl r is i c k keeps (resting rests)

    pub standing_played_least : (i : ℕ) (c : ClientReport) (k : Publish) → KeepsAll es r i c → Rests r → k.qos ≡ AtLeastOnce → given_times k c r.clients ≤ times k c.shown + times k c.expired
    standing_played_least i c k keeps rests = kept_least ps es ended refl r is i c k keeps (resting rests)

  module _ (s : SettlesTo ended r) where
    abbrev all_events : List NetworkEvent
    all_events = es ++ s.steps.more

    run_is : s.settled ≡ run_network all_events (start_network ps)
    run_is = run_on ps es s.settled s.steps

    reached_then : IsReached s.settled
    reached_then = reached_by ps all_events s.settled run_is

    pub settled_rests : HereRest r
    settled_rests = report_rests s.settled reached_then r s.report s.rest

    pub settled_exactly : All (λ (c : ClientReport). (k : Publish) → c.here ≡ true → k.qos ≡ ExactlyOnce → times k c.shown + times k c.expired ≡ times k c.routed) r.clients
    settled_exactly = here_exactly s.settled reached_then r s.report s.rest

    pub settled_least : All (λ (c : ClientReport). (k : Publish) → c.here ≡ true → k.qos ≡ AtLeastOnce → times k c.routed ≤ times k c.shown + times k c.expired) r.clients
    settled_least = here_least s.settled reached_then r s.report s.rest

    pub settled_losses : All (λ (c : ClientReport). (k : Publish) → times k c.shown ≤ (c.lost + 1) * times k c.routed) r.clients
    settled_losses = report_losses s.settled reached_then r s.report

    keeps_on : (i : ℕ) (c : ClientReport) → KeepsAll es r i c → KeepsAll all_events r i c
    keeps_on i c keeps = record { is_at = keeps.is_at; unchanged = unchanged_more i es s.steps.more keeps.unchanged s.steps.steps; local = keeps.local; ended = keeps.ended }

    resting_then : All (λ (c : ClientReport). c.here ≡ true) r.clients → AllAtRest s.settled
    resting_then here = all_rest s.settled s.rest (subst (λ (r : NetworkReport). All (λ (c : ClientReport). c.here ≡ true) r.clients) s.report here)

    pub standing_settled_exactly : (i : ℕ) (c : ClientReport) (k : Publish) → KeepsAll es r i c → All (λ (d : ClientReport). d.here ≡ true) r.clients → k.qos ≡ ExactlyOnce → times k c.shown + times k c.expired ≡ given_times k c r.clients
    standing_settled_exactly i c k keeps here = kept_exactly ps all_events s.settled run_is r s.report i c k (keeps_on i c keeps) (resting_then here)

    pub standing_settled_least : (i : ℕ) (c : ClientReport) (k : Publish) → KeepsAll es r i c → All (λ (d : ClientReport). d.here ≡ true) r.clients → k.qos ≡ AtLeastOnce → given_times k c r.clients ≤ times k c.shown + times k c.expired
    standing_settled_least i c k keeps here = kept_least ps all_events s.settled run_is r s.report i c k (keeps_on i c keeps) (resting_then here)

    pub standing_settled_losses : (i : ℕ) (c : ClientReport) (k : Publish) → KeepsAll es r i c → times k c.shown ≤ most_times k c r.clients
    standing_settled_losses i c k keeps = kept_losses ps all_events s.settled run_is r s.report i c k (keeps_on i c keeps)
