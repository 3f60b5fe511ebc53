-- What changes in a list of clients where the one at a place does, and then publishes go into the queues.
use Rattle.std.proofs.Common.{◌≡◌, ℕ, zero, suc, ◌+◌, ◌<◌, ◌≤◌, ◌==◌, true, false, List, [], ◌∷◌, ◌++◌, length, map, refl, sym, ap, ◌∙◌, arith, append-nil, add-one, subst, slice_index_or}
use Rattle.std.specs.Prelude.{Bool}
use Rattle.std.proofs.lemmas.Bool.{eqb-true}
use Rattle.std.proofs.lemmas.List.{nil_from_length}
use Rattle.std.proofs.Math.ListN.{set}
use Rattle.std.proofs.Math.Dec.{eqb-suc-suc, eqb-suc-zero, eqb-zero-suc}
use Rattle.mqtt5_publish.specs.declared.publish.Publish.{Publish}
use Rattle.mqtt5_network.specs.declared.event.ClientEvent.{ClientEvent}
use Rattle.mqtt5_network.specs.declared.event.ClientEvent.TheVariants as events
use Rattle.mqtt5_network.specs.declared.event.NetworkEvent.{NetworkEvent}
use Rattle.mqtt5_network.specs.Place.{Place, ended as ended_of, happens_at as happens_of, becomes, becomes_with, ends_of, renewed, queues_at, gets_at, copies_in}
use Rattle.mqtt5_network.specs.Network.{Network, changed, new_of, newly, routes, ends_at, handed_by, happens_in}
use Rattle.mqtt5_network_play.specs.Plays.{at, is_end, before, queues_of}

-- ---- the client at a place

changed_at : (i : ℕ) (f : Place → Place) (ps : List Place) (p : Place) → i < length ps → changed i f ps ≡ set ps i (f (slice_index_or ps i p))
changed_at i f [] p below = absurd (omega arith)
changed_at zero f (q ∷ ps) p below = refl
changed_at (suc i) f (q ∷ ps) p below = ap (λ xs. q ∷ xs) (changed_at i f ps p (omega arith))

pub changed_long : (i : ℕ) (f : Place → Place) (ps : List Place) → length (changed i f ps) ≡ length ps
changed_long i f [] = refl
changed_long zero f (q ∷ ps) = refl
changed_long (suc i) f (q ∷ ps) = ap suc (changed_long i f ps)

changed_twice : (i : ℕ) (f g : Place → Place) (ps : List Place) → changed i f (changed i g ps) ≡ changed i (λ p. f (g p)) ps
changed_twice i f g [] = refl
changed_twice zero f g (q ∷ ps) = refl
changed_twice (suc i) f g (q ∷ ps) = ap (λ xs. q ∷ xs) (changed_twice i f g ps)

-- as it is seen
changed_to : (i : ℕ) (f : Place → Place) (ps : List Place) (p d : Place) → i < length ps → p ≡ slice_index_or ps i p → d ≡ f p → set ps i d ≡ changed i f ps
changed_to i f ps p d below is new = ap (set ps i) (new ∙ ap f is) ∙ sym (changed_at i f ps p below)

newly_at : (i : ℕ) (f : Place → Place) (ps : List Place) (p : Place) → i < length ps → newly i f ps ≡ new_of (slice_index_or ps i p) (f (slice_index_or ps i p))
newly_at i f [] p below = absurd (omega arith)
newly_at zero f (q ∷ ps) p below = refl
newly_at (suc i) f (q ∷ ps) p below = newly_at i f ps p (omega arith)

at_one : (i : ℕ) (ps : List Place) (p : Place) → i < length ps → at i ps ≡ slice_index_or ps i p ∷ []
at_one i [] p below = absurd (omega arith)
at_one zero (q ∷ ps) p below = refl
at_one (suc i) (q ∷ ps) p below = at_one i ps p (omega arith)

-- ---- an event of it

pub happens_on : (n : Network) (i : ℕ) (e : ClientEvent) (p d : Place) → i < length n.places → p ≡ slice_index_or n.places i p → d ≡ happens_of p e
    → record n { places = set n.places i d } ≡ record n { places = changed i (λ p. happens_of p e) n.places }
happens_on n i e p d below is new = λ j. record n { places = changed_to i (λ p. happens_of p e) n.places p d below is new j }

pub newly_on : (n : Network) (i : ℕ) (e : ClientEvent) (p d : Place) (xs : List Publish) → i < length n.places → p ≡ slice_index_or n.places i p → d ≡ happens_of p e → xs ≡ new_of p d
    → xs ≡ newly i (λ p. happens_of p e) n.places
newly_on n i e p d xs below is new more =
    let f : Place → Place = λ p. happens_of p e in
    more ∙ ap (new_of p) new ∙ ap (λ x. new_of x (f x)) is ∙ sym (newly_at i f n.places p below)

pub renewed_on : (n : Network) (i : ℕ) (p d : Place) → i < length n.places → p ≡ slice_index_or n.places i p → d ≡ renewed p
    → record n { places = set n.places i d; ended = n.ended ++ p ∷ [] } ≡ record n { places = changed i renewed n.places; ended = n.ended ++ at i n.places }
renewed_on n i p d below is new =
    let e : p ∷ [] ≡ at i n.places = ap (λ x. x ∷ []) is ∙ sym (at_one i n.places p below) in
    λ j. record n { places = changed_to i renewed n.places p d below is new j; ended = n.ended ++ e j }

pub gets_on : (n : Network) (i : ℕ) (xs : List Publish) (p d : Place) → i < length n.places → p ≡ slice_index_or n.places i p → d ≡ gets_at xs p
    → record n { places = set n.places i d } ≡ record n { places = changed i (gets_at xs) n.places }
gets_on n i xs p d below is new = λ j. record n { places = changed_to i (gets_at xs) n.places p d below is new j }

-- ---- the end of its session

is_the_end : (e : ClientEvent) → is_end e ≡ true → events.Ends ≡ e
is_the_end events.Ends h = refl
is_the_end other h = absurd cc

lost_ends : (i : ℕ) (ps : List Place) → at i (changed i ended_of ps) ≡ ends_at i events.Ends ps
lost_ends i [] = refl
lost_ends zero (p ∷ ps) = refl
lost_ends (suc i) (p ∷ ps) = lost_ends i ps

pub ends_on : (n : Network) (i : ℕ) (e : ClientEvent) → is_end e ≡ true
    → record n { places = changed i renewed (changed i (λ p. happens_of p e) n.places); ended = n.ended ++ at i (changed i (λ p. happens_of p e) n.places) }
    ≡ record n { places = changed i (λ p. becomes p e) n.places; ended = n.ended ++ ends_at i e n.places }
ends_on n i e h = by e (is_the_end e h)
  where
    by : (e : ClientEvent) → events.Ends ≡ e
        → record n { places = changed i renewed (changed i (λ p. happens_of p e) n.places); ended = n.ended ++ at i (changed i (λ p. happens_of p e) n.places) }
        ≡ record n { places = changed i (λ p. becomes p e) n.places; ended = n.ended ++ ends_at i e n.places }
    by e same = subst (λ e. record n { places = changed i renewed (changed i (λ p. happens_of p e) n.places); ended = n.ended ++ at i (changed i (λ p. happens_of p e) n.places) } ≡ record n { places = changed i (λ p. becomes p e) n.places; ended = n.ended ++ ends_at i e n.places }) same
        (λ j. record n { places = changed_twice i renewed ended_of n.places j; ended = n.ended ++ lost_ends i n.places j })

no_end : (i : ℕ) (e : ClientEvent) → ((p : Place) → ends_of p e ≡ []) → (ps : List Place) → ends_at i e ps ≡ []
no_end i e none [] = refl
no_end zero e none (p ∷ ps) = none p
no_end (suc i) e none (p ∷ ps) = no_end i e none ps

goes_on : (e : ClientEvent) → is_end e ≡ false → ((p : Place) → happens_of p e ≡ becomes p e) × ((p : Place) → ends_of p e ≡ [])
goes_on events.Ends h = absurd cc
goes_on (events.Ask x) h = (λ p. refl, λ p. refl)
goes_on (events.Subscribe x) h = (λ p. refl, λ p. refl)
goes_on (events.Unsubscribe x) h = (λ p. refl, λ p. refl)
goes_on events.Up h = (λ p. refl, λ p. refl)
goes_on events.Down h = (λ p. refl, λ p. refl)
goes_on events.PassOn h = (λ p. refl, λ p. refl)
goes_on events.Lost h = (λ p. refl, λ p. refl)
goes_on events.Left h = (λ p. refl, λ p. refl)
goes_on (events.Turn f turn) h = (λ p. refl, λ p. refl)
goes_on events.Expire h = (λ p. refl, λ p. refl)
goes_on events.Due h = (λ p. refl, λ p. refl)
goes_on (events.Dated interval) h = (λ p. refl, λ p. refl)
goes_on (events.Back m k w) h = (λ p. refl, λ p. refl)

pub stays_on : (n : Network) (i : ℕ) (e : ClientEvent) → is_end e ≡ false
    → record n { places = changed i (λ p. happens_of p e) n.places } ≡ record n { places = changed i (λ p. becomes p e) n.places; ended = n.ended ++ ends_at i e n.places }
stays_on n i e h =
    let g = goes_on e h in
    let f : n.ended ≡ n.ended ++ ends_at i e n.places = sym (append-nil n.ended) ∙ ap (λ ps. n.ended ++ ps) (sym (no_end i e g.1 n.places)) in
    λ j. record n { places = changed i (λ p. g.0 p j) n.places; ended = f j }

-- ---- the queues

map_same : (own : Bool) (ps : List Place) → map (queues_at own []) ps ≡ ps
map_same own [] = refl
map_same own (p ∷ ps) = λ j. record p { client = record p.client { queue = append-nil p.client.queue j } } ∷ map_same own ps j

pub none_routed : (i : ℕ) (ps : List Place) → routes i [] ps ≡ ps
none_routed i [] = refl
none_routed zero (p ∷ ps) = λ j. record p { client = record p.client { queue = append-nil p.client.queue j } } ∷ map_same false ps j
none_routed (suc i) (p ∷ ps) = λ j. record p { client = record p.client { queue = append-nil p.client.queue j } } ∷ none_routed i ps j

no_publishes : (xs : List Publish) → (length xs == 0) ≡ true → xs ≡ []
no_publishes xs h = nil_from_length xs (eqb-true (length xs) 0 h)

pub routes_none : (ps : List Place) (i : ℕ) (xs : List Publish) → (length xs == 0) ≡ true → ps ≡ routes i xs ps
routes_none ps i xs h = sym (none_routed i ps) ∙ ap (λ xs. routes i xs ps) (sym (no_publishes xs h))

pub before_long : (k : ℕ) (f : ℕ → Place → Place) (ps : List Place) → length (before k f ps) ≡ length ps
before_long zero f ps = refl
before_long (suc k) f [] = refl
before_long (suc k) f (p ∷ ps) = ap suc (before_long k (λ i. f (suc i)) ps)

before_next : (k : ℕ) (f : ℕ → Place → Place) (ps : List Place) (p : Place) → k < length ps → set (before k f ps) k (f k (slice_index_or (before k f ps) k p)) ≡ before (suc k) f ps
before_next k f [] p below = absurd (omega arith)
before_next zero f (q ∷ ps) p below = refl
before_next (suc k) f (q ∷ ps) p below = ap (λ xs. f 0 q ∷ xs) (before_next k (λ i. f (suc i)) ps p (omega arith))

pub routes_next : (ps qs : List Place) (client k : ℕ) (xs : List Publish) (p d : Place)
    → qs ≡ before k (queues_of client xs) ps → k < length qs → p ≡ slice_index_or qs k p → d ≡ queues_at (k == client) xs p
    → set qs k d ≡ before (k + 1) (queues_of client xs) ps
routes_next ps qs client k xs p d is below there new =
    let f = queues_of client xs in
    let under : k < length ps = let l = before_long k f ps in let l2 = ap (λ (ps : List Place). length ps) is in omega (arith, below, l, l2) in
    ap (set qs k) (new ∙ ap (f k) there)
    ∙ ap (λ ps. set ps k (f k (slice_index_or ps k p))) is
    ∙ before_next k f ps p under
    ∙ ap (λ j. before j f ps) (sym (add-one k))

before_others : (xs : List Publish) (ps : List Place) → before (length ps) (λ i. queues_of 0 xs (suc i)) ps ≡ map (queues_at false xs) ps
before_others xs ps = by (λ i. queues_of 0 xs (suc i)) (λ i. ap (λ b. queues_at b xs) (eqb-suc-zero i)) ps
  where
    by : (f : ℕ → Place → Place) → ((i : ℕ) → f i ≡ queues_at false xs) → (ps : List Place) → before (length ps) f ps ≡ map (queues_at false xs) ps
    by f same [] = refl
    by f same (p ∷ ps) = λ j. same 0 j p ∷ by (λ i. f (suc i)) (λ i. same (suc i)) ps j

before_all : (client : ℕ) (xs : List Publish) (f : ℕ → Place → Place) → ((i : ℕ) → f i ≡ queues_of client xs i) → (ps : List Place) → before (length ps) f ps ≡ routes client xs ps
before_all client xs f same [] = refl
before_all zero xs f same (p ∷ ps) =
    let g : (i : ℕ) → f (suc i) ≡ queues_of 0 xs (suc i) = λ i. same (suc i) in
    (λ j. same 0 j p ∷ before (length ps) (λ i. g i j) ps) ∙ ap (λ qs. queues_at true xs p ∷ qs) (before_others xs ps)
before_all (suc client) xs f same (p ∷ ps) =
    let g : (i : ℕ) → f (suc i) ≡ queues_of client xs i = λ i. same (suc i) ∙ ap (λ b. queues_at b xs) (eqb-suc-suc i client) in
    let h : f 0 p ≡ queues_at false xs p = ap (λ (g : Place → Place). g p) (same 0) ∙ ap (λ b. queues_at b xs p) (eqb-zero-suc client) in
    λ j. h j ∷ before_all client xs (λ i. f (suc i)) g ps j

pub routes_all : (ps qs : List Place) (client k : ℕ) (xs : List Publish) → qs ≡ before k (queues_of client xs) ps → length qs ≤ k → k ≤ length ps → qs ≡ routes client xs ps
routes_all ps qs client k xs is past within =
    let f = queues_of client xs in
    let l = before_long k f ps in
    let l2 = ap (λ (ps : List Place). length ps) is in
    let e : k ≡ length ps = omega (arith, past, within, l, l2) in
    is ∙ ap (λ k. before k f ps) e ∙ before_all client xs f (λ i. refl) ps

-- ---- an event of a network

pub happens_at : (n : Network) (i : ℕ) (e : ClientEvent) (p : Place) (copies new : List Publish)
    → i < length n.places → p ≡ slice_index_or n.places i p → copies ≡ copies_in n.handed p e → new ≡ newly i (λ p. happens_of p e) n.places
    → record { places = routes i new (changed i (gets_at copies) (changed i (λ p. becomes p e) n.places)); ended = n.ended ++ ends_at i e n.places; handed = n.handed ++ new } ≡ happens_in n (record { client = i; what = e })
happens_at n i e p copies new below is brought more =
    let f : Place → Place = λ p. becomes p e in
    let c : changed i (gets_at copies) (changed i f n.places) ≡ changed i (becomes_with n.handed e) n.places =
    changed_twice i (gets_at copies) f n.places
    ∙ changed_at i (λ p. gets_at copies (f p)) n.places p below
    ∙ ap (λ x. set n.places i (gets_at copies (f x))) (sym is)
    ∙ ap (λ xs. set n.places i (gets_at xs (f p))) brought
    ∙ ap (λ x. set n.places i (becomes_with n.handed e x)) is
    ∙ sym (changed_at i (becomes_with n.handed e) n.places p below) in
    λ j. record {
      places = routes i (more j) (c j);
      ended = n.ended ++ ends_at i e n.places;
      handed = n.handed ++ more j;
    }

-- ---- and one of a client that isn't there

changed_past : (i : ℕ) (f : Place → Place) (ps : List Place) → length ps ≤ i → changed i f ps ≡ ps
changed_past i f [] past = refl
changed_past zero f (q ∷ ps) past = absurd (omega arith)
changed_past (suc i) f (q ∷ ps) past = ap (λ xs. q ∷ xs) (changed_past i f ps (omega arith))

newly_past : (i : ℕ) (f : Place → Place) (ps : List Place) → length ps ≤ i → newly i f ps ≡ []
newly_past i f [] past = refl
newly_past zero f (q ∷ ps) past = absurd (omega arith)
newly_past (suc i) f (q ∷ ps) past = newly_past i f ps (omega arith)

ends_past : (i : ℕ) (e : ClientEvent) (ps : List Place) → length ps ≤ i → ends_at i e ps ≡ []
ends_past i e [] past = refl
ends_past zero e (q ∷ ps) past = absurd (omega arith)
ends_past (suc i) e (q ∷ ps) past = ends_past i e ps (omega arith)

pub happens_past : (n : Network) (e : NetworkEvent) → length n.places ≤ e.client → n ≡ happens_in n e
happens_past n e past =
    let xs : handed_by n e ≡ [] = newly_past e.client (λ p. happens_of p e.what) n.places past in
    let ps : n.places ≡ (happens_in n e).places =
    sym (changed_past e.client (becomes_with n.handed e.what) n.places past)
    ∙ sym (none_routed e.client (changed e.client (becomes_with n.handed e.what) n.places))
    ∙ ap (λ xs. routes e.client xs (changed e.client (becomes_with n.handed e.what) n.places)) (sym xs) in
    λ j. record {
      places = ps j;
      ended = (sym (append-nil n.ended) ∙ ap (λ ps. n.ended ++ ps) (sym (ends_past e.client e.what n.places past))) j;
      handed = (sym (append-nil n.handed) ∙ ap (λ ps. n.handed ++ ps) (sym xs)) j;
    }
