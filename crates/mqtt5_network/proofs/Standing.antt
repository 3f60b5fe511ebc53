-- What a client is shown that keeps the subscriptions that it began with.
use Rattle.std.proofs.Common.{◌≡◌, ◌≢◌, ℕ, ◌+◌, ◌*◌, ◌≤◌, Bool, true, false, cond, ◌&&◌, List, [], ◌∷◌, count_by, map, Option, Some, None, refl, sym, ap, ◌∙◌, subst, arith, ◌==◌, mul-le-mul_left}
use Rattle.std.specs.Prelude.{not, option_map, slice_get, IfSome}
use Rattle.std.specs.List.{AllByRecursion, list_any}
use Rattle.std.specs.Str.{is_utf8}
use Rattle.std.proofs.lemmas.List.Elements.{recursion_from_All}
use Rattle.std.proofs.lemmas.List.Sums.{sum_by-cons}
use Rattle.mqtt5_base.specs.Texts.{Utf8}
use Rattle.mqtt5_base.specs.Topics.{topic_matches}
use Rattle.mqtt5_base.specs.declared.quality.QoS.{QoS}
use Rattle.mqtt5_base.specs.declared.quality.QoS.TheVariants.{AtMostOnce, AtLeastOnce, ExactlyOnce}
use Rattle.mqtt5_publish.specs.declared.publish.Publish.{Publish}
use Rattle.mqtt5_world.specs.Delivery.{IsClass, stored_in, stored_without, waiting_in}
use Rattle.mqtt5_world.proofs.Step.{one}
use Rattle.mqtt5_inflight.specs.Unacked.{again as again_publish}
use Rattle.mqtt5_progress.specs.Subscribers.{hits}
use Rattle.mqtt5_network.specs.Receiver.{shown}
use Rattle.mqtt5_network.specs.Forwarded.{lesser, greater, passes}
use Rattle.mqtt5_network.specs.Connection.{kept_at}
use Rattle.mqtt5_network.specs.declared.subscription.Subscription.{Subscription}
use Rattle.mqtt5_network.specs.declared.event.NetworkEvent.{NetworkEvent}
use Rattle.mqtt5_network.specs.Subscriptions.{has_turn, pattern_of, holds_for, granted_for, holding, forwarded_under, forwarded_to}
use Rattle.mqtt5_network.specs.Client.{Client, routed}
use Rattle.mqtt5_network.specs.Place.{Place, AtRest}
use Rattle.mqtt5_network.specs.Network.{Network, Profile, begins, start_network, happens_in, run_network, AllAtRest, given_by, given_in, most_by, most_in, kept_by, lost_in, unacked_by, unacked_in}
use Rattle.mqtt5_network.specs.Granted.{Reaches, reaching, AtPlace, Throughout, Unchanged, IsHeard, KeepsFirst}
use Rattle.mqtt5_network.proofs.Forwarding.{count_here, forwarded_kind}
use Rattle.mqtt5_network.proofs.Counted.{shown_exactly, shown_least, shown_most, shown_losses, shown_ledger}
use Rattle.mqtt5_network.proofs.Places.{IsPlace, hidden_of, here_of}
use Rattle.mqtt5_network.proofs.Joined.{place_after, happens_there, IsJoined, joined, next_joined}
use Rattle.mqtt5_network.proofs.Handed.{rest_of, handed_exactly, handed_least, handed_most, handed_losses, handed_ledger}
use Rattle.mqtt5_network.proofs.Granting.{all_at, were_there, Bare, least_added, most_added, count_less}
use Rattle.mqtt5_network.proofs.Subscribed.{lives, quiet_at_place, stays}
use Rattle.mqtt5_network.proofs.Copied.{own_quiet}

-- ---- counts

and_left : (a b : Bool) → (a && b) ≡ true → a ≡ true
and_left true b e = refl
and_left false b e = absurd cc

and_right : (a b : Bool) → (a && b) ≡ true → b ≡ true
and_right true b e = e
and_right false b e = absurd cc

none_counted : (test : Publish → Bool) → ((p : Publish) → test p ≡ false) → (ps : List Publish) → count_by test ps ≡ 0
none_counted test none [] = refl
none_counted test none (p ∷ ps) =
    let a = count_here test p ps in
    let b = none_counted test none ps in
    let c = ap one (none p) in
    omega (arith, a, b, c)

-- of a QoS
abbrev is_of : QoS → QoS → Bool
is_of AtMostOnce AtMostOnce = true
is_of AtLeastOnce AtLeastOnce = true
is_of ExactlyOnce ExactlyOnce = true
is_of q r = false

of_same : (q r : QoS) → is_of q r ≡ true → r ≡ q
of_same AtMostOnce AtMostOnce e = refl
of_same AtLeastOnce AtLeastOnce e = refl
of_same ExactlyOnce ExactlyOnce e = refl
of_same q r e = absurd cc

of_one : (q : QoS) (b : Bool) → one b ≡ one (is_of AtMostOnce q && b) + one (is_of AtLeastOnce q && b) + one (is_of ExactlyOnce q && b)
of_one AtMostOnce b = omega arith
of_one AtLeastOnce b = omega arith
of_one ExactlyOnce b = omega arith

lesser_twice : (q g : QoS) → lesser q g ≡ ExactlyOnce → q ≡ ExactlyOnce
lesser_twice ExactlyOnce g e = refl
lesser_twice AtMostOnce g e = absurd cc
lesser_twice AtLeastOnce AtMostOnce e = absurd cc
lesser_twice AtLeastOnce AtLeastOnce e = absurd cc
lesser_twice AtLeastOnce ExactlyOnce e = absurd cc

lesser_once : (g : QoS) → lesser AtMostOnce g ≡ AtLeastOnce → ⊥
lesser_once g e = absurd cc

-- a QoS is granted by the topic alone
granted_same : (ss : List Subscription) (p q : Publish) → q.topic ≡ p.topic → granted_for false ss q ≡ granted_for false ss p
granted_same [] p q e = refl
granted_same (s ∷ ss) p q e =
    let hit : holds_for false s q ≡ holds_for false s p = ap (λ t. has_turn s.share && (is_utf8 t && list_any (λ (f : Utf8). topic_matches t f.bytes) (pattern_of s ∷ []))) e in
    let rest = granted_same ss p q e in
    λ n. cond (hit n) (Some (greater s.granted (rest n))) (rest n)

-- without No Local a subscription holds for its own as for the others'
own_holds : (own : Bool) (s : Subscription) → s.no_local ≡ false → (p : Publish) → holds_for own s p ≡ holds_for false s p
own_holds own s local p = ap (λ b. has_turn s.share && b) (by own)
  where
    by : (b : Bool) → (not (b && s.no_local) && hits (pattern_of s ∷ []) p) ≡ hits (pattern_of s ∷ []) p
    by true = ap (λ l. not l && hits (pattern_of s ∷ []) p) local
    by false = refl

-- so they are granted as these, under the same ones
own_granted : (own : Bool) (ss : List Subscription) → AllByRecursion (λ (s : Subscription). s.no_local ≡ false) ss → (p : Publish) → granted_for own ss p ≡ granted_for false ss p
own_granted own [] all p = refl
own_granted own (s ∷ ss) all p =
    let hold = own_holds own s all.0 p in
    let rest = own_granted own ss all.1 p in
    λ n. cond (hold n) (Some (greater s.granted (rest n))) (rest n)

own_holding : (own : Bool) (ss : List Subscription) → AllByRecursion (λ (s : Subscription). s.no_local ≡ false) ss → (p : Publish) → holding own ss p ≡ holding false ss p
own_holding own [] all p = refl
own_holding own (s ∷ ss) all p =
    let hold = own_holds own s all.0 p in
    let rest = own_holding own ss all.1 p in
    λ n. cond (hold n) (s ∷ rest n) (rest n)

-- ---- what reaches it

module _ (ss : List Subscription) (test : Publish → Bool) where
  abbrev reach : Publish → Bool
  reach = reaching ss test

  -- a publish as it is forwarded
  abbrev under : Publish → QoS → Publish
  under p g = forwarded_under (holding false ss p) g p

  -- under some QoS
  reach_under : (p : Publish) → reach p ≡ true → (g : QoS) × (test (under p g) ≡ true)
  reach_under p h = by (granted_for false ss p) h
    where
      by : (o : Option QoS) → passes test (option_map (under p) o) ≡ true → (g : QoS) × (test (under p g) ≡ true)
      by None h = absurd cc
      by (Some g) h = (g, h)

  -- whatever the id and dup
  reach_same : (p q : Publish) → q.topic ≡ p.topic → ((g : QoS) → under q g ≡ under p g) → reach q ≡ reach p
  reach_same p q e f = ap (λ o. passes test (option_map (under q) o)) (granted_same ss p q e) ∙ by (granted_for false ss p)
    where
      by : (o : Option QoS) → passes test (option_map (under q) o) ≡ passes test (option_map (under p) o)
      by None = refl
      by (Some g) = ap test (f g)

  -- what is shown as of QoS 2 was published so
  twice_class : IsClass ExactlyOnce test → IsClass ExactlyOnce reach
  twice_class k =
      record {
        of_qos = λ p h. let u = reach_under p h in lesser_twice p.qos u.0 (k.of_qos (under p u.0) u.1);
        blind = λ p id. reach_same p (record p { pkid = id }) refl (λ g. refl);
        blind_again = λ p. reach_same p (again_publish p) refl (λ g. refl);
      }

  -- of what was published at one QoS
  abbrev at : QoS → Publish → Bool
  at q p = is_of q p.qos && reach p

  at_class : (q : QoS) → IsClass q (at q)
  at_class q =
      record {
        of_qos = λ p h. of_same q p.qos (and_left (is_of q p.qos) (reach p) h);
        blind = λ p id. ap (λ b. is_of q p.qos && b) (reach_same p (record p { pkid = id }) refl (λ g. refl));
        blind_again = λ p. ap (λ b. is_of q p.qos && b) (reach_same p (again_publish p) refl (λ g. refl));
      }

  at_reaches : (q : QoS) (p : Publish) → at q p ≡ true → reach p ≡ true
  at_reaches q p h = and_right (is_of q p.qos) (reach p) h

  parted : (ps : List Publish) → count_by reach ps ≡ count_by (at AtMostOnce) ps + count_by (at AtLeastOnce) ps + count_by (at ExactlyOnce) ps
  parted [] = refl
  parted (p ∷ ps) =
      let a = count_here reach p ps in
      let b = count_here (at AtMostOnce) p ps in
      let c = count_here (at AtLeastOnce) p ps in
      let d = count_here (at ExactlyOnce) p ps in
      let e = of_one p.qos (reach p) in
      let r = parted ps in
      omega (arith, a, b, c, d, e, r)

  -- none was published at a QoS
  none_at : (q : QoS) → ((p : Publish) → reach p ≡ true → p.qos ≡ q → ⊥) → (ps : List Publish) → count_by (at q) ps ≡ 0
  none_at q none ps = none_counted (at q) (λ p. by p (is_of q p.qos) (reach p) refl refl) ps
    where
      by : (p : Publish) (a b : Bool) → is_of q p.qos ≡ a → reach p ≡ b → (a && b) ≡ false
      by p false b e f = refl
      by p true false e f = refl
      by p true true e f = absurd (none p f (of_same q p.qos e))

  -- what is shown as of QoS 1 wasn't published at QoS 0
  none_light : IsClass AtLeastOnce test → (ps : List Publish) → count_by (at AtMostOnce) ps ≡ 0
  none_light k = none_at AtMostOnce (λ p h e. let u = reach_under p h in lesser_once u.0 (ap (λ q. lesser q u.0) (sym e) ∙ k.of_qos (under p u.0) u.1))

  -- of what no filter matches
  none_reach : ((p : Publish) → test p ≡ true → granted_for false ss p ≡ None) → (p : Publish) → reach p ≡ false
  none_reach none p = by (granted_for false ss p) refl
    where
      by : (o : Option QoS) → granted_for false ss p ≡ o → passes test (option_map (under p) o) ≡ false
      by None e = refl
      by (Some g) e = tested (test (under p g)) refl
        where
          tested : (b : Bool) → test (under p g) ≡ b → b ≡ false
          tested false h = refl
          tested true h = absurd (let n = sym e ∙ sym (granted_same ss p (under p g) refl) ∙ none (under p g) h in cc)

  -- ---- sums

  given_parted : (ps : List Place) → given_by ps reach ≡ given_by ps (at AtMostOnce) + given_by ps (at AtLeastOnce) + given_by ps (at ExactlyOnce)
  given_parted [] = refl
  given_parted (p ∷ ps) =
      let f : (Publish → Bool) → Place → ℕ = λ t q. count_by t q.client.accepted + count_by t q.willed in
      let a = sum_by-cons (f reach) p ps in
      let b = sum_by-cons (f (at AtMostOnce)) p ps in
      let c = sum_by-cons (f (at AtLeastOnce)) p ps in
      let d = sum_by-cons (f (at ExactlyOnce)) p ps in
      let x = parted p.client.accepted in
      let y = parted p.willed in
      let r = given_parted ps in
      omega (arith, a, b, c, d, x, y, r)

  most_parted : (ps : List Place) → most_by ps reach ≡ most_by ps (at AtMostOnce) + most_by ps (at AtLeastOnce) + most_by ps (at ExactlyOnce)
  most_parted [] = refl
  most_parted (p ∷ ps) =
      let f : (Publish → Bool) → Place → ℕ = λ t q. (q.client.lost + 1) * count_by t q.client.accepted + count_by t q.willed in
      let a = sum_by-cons (f reach) p ps in
      let b = sum_by-cons (f (at AtMostOnce)) p ps in
      let c = sum_by-cons (f (at AtLeastOnce)) p ps in
      let d = sum_by-cons (f (at ExactlyOnce)) p ps in
      let x = ap (λ m. (p.client.lost + 1) * m) (parted p.client.accepted) in
      let y = parted p.willed in
      let r = most_parted ps in
      omega (arith, a, b, c, d, x, y, r)

  -- those of one QoS are among all
  kept_less : (q : QoS) (ps : List Place) → kept_by ps (at q) ≤ kept_by ps reach
  kept_less q [] = omega arith
  kept_less q (p ∷ ps) =
      let f : (Publish → Bool) → Place → ℕ = λ t o. kept_at o.client.receiver.ids o.client.session.core t in
      let a = sum_by-cons (f (at q)) p ps in
      let b = sum_by-cons (f reach) p ps in
      let x = count_less (at q) reach (at_reaches q) (waiting_in p.client.session.core) in
      let y = count_less (at q) reach (at_reaches q) (stored_without p.client.receiver.ids p.client.session.core) in
      let r = kept_less q ps in
      omega (arith, a, b, x, y, r)

  unacked_less : (q : QoS) (ps : List Place) → unacked_by ps (at q) ≤ unacked_by ps reach
  unacked_less q [] = omega arith
  unacked_less q (p ∷ ps) =
      let f : (Publish → Bool) → Place → ℕ = λ t o. count_by t (stored_in o.client.session.core) + count_by t (waiting_in o.client.session.core) in
      let a = sum_by-cons (f (at q)) p ps in
      let b = sum_by-cons (f reach) p ps in
      let x = count_less (at q) reach (at_reaches q) (stored_in p.client.session.core) in
      let y = count_less (at q) reach (at_reaches q) (waiting_in p.client.session.core) in
      let r = unacked_less q ps in
      omega (arith, a, b, x, y, r)

-- ---- from the beginning

-- a client that has sent nothing
abbrev IsFirst : Place → Type 0
IsFirst p = (routed p.client ≡ []) × IsHeard p.client

all_first : (ps : List Profile) → AllByRecursion IsFirst (map begins ps)
all_first [] = tt
all_first (p ∷ ps) = ((refl, refl), all_first ps)

-- what is said all along is said in the end
last_of : (P : Network → Type 0) (es : List NetworkEvent) (n : Network) → Throughout es P n → P (run_network es n)
last_of P [] n t = t
last_of P (e ∷ es) n t = last_of P es (happens_in n e) t.1

-- where no request for subscriptions is on its way and none is made, no copies come
bare_quiet : (test : Publish → Bool) (i : ℕ) (es : List NetworkEvent) (n : Network) → IsJoined n → Unchanged i es → AtPlace i IsHeard n → Bare test i es n
bare_quiet test i [] n j u h = tt {0}
bare_quiet test i (e ∷ es) n j u h = (
  λ p was. ap (count_by test) (own_quiet (i == e.client) n e p (subst (λ o. IfSome o (λ (x : Place). IsHeard x.client)) was h)),
  bare_quiet test i es (happens_in n e) (next_joined n e j) u.1 (subst (λ o. IfSome o (λ (x : Place). IsHeard x.client)) (sym (happens_there n e i)) (by (slice_get n.places i) refl h)),
)
  where
    by : (o : Option Place) → slice_get n.places i ≡ o → IfSome o (λ (x : Place). IsHeard x.client) → IfSome (option_map (place_after n e i) o) (λ (x : Place). IsHeard x.client)
    by None w g = tt
    by (Some p) w g = (quiet_at_place n e i p (all_at (IsPlace n.handed) n.places i p j.places w) u.0 g).0

module _ (n : Network) (i : ℕ) (p : Place) (b : KeepsFirst n i p) (test : Publish → Bool) where
  abbrev ss : List Subscription
  ss = p.client.subscriptions

  abbrev kind : Publish → Bool
  kind = reaching ss test

  abbrev start : Network
  start = start_network b.profiles

  abbrev came : Network
  came = run_network b.events start

  j : IsJoined n
  j = joined n (record { profiles = b.profiles; events = b.events; reached = b.reached })

  first_joined : IsJoined start
  first_joined = joined start (record { profiles = b.profiles; events = []; reached = refl })

  at_end : slice_get came.places i ≡ Some p
  at_end = ap (λ (m : Network). slice_get m.places i) (sym b.reached) ∙ b.is_at

  began : (o : Place) × (slice_get start.places i ≡ Some o)
  began = were_there b.events start i p at_end

  first : IsFirst began.0
  first = all_at IsFirst start.places i began.0 (all_first b.profiles) began.1

  heard : AtPlace i IsHeard start
  heard = subst (λ o. IfSome o (λ (x : Place). IsHeard x.client)) (sym began.1) first.1

  -- its subscriptions are those of the beginning
  same_subscriptions : ss ≡ began.0.client.subscriptions
  same_subscriptions =
      let all = stays (λ (l : List Subscription). l ≡ began.0.client.subscriptions) i b.events start first_joined b.unchanged (subst (λ o. IfSome o (λ (x : Place). IsHeard x.client × (x.client.subscriptions ≡ began.0.client.subscriptions))) (sym began.1) (first.1, refl)) in
      subst (λ o. IfSome o (λ (x : Place). x.client.subscriptions ≡ began.0.client.subscriptions)) at_end (last_of (AtPlace i (λ (c : Client). c.subscriptions ≡ began.0.client.subscriptions)) b.events start all)

  abbrev ReachesBy : List Subscription → Type 0
  ReachesBy l = (own : Bool) (x : Publish) → passes test (forwarded_to own l x) ≡ kind x

  reaches : ReachesBy ss
  reaches own x =
      let local = recursion_from_All (λ (s : Subscription). s.no_local ≡ false) ss b.local in
      ap (λ o. passes test (option_map (λ q. forwarded_under (holding own ss x) q x) o)) (own_granted own ss local x)
      ∙ ap (λ l. passes test (option_map (λ q. forwarded_under l q x) (granted_for false ss x))) (own_holding own ss local x)

  all_along : Throughout b.events (AtPlace i (Reaches test kind)) start
  all_along = stays ReachesBy i b.events start first_joined b.unchanged (subst (λ o. IfSome o (λ (x : Place). IsHeard x.client × ReachesBy x.client.subscriptions)) (sym began.1) (first.1, subst ReachesBy same_subscriptions reaches))

  -- what was put into its queue is what reaches it of what was handed on
  routed_is : count_by test (routed p.client) ≡ count_by kind n.handed
  routed_is =
      let l = least_added test kind (Reaches test kind) i (λ c g own xs. let e = forwarded_kind test own c.subscriptions kind (g own) xs in omega (arith, e)) b.events start began.0 p began.1 at_end (lives i b.events b.unchanged) all_along in
      let m = most_added test kind (Reaches test kind) i (λ c g own xs. let e = forwarded_kind test own c.subscriptions kind (g own) xs in omega (arith, e)) b.events start began.0 p (bare_quiet test i b.events start first_joined b.unchanged heard) began.1 at_end (lives i b.events b.unchanged) all_along in
      let z = ap (count_by test) first.0 in
      let h = ap (λ (x : Network). count_by kind x.handed) b.reached in
      omega (arith, l, m, z, h)

  place : IsPlace n.handed p
  place = all_at (IsPlace n.handed) n.places i p j.places b.is_at

  abbrev of : QoS → Publish → Bool
  of q = at ss test q

  -- ---- at any time

  most_handed : ((xs : List Publish) → count_by (of AtLeastOnce) xs ≡ 0) → count_by kind n.handed ≤ given_in n kind
  most_handed none =
      let h = parted ss test n.handed in
      let a = given_parted ss test n.places in
      let c = given_parted ss test n.ended in
      let x = handed_most n j (of AtMostOnce) AtMostOnce (λ e. absurd cc) (at_class ss test AtMostOnce) in
      let y = none n.handed in
      let z = handed_most n j (of ExactlyOnce) ExactlyOnce (λ e. absurd cc) (at_class ss test ExactlyOnce) in
      omega (arith, h, a, c, x, y, z)

  pub standing_most : (q : QoS) → q ≢ AtLeastOnce → IsClass q test → ((x : Publish) → kind x ≡ true → x.qos ≢ AtLeastOnce) → count_by test (shown p.client.session) ≤ given_in n kind
  standing_most q ne k none =
      let a = shown_most n.handed _ (hidden_of n.handed p place).client test q ne k in
      let r = routed_is in
      let l = most_handed (none_at ss test AtLeastOnce none) in
      omega (arith, a, r, l)

  pub standing_twice : IsClass ExactlyOnce test → count_by test (shown p.client.session) ≤ given_in n kind
  standing_twice k = standing_most ExactlyOnce (λ e. absurd cc) k (λ x h e. absurd (let f = sym ((twice_class ss test k).of_qos x h) ∙ e in cc))

  pub standing_losses : (q : QoS) → IsClass q test → count_by test (shown p.client.session) ≤ (p.client.lost + 1) * most_in n kind
  standing_losses q k =
      let a = shown_losses n.handed _ (hidden_of n.handed p place).client test q k in
      let r = routed_is in
      let h = parted ss test n.handed in
      let b = most_parted ss test n.places in
      let c = most_parted ss test n.ended in
      let x = handed_losses n j (of AtMostOnce) AtMostOnce (at_class ss test AtMostOnce) in
      let y = handed_losses n j (of AtLeastOnce) AtLeastOnce (at_class ss test AtLeastOnce) in
      let z = handed_losses n j (of ExactlyOnce) ExactlyOnce (at_class ss test ExactlyOnce) in
      let g : count_by test (routed p.client) ≤ most_in n kind = omega (arith, r, h, b, c, x, y, z) in
      let m = mul-le-mul_left p.client.lost g in
      omega (arith, a, g, m)

  pub standing_ledger : IsClass ExactlyOnce test → count_by test (shown p.client.session) + kept_at p.client.session.core.incoming p.client.sender.core test + count_by test p.client.queue + count_by test p.client.expired + kept_by n.places kind + lost_in n kind ≡ given_in n kind
  standing_ledger k =
      let a = shown_ledger n.handed _ (hidden_of n.handed p place).client test k in
      let r = routed_is in
      let l = handed_ledger n j kind (twice_class ss test k) in
      omega (arith, a, r, l)

  pub standing_none : (q : QoS) → IsClass q test → ((x : Publish) → test x ≡ true → granted_for false ss x ≡ None) → count_by test (shown p.client.session) ≡ 0
  standing_none q k none =
      let z = none_counted kind (none_reach ss test none) n.handed in
      let r = routed_is in
      let t : count_by test (routed p.client) ≡ 0 = omega (arith, z, r) in
      let a : count_by test (shown p.client.session) ≤ (p.client.lost + 1) * 0 = subst (λ m. count_by test (shown p.client.session) ≤ (p.client.lost + 1) * m) t (shown_losses n.handed _ (hidden_of n.handed p place).client test q k) in
      omega (arith, a)

  -- ---- at rest

  module _ (rests : AllAtRest n) where
    rest : AtRest p
    rest = all_at AtRest n.places i p (recursion_from_All AtRest n.places rests) b.is_at

    pub standing_exactly : IsClass ExactlyOnce test → count_by test (shown p.client.session) + count_by test p.client.expired + lost_in n kind ≡ given_in n kind
    standing_exactly k =
        let a = shown_exactly n.handed p.client (here_of n.handed p place rest.here) test (rest_of p rest) k in
        let r = routed_is in
        let l = handed_exactly n j kind rests (twice_class ss test k) in
        omega (arith, a, r, l)

    pub standing_least : IsClass AtLeastOnce test → given_in n kind ≤ count_by test (shown p.client.session) + count_by test p.client.expired + unacked_in n kind + lost_in n kind
    standing_least k =
        let a = shown_least n.handed p.client (here_of n.handed p place rest.here) test (rest_of p rest) k in
        let r = routed_is in
        let h = parted ss test n.handed in
        let c = given_parted ss test n.places in
        let d = given_parted ss test n.ended in
        let x = handed_most n j (of AtMostOnce) AtMostOnce (λ e. absurd cc) (at_class ss test AtMostOnce) in
        let y = handed_least n j (of AtLeastOnce) rests (at_class ss test AtLeastOnce) in
        let z = handed_exactly n j (of ExactlyOnce) rests (at_class ss test ExactlyOnce) in
        let u = unacked_less ss test AtLeastOnce n.ended in
        let v = kept_less ss test ExactlyOnce n.ended in
        let w = light k in
        omega (arith, a, r, h, c, d, x, y, z, u, v, w)
      where
        -- none was published at QoS 0
        light_by : (ps : List Place) → IsClass AtLeastOnce test → given_by ps (of AtMostOnce) ≡ 0
        light_by [] k = refl
        light_by (q ∷ ps) k =
            let f : Place → ℕ = λ o. count_by (of AtMostOnce) o.client.accepted + count_by (of AtMostOnce) o.willed in
            let a = sum_by-cons f q ps in
            let x = none_light ss test k q.client.accepted in
            let y = none_light ss test k q.willed in
            let r = light_by ps k in
            omega (arith, a, x, y, r)

        light : IsClass AtLeastOnce test → given_in n (of AtMostOnce) ≡ 0
        light k =
            let a = light_by n.places k in
            let b = light_by n.ended k in
            omega (arith, a, b)
