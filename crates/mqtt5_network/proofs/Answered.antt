-- What a client is told by answers: as many of them at most as it asked for, and as many only where the broker took all in.
use Rattle.std.proofs.Common.{◌≡◌, ℕ, zero, suc, ◌+◌, ◌<◌, ◌≤◌, Bool, true, false, cond, List, [], ◌∷◌, ◌++◌, length, count_by, Option, Some, None, refl, sym, ap, ◌∙◌, subst, arith, ◌==◌, append-nil, append_assoc}
use Rattle.std.specs.Prelude.{not, option_map, slice_get, IfSome}
use Rattle.std.specs.List.{Contains, slice_index_or}
use Rattle.std.proofs.lemmas.Bool.{eqb-true, eq-eqb}
use Rattle.std.proofs.lemmas.List.{nil_from_length}
use Rattle.std.proofs.lemmas.List.Elements.{filter-append, Contains-append_right}
use Rattle.mqtt5_base.specs.Texts.{Utf8}
use Rattle.mqtt5_base.specs.declared.quality.QoS.TheVariants.{ExactlyOnce}
use Rattle.mqtt5_publish.specs.declared.publish.Publish.{Publish}
use Rattle.mqtt5_subscribe.specs.declared.filter.Filter.{Filter}
use Rattle.mqtt5_codec.specs.declared.packet.Packet.{Packet}
use Rattle.mqtt5_codec.specs.declared.packet.Packet.TheVariants as packets
use Rattle.mqtt5_world.specs.Delivery.{IsClass}
use Rattle.mqtt5_network.specs.Receiver.{shown}
use Rattle.mqtt5_network.specs.declared.subscription.Share.{Share}
use Rattle.mqtt5_network.specs.declared.subscription.Subscription.{Subscription}
use Rattle.mqtt5_network.specs.declared.event.ClientEvent.TheVariants as events
use Rattle.mqtt5_network.specs.declared.event.NetworkEvent.{NetworkEvent}
use Rattle.mqtt5_network.specs.declared.event.Will.{Will}
use Rattle.mqtt5_network.specs.Subscriptions.{is_of, subscribed, unsubscribed, has_turn, with_turn, without_turns}
use Rattle.mqtt5_network.specs.Asking.{identifier_of, subscription_of, subscribed_all, unsubscribed_all, subscriptions_after, others}
use Rattle.mqtt5_network.specs.Client.{Client}
use Rattle.mqtt5_network.specs.Place.{Place, becomes_with, copies_in, queues_at, gets_at}
use Rattle.mqtt5_network.specs.Network.{Network, start_network, handed_by, happens_in, run_network, IsReached, AllAtRest, given_in, lost_in}
use Rattle.mqtt5_network.specs.Granted.{published, Covers, IsNew, AtPlace, GoesOn, Lives, Unchanged, IsHeard}
use Rattle.mqtt5_network.specs.Answered.{answers_told, asked_by, asked_at, asked_in, subscriptions_by, IsClear}
use Rattle.mqtt5_network.proofs.Telling.{due, Tells, tells_same, tells_then}
use Rattle.mqtt5_network.proofs.Places.{IsPlace, goes_on, place_tells, place_clear}
use Rattle.mqtt5_network.proofs.Joined.{place_after, happens_there, IsJoined, joined, next_joined}
use Rattle.mqtt5_network.proofs.Granting.{same_value, all_at, were_there}
use Rattle.mqtt5_network.proofs.Subscribed.{shown_by_one}

-- ---- the client at a place

-- an event of it, and one of another
tells_at_place : (n : Network) (e : NetworkEvent) (i : ℕ) (p : Place) → IsPlace n.handed p → (i ≡ e.client → GoesOn e.what) → Tells p.client (place_after n e i p).client (cond (i == e.client) (asked_by e.what p.client.session) [])
tells_at_place n e i p j g = by (i == e.client) refl
  where
    by : (b : Bool) → (i == e.client) ≡ b → Tells p.client (queues_at b (handed_by n e) (cond b (becomes_with n.handed e.what p) p)).client (cond b (asked_by e.what p.client.session) [])
    by true h =
        let on = g (eqb-true i e.client h) in
        let t = place_tells n.handed p e.what on j in
        subst (λ (q : Place). Tells p.client (queues_at true (handed_by n e) (gets_at (copies_in n.handed p e.what) q)).client (asked_by e.what p.client.session)) (sym (goes_on p e.what on).0) (record { most = t.most; all = t.all })
    by false h = tells_same p.client _ refl refl refl refl

tells_all : (i : ℕ) (es : List NetworkEvent) (n : Network) (p q : Place) → IsJoined n → slice_get n.places i ≡ Some p → slice_get (run_network es n).places i ≡ Some q → Lives i es → Tells p.client q.client (asked_in i es n)
tells_all i [] n p q j was is on = subst (λ (x : Place). Tells p.client x.client []) (same_value p q (sym was ∙ is)) (tells_same p.client p.client refl refl refl refl)
tells_all i (e ∷ es) n p q j was is on =
    let now : slice_get (happens_in n e).places i ≡ Some (place_after n e i p) = happens_there n e i ∙ ap (option_map (place_after n e i)) was in
    let first : Tells p.client (place_after n e i p).client (cond (i == e.client) (asked_at e.what (slice_get n.places i)) []) =
    subst (λ o. Tells p.client (place_after n e i p).client (cond (i == e.client) (asked_at e.what o) [])) (sym was) (tells_at_place n e i p (all_at (IsPlace n.handed) n.places i p j.places was) on.0) in
    tells_then p.client (place_after n e i p).client q.client (cond (i == e.client) (asked_at e.what (slice_get n.places i)) []) (asked_in i es (happens_in n e)) first
    (tells_all i es (happens_in n e) (place_after n e i p) q (next_joined n e j) now is on.1)

-- on a new connection
pub clear_again : (n : Network) (i : ℕ) (p : Place) (a b : Option ℕ) (will : Option Will) → IsReached n → slice_get (happens_in n (record { client = i; what = events.Back a b will })).places i ≡ Some p → IsClear p.client
clear_again n i p a b will r is =
    let e : NetworkEvent = record { client = i; what = events.Back a b will } in
    let o = were_there (e ∷ []) n i p is in
    let now : slice_get (happens_in n e).places i ≡ Some (place_after n e i o.0) = happens_there n e i ∙ ap (option_map (place_after n e i)) o.1 in
    let came : IsClear (place_after n e i o.0).client = subst (λ c. IsClear (queues_at c (handed_by n e) (cond c (becomes_with n.handed e.what o.0) o.0)).client) (sym (eq-eqb i i refl)) (by n o.0 (handed_by n e) (all_at (IsPlace n.handed) n.places i o.0 (joined n r).places o.1)) in
    subst (λ (q : Place). IsClear q.client) (same_value (place_after n e i o.0) p (sym now ∙ is)) came
  where
    by : (n : Network) (o : Place) (xs : List Publish) → IsPlace n.handed o → IsClear (queues_at true xs (becomes_with n.handed (events.Back a b will) o)).client
    by n o xs j = let c = place_clear n.handed o a b will j in record { up = c.up; down = c.down }

-- ---- from a moment at which nothing is on its way

module _ (n : Network) (es : List NetworkEvent) (i : ℕ) (p q : Place) (r : IsReached n) (on : Lives i es) (was : slice_get n.places i ≡ Some p) (is : slice_get (run_network es n).places i ≡ Some q) (clear : IsClear p.client) where
  abbrev asked : List Packet
  asked = asked_in i es n

  tells : Tells p.client q.client asked
  tells = tells_all i es n p q (joined n r) was is on

  due_before : due p.client ≡ answers_told p.client.session
  due_before =
      let a = ap length clear.up in
      let b = ap length clear.down in
      omega (arith, a, b)

  pub told_at_most : answers_told q.client.session ≤ answers_told p.client.session + length asked
  told_at_most =
      let m = tells.most in
      let d = due_before in
      omega (arith, m, d)

  module _ (as_many : answers_told q.client.session ≡ answers_told p.client.session + length asked) where
    clear_then : IsClear q.client
    clear_then =
        let m = tells.most in
        let d = due_before in
        record {
          up = nil_from_length (others q.client.up) (omega (arith, m, d, as_many));
          down = nil_from_length (others q.client.down) (omega (arith, m, d, as_many));
        }

    all_taken : without_turns q.client.subscriptions ≡ subscriptions_by asked (without_turns p.client.subscriptions)
    all_taken =
        let a = ap length clear_then.up in
        let b = ap length clear_then.down in
        let d = due_before in
        sym (ap (λ xs. subscriptions_by xs (without_turns q.client.subscriptions)) clear_then.up)
        ∙ tells.all (omega (arith, a, b, d, as_many))
        ∙ ap (λ xs. subscriptions_by asked (subscriptions_by xs (without_turns p.client.subscriptions))) clear.up

    pub taken_in : IsClear q.client × (without_turns q.client.subscriptions ≡ subscriptions_by asked (without_turns p.client.subscriptions))
    taken_in = (clear_then, all_taken)

-- ---- what requests make of no subscriptions they make of some too

-- what is behind stays there, and becomes what it would be alone
abbrev Behind : (List Subscription → List Subscription) → Type 0
Behind f = (xs ys : List Subscription) → (front : List Subscription) × (f (xs ++ ys) ≡ front ++ f ys)

unsubscribed_both : (f : Utf8) (xs ys : List Subscription) → unsubscribed f (xs ++ ys) ≡ unsubscribed f xs ++ unsubscribed f ys
unsubscribed_both f xs ys = filter-append (λ s. not (is_of f s)) xs ys

subscribed_both : (s : Subscription) (xs ys : List Subscription) → subscribed s (xs ++ ys) ≡ unsubscribed s.topic_filter xs ++ subscribed s ys
subscribed_both s xs ys = ap (λ l. l ++ s ∷ []) (unsubscribed_both s.topic_filter xs ys) ∙ append_assoc (unsubscribed s.topic_filter xs) (unsubscribed s.topic_filter ys) (s ∷ [])

subscribed_behind : (n : Option ℕ) (fs : List Filter) → Behind (subscribed_all n fs)
subscribed_behind n [] xs ys = (xs, refl)
subscribed_behind n (f ∷ fs) xs ys =
    let rest = subscribed_behind n fs (unsubscribed f.path xs) (subscribed (subscription_of n f) ys) in
    (rest.0, ap (subscribed_all n fs) (subscribed_both (subscription_of n f) xs ys) ∙ rest.1)

unsubscribed_behind : (fs : List Utf8) → Behind (unsubscribed_all fs)
unsubscribed_behind [] xs ys = (xs, refl)
unsubscribed_behind (f ∷ fs) xs ys =
    let rest = unsubscribed_behind fs (unsubscribed f xs) (unsubscribed f ys) in
    (rest.0, ap (unsubscribed_all fs) (unsubscribed_both f xs ys) ∙ rest.1)

after_behind : (x : Packet) → Behind (λ ss. subscriptions_after ss x)
after_behind (packets.Subscribe p) xs ys = subscribed_behind (identifier_of p.properties) p.filters xs ys
after_behind (packets.Unsubscribe p) xs ys = unsubscribed_behind p.filters xs ys
after_behind other xs ys = (xs, refl)

by_behind : (ps : List Packet) → Behind (subscriptions_by ps)
by_behind [] xs ys = (xs, refl)
by_behind (x ∷ ps) xs ys =
    let one = after_behind x xs ys in
    let rest = by_behind ps one.0 (subscriptions_after ys x) in
    (rest.0, ap (subscriptions_by ps) one.1 ∙ rest.1)

there_too : (ps : List Packet) (ss : List Subscription) (s : Subscription) → Contains (subscriptions_by ps []) s → Contains (subscriptions_by ps ss) s
there_too ps ss s has =
    let b = by_behind ps ss [] in
    subst (λ l. Contains l s) (sym (ap (subscriptions_by ps) (sym (append-nil ss)) ∙ b.1)) (Contains-append_right b.0 (subscriptions_by ps []) s has)

-- one of those without turns that has its turn isn't shared, and is there
not_shared : (t s : Subscription) → with_turn false t ≡ s → has_turn s.share ≡ true → t ≡ s
not_shared t s e turn = ap (λ o. record t { share = o }) (by t.share (ap (λ (x : Subscription). has_turn x.share) e ∙ turn)) ∙ e
  where
    by : (o : Option Share) → has_turn (option_map (λ (h : Share). record h { turn = false }) o) ≡ true → o ≡ option_map (λ (h : Share). record h { turn = false }) o
    by None h = refl
    by (Some x) h = absurd cc

has_it : (ss : List Subscription) (s : Subscription) (k : ℕ) → k < length (without_turns ss) → slice_index_or (without_turns ss) k s ≡ s → has_turn s.share ≡ true → (k < length ss) × (slice_index_or ss k s ≡ s)
has_it [] s k l e turn = absurd (omega (arith, l))
has_it (t ∷ ss) s zero l e turn = (omega arith, not_shared t s e turn)
has_it (t ∷ ss) s (suc k) l e turn = let r = has_it ss s k (omega (arith, l)) e turn in let b = r.0 in (omega (arith, b), r.1)

with_turns : (ss : List Subscription) (s : Subscription) → Contains (without_turns ss) s → has_turn s.share ≡ true → Contains ss s
with_turns ss s has turn = let r = has_it ss s has.0 has.1 has.2 turn in (has.0, r.0, r.1)

-- ---- what it is shown from then on

run_more : (es fs : List NetworkEvent) (n : Network) → run_network (es ++ fs) n ≡ run_network fs (run_network es n)
run_more [] fs n = refl
run_more (e ∷ es) fs n = run_more es fs (happens_in n e)

pub shown_since_answered : (n m : Network) (es more : List NetworkEvent) (i : ℕ) (p q : Place) (s : Subscription) (test : Publish → Bool) → IsReached n → Lives i es → m ≡ run_network es n → slice_get n.places i ≡ Some p → slice_get m.places i ≡ Some q → IsClear p.client
    → answers_told q.client.session ≡ answers_told p.client.session + length (asked_in i es n) → Contains (subscriptions_by (asked_in i es n) []) s → Covers test s → IsClass ExactlyOnce test → IsNew test → given_in m (published test) ≡ 0 → Unchanged i more → AllAtRest (run_network more m)
    → AtPlace i (λ (c : Client). count_by test (shown c.session) + count_by test c.expired + lost_in (run_network more m) (published test) ≡ given_in (run_network more m) (published test)) (run_network more m)
shown_since_answered n m es more i p q s test r on same was is clear as_many has covers k new none u rest =
    let there : slice_get (run_network es n).places i ≡ Some q = ap (λ (x : Network). slice_get x.places i) (sym same) ∙ is in
    let t = taken_in n es i p q r on was there clear as_many in
    let reached : IsReached m = record { profiles = r.profiles; events = r.events ++ es; reached = same ∙ ap (run_network es) r.reached ∙ sym (run_more r.events es (start_network r.profiles)) } in
    let stands : Contains q.client.subscriptions s = with_turns q.client.subscriptions s (subst (λ l. Contains l s) (sym t.1) (there_too (asked_in i es n) (without_turns p.client.subscriptions) s has)) covers.turn in
    shown_by_one m more i s test reached k new covers none (subst (λ o. IfSome o (λ (x : Place). IsHeard x.client × Contains x.client.subscriptions s)) (sym is) (t.0.up, stands)) u rest
