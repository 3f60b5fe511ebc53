-- The copies of retained messages that a client is shown.
use Rattle.std.proofs.Common.{◌≡◌, ℕ, ◌+◌, Bool, true, false, cond, ◌&&◌, List, [], ◌∷◌, count_by, Option, Some, None, refl, sym, ap, ◌∙◌, subst, arith, ◌==◌}
use Rattle.std.specs.Prelude.{option_map, slice_get, IfSome}
use Rattle.std.specs.List.{AllByRecursion, filter_map, cons_option}
use Rattle.std.proofs.lemmas.Bool.{eq-eqb}
use Rattle.std.proofs.lemmas.List.Elements.{recursion_from_All}
use Rattle.mqtt5_base.specs.declared.quality.QoS.{QoS}
use Rattle.mqtt5_base.specs.declared.quality.QoS.TheVariants.{ExactlyOnce}
use Rattle.mqtt5_publish.specs.declared.publish.Publish.{Publish}
use Rattle.mqtt5_codec.specs.declared.packet.Packet.{Packet}
use Rattle.mqtt5_codec.specs.declared.packet.Packet.TheVariants as packets
use Rattle.mqtt5_world.specs.Delivery.{IsClass}
use Rattle.mqtt5_world.proofs.Step.{one}
use Rattle.mqtt5_network.specs.Receiver.{shown}
use Rattle.mqtt5_network.specs.Forwarded.{greater}
use Rattle.mqtt5_network.specs.declared.subscription.Subscription.{Subscription}
use Rattle.mqtt5_network.specs.declared.event.ClientEvent.{ClientEvent}
use Rattle.mqtt5_network.specs.declared.event.ClientEvent.TheVariants as events
use Rattle.mqtt5_network.specs.declared.event.NetworkEvent.{NetworkEvent}
use Rattle.mqtt5_network.specs.Subscriptions.{holds_for, granted_for, holding, keep_retain, forwarded_under, forwarded_to}
use Rattle.mqtt5_network.specs.Asking.{others}
use Rattle.mqtt5_network.specs.Retained.{retained_of, copies_first}
use Rattle.mqtt5_network.specs.Client.{Client, routed}
use Rattle.mqtt5_network.specs.Place.{Place, copies_in, AtRest}
use Rattle.mqtt5_network.specs.Network.{Network, handed_by, happens_in, run_network, IsReached}
use Rattle.mqtt5_network.specs.Granted.{IsCopy, NoneKeepRetain, AtPlace, Unchanged, IsHeard}
use Rattle.mqtt5_network.proofs.Forwarding.{count_here}
use Rattle.mqtt5_network.proofs.Counted.{shown_exactly}
use Rattle.mqtt5_network.proofs.Places.{IsPlace, here_of}
use Rattle.mqtt5_network.proofs.Joined.{own_copies, place_after, happens_there, IsJoined, joined, next_joined, run_joined}
use Rattle.mqtt5_network.proofs.Handed.{rest_of}
use Rattle.mqtt5_network.proofs.Granting.{same_value, all_at, added_count}
use Rattle.mqtt5_network.proofs.Subscribed.{on_if_kept, quiet_at_place}

-- where no request for subscriptions is on its way, no copies come
copies_quiet : (kept : List Publish) (ss : List Subscription) (way : List Packet) → others way ≡ [] → copies_first kept ss way ≡ []
copies_quiet kept ss [] q = refl
copies_quiet kept ss (packets.Subscribe x ∷ way) q = absurd cc
copies_quiet kept ss (other ∷ way) q = refl

none_come : (handed : List Publish) (p : Place) (e : ClientEvent) → IsHeard p.client → copies_in handed p e ≡ []
none_come handed p (events.Ask x) q = refl
none_come handed p (events.Subscribe x) q = refl
none_come handed p (events.Unsubscribe x) q = refl
none_come handed p events.Up q = copies_quiet (retained_of handed) p.client.subscriptions p.client.up q
none_come handed p events.Down q = refl
none_come handed p events.PassOn q = refl
none_come handed p events.Lost q = refl
none_come handed p events.Left q = refl
none_come handed p (events.Turn f turn) q = refl
none_come handed p events.Due q = refl
none_come handed p (events.Dated interval) q = refl
none_come handed p events.Expire q = refl
none_come handed p (events.Back m n w) q = refl
none_come handed p events.Ends q = refl

pub own_quiet : (b : Bool) (n : Network) (e : NetworkEvent) (p : Place) → IsHeard p.client → own_copies b n e p ≡ []
own_quiet true n e p q = none_come n.handed p e.what q
own_quiet false n e p q = refl

-- where a subscription holds and none asks for Retain As Published, retain isn't kept
abbrev NoneKeep : List Subscription → Type 0
NoneKeep ss = AllByRecursion (λ (s : Subscription). s.retain_as_published ≡ false) ss

none_keeps : (own : Bool) (ss : List Subscription) (p : Publish) (q : QoS) → NoneKeep ss → granted_for own ss p ≡ Some q → keep_retain (holding own ss p) ≡ false
none_keeps own [] p q none e = absurd cc
none_keeps own (s ∷ ss) p q none e = by (none_keeps own ss p q none.1) (holds_for own s p) refl
  where
    by : (granted_for own ss p ≡ Some q → keep_retain (holding own ss p) ≡ false) → (b : Bool) → holds_for own s p ≡ b → keep_retain (cond b (s ∷ holding own ss p) (holding own ss p)) ≡ false
    by rest true h = ap (λ b. b && keep_retain (holding own ss p)) none.0
    by rest false h = rest (sym (ap (λ b. cond b (Some (greater s.granted (granted_for own ss p))) (granted_for own ss p)) h) ∙ e)

no : (b : Bool) → (b && false) ≡ false
no true = refl
no false = refl

module _ (test : Publish → Bool) (old : IsCopy test) (i : ℕ) where
  not_old : (x : Publish) → x.retain ≡ false → test x ≡ false
  not_old x e = by (test x) refl
    where
      by : (b : Bool) → test x ≡ b → b ≡ false
      by false h = refl
      by true h = absurd (let z = sym (old x h) ∙ e in cc)

  -- what is forwarded is no copy
  forwarded_new : (own : Bool) (ss : List Subscription) → NoneKeep ss → (xs : List Publish) → count_by test (filter_map (forwarded_to own ss) xs) ≡ 0
  forwarded_new own ss none [] = refl
  forwarded_new own ss none (x ∷ xs) = by (granted_for own ss x) refl (forwarded_new own ss none xs)
    where
      by : (o : Option QoS) → granted_for own ss x ≡ o → count_by test (filter_map (forwarded_to own ss) xs) ≡ 0 → count_by test (cons_option (option_map (λ q. forwarded_under (holding own ss x) q x) o) (filter_map (forwarded_to own ss) xs)) ≡ 0
      by None e z = z
      by (Some q) e z =
          let y = forwarded_under (holding own ss x) q x in
          let a = count_here test y (filter_map (forwarded_to own ss) xs) in
          let b = ap one (not_old y (ap (λ b. x.retain && b) (none_keeps own ss x q none e) ∙ no x.retain)) in
          omega (arith, z, a, b)

  quiet_all : (es : List NetworkEvent) (n : Network) (p q : Place) → IsJoined n → slice_get n.places i ≡ Some p → slice_get (run_network es n).places i ≡ Some q → IsHeard p.client → NoneKeep p.client.subscriptions → Unchanged i es
      → count_by test (routed q.client) ≡ count_by test (routed p.client)
  quiet_all [] n p q j was is h none u = ap (λ (x : Place). count_by test (routed x.client)) (sym (same_value p q (sym was ∙ is)))
  quiet_all (e ∷ es) n p q j was is h none u =
      let now : slice_get (happens_in n e).places i ≡ Some (place_after n e i p) = happens_there n e i ∙ ap (option_map (place_after n e i)) was in
      let place : IsPlace n.handed p = all_at (IsPlace n.handed) n.places i p j.places was in
      let a = added_count test i n e p (λ at. on_if_kept e.what (u.0 at)) in
      let z = ap (count_by test) (own_quiet (i == e.client) n e p h) in
      let heard = quiet_at_place n e i p place u.0 h in
      let still = subst NoneKeep (sym heard.1) none in
      let y = forwarded_new (i == e.client) (place_after n e i p).client.subscriptions still (handed_by n e) in
      let b = quiet_all es (happens_in n e) (place_after n e i p) q (next_joined n e j) now is heard.0 still u.1 in
      omega (arith, a, z, y, b)

pub copies_shown : (n : Network) (es : List NetworkEvent) (i : ℕ) (p q : Place) (test : Publish → Bool) → IsReached n → IsClass ExactlyOnce test → IsCopy test → slice_get n.places i ≡ Some p
    → slice_get (run_network (record { client = i; what = events.Up } ∷ es) n).places i ≡ Some q → AtPlace i (λ (c : Client). IsHeard c × NoneKeepRetain c.subscriptions) (happens_in n (record { client = i; what = events.Up })) → Unchanged i es → AtRest q
    → count_by test (shown q.client.session) + count_by test q.client.expired ≡ count_by test (routed p.client) + count_by test (copies_in n.handed p events.Up)
copies_shown n es i p q test reached k old was is heard u r =
    let e : NetworkEvent = record { client = i; what = events.Up } in
    let j : IsJoined n = joined n reached in
    let all : List NetworkEvent = e ∷ es in
    let now : slice_get (happens_in n e).places i ≡ Some (place_after n e i p) = happens_there n e i ∙ ap (option_map (place_after n e i)) was in
    let h : IsHeard (place_after n e i p).client × NoneKeepRetain (place_after n e i p).client.subscriptions = subst (λ o. IfSome o (λ (x : Place). IsHeard x.client × NoneKeepRetain x.client.subscriptions)) now heard in
    let none = recursion_from_All (λ (s : Subscription). s.retain_as_published ≡ false) (place_after n e i p).client.subscriptions h.1 in
    let place : IsPlace (run_network all n).handed q = all_at (IsPlace (run_network all n).handed) (run_network all n).places i q (run_joined all n j).places is in
    let a = added_count test i n e p (λ at. tt) in
    let z : count_by test (own_copies (i == i) n e p) ≡ count_by test (copies_in n.handed p events.Up) = ap (λ b. count_by test (own_copies b n e p)) (eq-eqb i i refl) in
    let y = forwarded_new test old i (i == i) (place_after n e i p).client.subscriptions none (handed_by n e) in
    let b = quiet_all test old i es (happens_in n e) (place_after n e i p) q (next_joined n e j) now is h.0 none u in
    let s = shown_exactly (run_network all n).handed q.client (here_of (run_network all n).handed q place r.here) test (rest_of q r) k in
    omega (arith, a, z, y, b, s)
