-- The copies of retained messages: none is new, and each is as it is to be forwarded; and what is retained of a topic is the last
-- that was handed on to it with retain.
use Rattle.std.proofs.Common.{◌≡◌, ℕ, Bool, true, false, cond, ◌&&◌, List, [], ◌∷◌, ◌++◌, filter, Option, Some, None, refl, sym, ap, ◌∙◌, subst, arith}
use Rattle.std.specs.Prelude.{not, nat_eq, is_none}
use Rattle.std.specs.List.{filter_map, cons_option, find}
use Rattle.std.specs.Option.{option_to_list}
use Rattle.std.specs.Cmp.Lexicographic.{pointwise, same_text}
use Rattle.std.proofs.lemmas.Cmp.{nat_list_eq_equiv}
use Rattle.mqtt5_publish.specs.declared.publish.Publish.{Publish}
use Rattle.mqtt5_subscribe.specs.declared.filter.Filter.{Filter}
use Rattle.mqtt5_codec.specs.declared.packet.Packet.{Packet}
use Rattle.mqtt5_codec.specs.declared.packet.Packet.TheVariants as packets
use Rattle.mqtt5_world.proofs.Step.{one}
use Rattle.mqtt5_progress.specs.Subscribers.{hits}
use Rattle.mqtt5_network.specs.declared.subscription.Subscription.{Subscription}
use Rattle.mqtt5_network.specs.declared.event.ClientEvent.{ClientEvent}
use Rattle.mqtt5_network.specs.declared.event.ClientEvent.TheVariants as events
use Rattle.mqtt5_network.specs.Subscriptions.{subscribed, pattern_of}
use Rattle.mqtt5_network.specs.Asking.{identifier_of, share_of, subscription_of}
use Rattle.mqtt5_network.specs.Retained.{is_to, kept_of, retains, retained_after, retained_of, some_of, last_with, last_after, copied_under, copy_for, gets_copies, copies_of, copies_all, copies_for, copies_first}
use Rattle.mqtt5_network.specs.Place.{Place, copies_in}
use Rattle.mqtt5_network.specs.Granted.{IsNew}
use Rattle.mqtt5_network.proofs.Grown.{no_alias, IsForwarded}
use Rattle.mqtt5_network.proofs.Forwarding.{count_here, count_both}
use Rattle.mqtt5_network.proofs.Clients.{AreCopies}

-- ---- copies

no_copies : AreCopies []
no_copies = record { forwarded = tt; none = λ test new. refl }

-- a publish with retain is none of a class of new ones
not_new : (test : Publish → Bool) → IsNew test → (p : Publish) → p.retain ≡ true → test p ≡ false
not_new test new p e = by (test p) refl
  where
    by : (b : Bool) → test p ≡ b → b ≡ false
    by false h = refl
    by true h = absurd (let z = sym (new.retain p h) ∙ e in cc)

one_copy : (x : Publish) (xs : List Publish) → IsForwarded x → x.retain ≡ true → AreCopies xs → AreCopies (x ∷ xs)
one_copy x xs is retain all =
    record {
      forwarded = (is, all.forwarded);
      none = λ test new.
          let a = count_here test x xs in
          let b = ap one (not_new test new x retain) in
          let z = all.none test new in
          omega (arith, a, b, z);
    }

both_copies : (xs ys : List Publish) → AreCopies xs → AreCopies ys → AreCopies (xs ++ ys)
both_copies [] ys all more = more
both_copies (x ∷ xs) ys all more =
    let rest = both_copies xs ys (record { forwarded = all.forwarded.1; none = λ test new. let a = count_here test x xs in let z = all.none test new in omega (arith, a, z) }) more in
    record {
      forwarded = (all.forwarded.0, rest.forwarded);
      none = λ test new.
          let a = count_both test (x ∷ xs) ys in
          let z = all.none test new in
          let y = more.none test new in
          omega (arith, a, z, y);
    }

copied_all : (s : Subscription) (kept : List Publish) → AreCopies (filter_map (copy_for s) kept)
copied_all s [] = no_copies
copied_all s (p ∷ kept) = by (hits (pattern_of s ∷ []) p) (copied_all s kept)
  where
    by : (b : Bool) → AreCopies (filter_map (copy_for s) kept) → AreCopies (cons_option (cond b (Some (copied_under s p)) None) (filter_map (copy_for s) kept))
    by true all = one_copy (copied_under s p) (filter_map (copy_for s) kept) (record { plain = no_alias (option_to_list s.identifier) p.properties; unnumbered = refl }) refl all
    by false all = all

copied_of : (kept : List Publish) (n : Option ℕ) (ss : List Subscription) (f : Filter) → AreCopies (copies_of kept n ss f)
copied_of kept n ss f = by (is_none (share_of f.path) && gets_copies f.retain_forward_rule f.path ss)
  where
    by : (b : Bool) → AreCopies (cond b (filter_map (copy_for (subscription_of n f)) kept) [])
    by true = copied_all (subscription_of n f) kept
    by false = no_copies

copied_filters : (kept : List Publish) (n : Option ℕ) (fs : List Filter) (ss : List Subscription) → AreCopies (copies_all kept n fs ss)
copied_filters kept n [] ss = no_copies
copied_filters kept n (f ∷ fs) ss =
    let next = subscribed (subscription_of n f) ss in
    both_copies (copies_of kept n ss f) (copies_all kept n fs next) (copied_of kept n ss f) (copied_filters kept n fs next)

copied_for : (kept : List Publish) (ss : List Subscription) (x : Packet) → AreCopies (copies_for kept ss x)
copied_for kept ss (packets.Subscribe p) = copied_filters kept (identifier_of p.properties) p.filters ss
copied_for kept ss other = no_copies

copied_first : (kept : List Publish) (ss : List Subscription) (way : List Packet) → AreCopies (copies_first kept ss way)
copied_first kept ss [] = no_copies
copied_first kept ss (x ∷ way) = copied_for kept ss x

pub are_copies : (handed : List Publish) (p : Place) (e : ClientEvent) → AreCopies (copies_in handed p e)
are_copies handed p (events.Ask x) = no_copies
are_copies handed p (events.Subscribe x) = no_copies
are_copies handed p (events.Unsubscribe x) = no_copies
are_copies handed p events.Up = copied_first (retained_of handed) p.client.subscriptions p.client.up
are_copies handed p events.Down = no_copies
are_copies handed p events.PassOn = no_copies
are_copies handed p events.Lost = no_copies
are_copies handed p events.Left = no_copies
are_copies handed p (events.Turn f turn) = no_copies
are_copies handed p events.Due = no_copies
are_copies handed p (events.Dated interval) = no_copies
are_copies handed p events.Expire = no_copies
are_copies handed p (events.Back m n w) = no_copies
are_copies handed p events.Ends = no_copies

-- ---- the last of a topic

module _ (t : List ℕ) where
  -- those of this topic are taken out
  out : (kept ys : List Publish) → find (is_to t) (filter (λ q. not (is_to t q)) kept ++ ys) ≡ find (is_to t) ys
  out [] ys = refl
  out (q ∷ kept) ys = by (out kept ys) (is_to t q) refl
    where
      by : find (is_to t) (filter (λ q. not (is_to t q)) kept ++ ys) ≡ find (is_to t) ys → (b : Bool) → is_to t q ≡ b → find (is_to t) (cond (not b) (q ∷ filter (λ q. not (is_to t q)) kept) (filter (λ q. not (is_to t q)) kept) ++ ys) ≡ find (is_to t) ys
      by rest true e = rest
      by rest false e = ap (λ b. cond b (Some q) (find (is_to t) (filter (λ q. not (is_to t q)) kept ++ ys))) e ∙ rest

  -- those of another topic are
  other : (u : List ℕ) → ((q : Publish) → is_to t q ≡ true → is_to u q ≡ false) → (kept ys : List Publish) → find (is_to t) ys ≡ None → find (is_to t) (filter (λ q. not (is_to u q)) kept ++ ys) ≡ find (is_to t) kept
  other u differ [] ys none = none
  other u differ (q ∷ kept) ys none = by (other u differ kept ys none) (is_to t q) (is_to u q) refl refl
    where
      by : find (is_to t) (filter (λ q. not (is_to u q)) kept ++ ys) ≡ find (is_to t) kept → (a b : Bool) → is_to t q ≡ a → is_to u q ≡ b → find (is_to t) (cond (not b) (q ∷ filter (λ q. not (is_to u q)) kept) (filter (λ q. not (is_to u q)) kept) ++ ys) ≡ cond a (Some q) (find (is_to t) kept)
      by rest true true e f = absurd (let z = sym (differ q e) ∙ f in cc)
      by rest true false e f = ap (λ b. cond b (Some q) (find (is_to t) (filter (λ q. not (is_to u q)) kept ++ ys))) e
      by rest false true e f = rest
      by rest false false e f = ap (λ b. cond b (Some q) (find (is_to t) (filter (λ q. not (is_to u q)) kept ++ ys))) e ∙ rest

  -- one more
  found_kept : (p : Publish) (b : Bool) → is_to t p ≡ b → (bytes : List ℕ) → find (is_to t) (kept_of bytes p) ≡ cond b (some_of bytes p) None
  found_kept p true e [] = refl
  found_kept p false e [] = refl
  found_kept p true e (x ∷ bytes) = ap (λ b. cond b (Some p) None) e
  found_kept p false e (x ∷ bytes) = ap (λ b. cond b (Some p) None) e

  one_more : (kept : List Publish) (p : Publish) → find (is_to t) (retains kept p) ≡ last_with t (find (is_to t) kept) p
  one_more kept p = by p.retain (is_to t p) refl
    where
      by : (r b : Bool) → is_to t p ≡ b → find (is_to t) (cond r (filter (λ q. not (is_to p.topic q)) kept ++ kept_of p.payload p) kept) ≡ cond (r && b) (some_of p.payload p) (find (is_to t) kept)
      by false b e = refl
      by true true e =
          subst (λ u. find (is_to t) (filter (λ q. not (is_to u q)) kept ++ kept_of p.payload p) ≡ some_of p.payload p) (sym (same_text p.topic t (sym e)))
          (out kept (kept_of p.payload p) ∙ found_kept p true e p.payload)
      by true false e =
          other p.topic (λ q h. ap (λ s. pointwise nat_eq s p.topic) (same_text q.topic t (sym h)) ∙ nat_list_eq_equiv.symm t p.topic ∙ e) kept (kept_of p.payload p) (found_kept p false e p.payload)

  all_more : (kept ps : List Publish) → find (is_to t) (retained_after kept ps) ≡ last_after t (find (is_to t) kept) ps
  all_more kept [] = refl
  all_more kept (p ∷ ps) = all_more (retains kept p) ps ∙ ap (λ o. last_after t o ps) (one_more kept p)

pub retained_last : (handed : List Publish) (topic : List ℕ) → find (is_to topic) (retained_of handed) ≡ last_after topic None handed
retained_last handed topic = all_more topic [] handed
