-- A Subscribe brings no more copies of retained messages than are counted.
use Rattle.std.proofs.Common.{◌≡◌, ℕ, suc, ◌≤◌, Bool, true, false, cond, ◌&&◌, ◌||◌, List, [], ◌∷◌, ◌++◌, length, Option, Some, None, refl, sym, ap, ◌∙◌, arith, nat_eq}
use Rattle.std.specs.Prelude.{filter, not, is_none}
use Rattle.std.specs.List.{filter_map, list_any, cons_option}
use Rattle.std.specs.Cmp.Lexicographic.{pointwise, same_text}
use Rattle.std.proofs.lemmas.List.{length-append}
use Rattle.mqtt5_base.specs.Texts.{Utf8}
use Rattle.mqtt5_publish.specs.declared.publish.Publish.{Publish}
use Rattle.mqtt5_subscribe.specs.declared.filter.Filter.{Filter}
use Rattle.mqtt5_subscribe.specs.declared.filter.RetainForwardRule.{RetainForwardRule}
use Rattle.mqtt5_subscribe.specs.declared.filter.RetainForwardRule.TheVariants as rules
use Rattle.mqtt5_progress.specs.Subscribers.{hits, received}
use Rattle.mqtt5_network.specs.declared.subscription.Share.{Share}
use Rattle.mqtt5_network.specs.declared.subscription.Subscription.{Subscription}
use Rattle.mqtt5_network.specs.Subscriptions.{is_of, subscribed, pattern_in, pattern_of}
use Rattle.mqtt5_network.specs.Asking.{share_of, subscription_of}
use Rattle.mqtt5_network.specs.Retained.{copy_for, copied_under, gets_copies, copies_of, copies_all}
use Rattle.mqtt5_sessions.specs.Bringing.{brought_by, brought}
use Rattle.mqtt5_sessions.proofs.Indexed.{or_left, or_right}

-- ---- one more subscription takes no filter away

last_has : (q : Utf8) (s : Subscription) (ss : List Subscription) → is_of q s ≡ true → list_any (is_of q) (ss ++ s ∷ []) ≡ true
last_has q s [] h = or_left (is_of q s) false h
last_has q s (o ∷ ss) h = or_right (is_of q o) (list_any (is_of q) (ss ++ s ∷ [])) (last_has q s ss h)

-- of one filter, where something else is of both
of_both : (q t : Utf8) (o : Subscription) → is_of t o ≡ true → is_of q o ≡ true → pointwise nat_eq t.bytes q.bytes ≡ true
of_both q t o is_t is_q = ap (λ bs. pointwise nat_eq bs q.bytes) (sym (same_text o.topic_filter.bytes t.bytes (sym is_t))) ∙ is_q

still_has : (q : Utf8) (s : Subscription) (ss : List Subscription) → list_any (is_of q) ss ≡ true → list_any (is_of q) (subscribed s ss) ≡ true
still_has q s [] h = absurd cc
still_has q s (o ∷ ss) h = by (is_of s.topic_filter o) (is_of q o) refl refl h (still_has q s ss)
  where
    rest : List Subscription
    rest = filter (λ o. not (is_of s.topic_filter o)) ss

    by : (b c : Bool) → is_of s.topic_filter o ≡ b → is_of q o ≡ c → (c || list_any (is_of q) ss) ≡ true
        → (list_any (is_of q) ss ≡ true → list_any (is_of q) (rest ++ s ∷ []) ≡ true)
        → list_any (is_of q) (cond (not b) (o ∷ rest) rest ++ s ∷ []) ≡ true
    by true true is_t is_q h on = last_has q s rest (of_both q s.topic_filter o is_t is_q)
    by true false is_t is_q h on = on h
    by false true is_t is_q h on = or_left (is_of q o) (list_any (is_of q) (rest ++ s ∷ [])) is_q
    by false false is_t is_q h on = or_right (is_of q o) (list_any (is_of q) (rest ++ s ∷ [])) (on h)

-- ---- the copies for a filter

as_many : (s : Subscription) (kept : List Publish) → length (filter_map (copy_for s) kept) ≡ length (received (pattern_of s ∷ []) kept)
as_many s [] = refl
as_many s (p ∷ ps) = by (hits (pattern_of s ∷ []) p) (as_many s ps)
  where
    by : (b : Bool) → length (filter_map (copy_for s) ps) ≡ length (received (pattern_of s ∷ []) ps)
        → length (cons_option (cond b (Some (copied_under s p)) None) (filter_map (copy_for s) ps)) ≡ length (cond b (p ∷ received (pattern_of s ∷ []) ps) (received (pattern_of s ∷ []) ps))
    by true same = ap suc same
    by false same = same

module _ (kept : List Publish) (identifier : Option ℕ) (now before : List Subscription) (f : Filter) (still : list_any (is_of f.path) before ≡ true → list_any (is_of f.path) now ≡ true) where
  -- whether it gets any, where it has no subscription before
  got : (r : RetainForwardRule) → gets_copies r f.path now ≡ true → gets_copies r f.path before ≡ true
  got rules.OnEverySubscribe h = refl
  got rules.OnNewSubscribe h = by (list_any (is_of f.path) before) refl
    where
      by : (b : Bool) → list_any (is_of f.path) before ≡ b → not b ≡ true
      by true is = let no : false ≡ true = sym (ap not (still is)) ∙ h in absurd cc
      by false is = refl
  got rules.Never h = absurd cc

  pub copies_counted : length (copies_of kept identifier now f) ≤ brought_by kept before f
  copies_counted = by (share_of f.path) refl (gets_copies f.retain_forward_rule f.path now) refl
    where
      many : ℕ
      many = length (received (f.path ∷ []) kept)

      copies : List Publish
      copies = filter_map (copy_for (subscription_of identifier f)) kept

      by : (o : Option Share) → share_of f.path ≡ o → (g : Bool) → gets_copies f.retain_forward_rule f.path now ≡ g
          → length (cond (is_none o && g) copies []) ≤ cond (is_none o && gets_copies f.retain_forward_rule f.path before) many 0
      by (Some h) is g gets = omega arith
      by None is false gets = omega arith
      by None is true gets =
          let same : length copies ≡ many = as_many (subscription_of identifier f) kept ∙ (λ j. length (received (pattern_in (is j) f.path ∷ []) kept)) in
          let all : cond (gets_copies f.retain_forward_rule f.path before) many 0 ≡ many = ap (λ b. cond b many 0) (got f.retain_forward_rule gets) in
          omega (arith, same, all)

-- ---- all

pub all_counted : (kept : List Publish) (identifier : Option ℕ) (fs : List Filter) (now before : List Subscription)
    → ((q : Utf8) → list_any (is_of q) before ≡ true → list_any (is_of q) now ≡ true)
    → length (copies_all kept identifier fs now) ≤ brought kept before fs
all_counted kept identifier [] now before still = omega arith
all_counted kept identifier (f ∷ fs) now before still =
    let one = copies_counted kept identifier now before f (still f.path) in
    let more = all_counted kept identifier fs (subscribed (subscription_of identifier f) now) before (λ q has. still_has q (subscription_of identifier f) now (still q has)) in
    let both = length-append (copies_of kept identifier now f) (copies_all kept identifier fs (subscribed (subscription_of identifier f) now)) in
    omega (arith, one, more, both)
