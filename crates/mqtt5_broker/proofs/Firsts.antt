-- Who is the first of the groups of a filter that a packet doesn't name, and of those of which a client was none.
use Rattle.std.proofs.Common.{◌≡◌, ℕ, zero, suc, Bool, true, false, List, [], ◌∷◌, ◌++◌, Option, Some, None, refl, sym, ap, ◌∙◌, set, get_or, cond, not, length, map, ◌==◌, ◌||◌}
use Rattle.std.specs.Prelude.{filter, nat_eq}
use Rattle.std.specs.List.{list_any, position}
use Rattle.std.specs.Cmp.Lexicographic.{pointwise}
use Rattle.std.proofs.lemmas.List.Quantifiers.{position-Some}
use Rattle.mqtt5_base.specs.Texts.{Utf8}
use Rattle.mqtt5_subscribe.specs.declared.filter.Filter.{Filter}
use Rattle.mqtt5_network.specs.declared.subscription.Share.{Share}
use Rattle.mqtt5_network.specs.declared.subscription.Subscription.{Subscription}
use Rattle.mqtt5_network.specs.Subscriptions.{subscribed}
use Rattle.mqtt5_network.specs.Asking.{share_of, subscription_of, subscribed_all}
use Rattle.mqtt5_broker.specs.Groups.{Group, is_group, has_members, has_member, without_member, with_member, no_group, joined, joins_by, joins_all, is_among, parts_from}
use Rattle.mqtt5_broker.specs.Sharing.{turn_in, first_in, first_of, has_turn_of, AreDistinct}
use Rattle.mqtt5_broker.proofs.Sharing.{true_false, same_filter, or_left, or_right, none_first, no_others, not_empty, distinct_map, parted_filter}
use Rattle.mqtt5_broker.proofs.Turning.{subscribed_other}

-- ---- a Subscribe

module _ (f : Utf8) where
  abbrev pub is_asked : Filter → Bool
  is_asked x = pointwise nat_eq x.path.bytes f.bytes

  first_append : (new : Group) (gs : List Group) → is_group f new ≡ false → first_of f (gs ++ new ∷ []) ≡ first_of f gs
  first_append new [] e = ap (λ v. cond v (first_in new.members) None) e
  first_append new (g ∷ gs) e = ap (λ o. cond (is_group f g) (first_in g.members) o) (first_append new gs e)

  first_set : (i n : ℕ) (gs : List Group) → is_group f (get_or gs n no_group) ≡ false → first_of f (set gs n (with_member i (get_or gs n no_group))) ≡ first_of f gs
  first_set i n [] e = refl
  first_set i zero (g ∷ gs) e = by (has_member i g.members)
    where
      by : (v : Bool) → first_of f (cond v g (record g { members = g.members ++ i ∷ [] }) ∷ gs) ≡ first_of f (g ∷ gs)
      by true = refl
      by false = ap (λ v. cond v (first_in (g.members ++ i ∷ [])) (first_of f gs)) e ∙ sym (ap (λ v. cond v (first_in g.members) (first_of f gs)) e)
  first_set i (suc n) (g ∷ gs) e = ap (λ o. cond (is_group f g) (first_in g.members) o) (first_set i n gs e)

  first_join : (o : Option Share) (i : ℕ) (h : Utf8) (gs : List Group) → pointwise nat_eq h.bytes f.bytes ≡ false → first_of f (joins_by o i h gs) ≡ first_of f gs
  first_join None i h gs differ = refl
  first_join (Some share) i h gs differ = by (position (is_group h) gs) refl
    where
      by : (k : Option ℕ) → position (is_group h) gs ≡ k → first_of f (joined k i h share gs) ≡ first_of f gs
      by None e = first_append (record { topic_filter = h; pattern = share.topic_filter; members = i ∷ [] }) gs differ
      by (Some n) e =
          let found = position-Some (is_group h) gs n no_group e in
          first_set i n gs (ap (λ (k : Utf8). pointwise nat_eq k.bytes f.bytes) (same_filter (get_or gs n no_group).topic_filter h found.1) ∙ differ)

  pub first_joins : (i : ℕ) (fs : List Filter) (gs : List Group) → list_any is_asked fs ≡ false → first_of f (joins_all i fs gs) ≡ first_of f gs
  first_joins i [] gs e = refl
  first_joins i (h ∷ fs) gs e =
      first_joins i fs (joins_by (share_of h.path) i h.path gs) (or_right f (is_asked h) (list_any is_asked fs) e)
      ∙ first_join (share_of h.path) i h.path gs (or_left f (is_asked h) (list_any is_asked fs) e)

  pub turn_subscribed : (k : Option ℕ) (fs : List Filter) (ss : List Subscription) → list_any is_asked fs ≡ false → has_turn_of f (subscribed_all k fs ss) ≡ has_turn_of f ss
  turn_subscribed k [] ss e = refl
  turn_subscribed k (h ∷ fs) ss e =
      turn_subscribed k fs (subscribed (subscription_of k h) ss) (or_right f (is_asked h) (list_any is_asked fs) e)
      ∙ subscribed_other turn_in f (subscription_of k h) ss (or_left f (is_asked h) (list_any is_asked fs) e)

  -- ---- an Unsubscribe, and a session that ends

  -- groups of nobody have no first one
  pub first_filtered : (gs : List Group) → AreDistinct gs → first_of f (filter has_members gs) ≡ first_of f gs
  first_filtered [] d = refl
  first_filtered (g ∷ gs) d = by g.members refl (is_group f g) refl (first_filtered gs d.1)
    where
      rest_of : List Group
      rest_of = filter has_members gs

      seen : (ms : List ℕ) → g.members ≡ ms → first_of f (filter has_members (g ∷ gs)) ≡ first_of f (cond (not (length ms == 0)) (g ∷ rest_of) rest_of)
      seen ms e = ap (λ (l : List ℕ). first_of f (cond (not (length l == 0)) (g ∷ rest_of) rest_of)) e

      by : (ms : List ℕ) → g.members ≡ ms → (v : Bool) → is_group f g ≡ v → first_of f rest_of ≡ first_of f gs → first_of f (filter has_members (g ∷ gs)) ≡ cond v (first_in g.members) (first_of f gs)
      by [] e true q rest = seen [] e ∙ rest ∙ none_first f gs (no_others f g gs q d) ∙ sym (ap first_in e)
      by [] e false q rest = seen [] e ∙ rest
      by (j ∷ ms) e v q rest =
          seen (j ∷ ms) e
          ∙ ap (λ b. first_of f (cond b (g ∷ rest_of) rest_of)) (not_empty f j ms)
          ∙ ap (λ w. cond w (first_in g.members) (first_of f rest_of)) q
          ∙ ap (λ o. cond v (first_in g.members) o) rest

  first_parts : (i : ℕ) (fs : List Utf8) (gs : List Group) → is_among fs f ≡ false → first_of f (map (λ (g : Group). cond (is_among fs g.topic_filter) (without_member i g) g) gs) ≡ first_of f gs
  first_parts i fs [] none = refl
  first_parts i fs (g ∷ gs) none = by (is_among fs g.topic_filter) refl (is_group f g) refl (first_parts i fs gs none)
    where
      rest_of : List Group
      rest_of = map (λ (h : Group). cond (is_among fs h.topic_filter) (without_member i h) h) gs

      by : (v : Bool) → is_among fs g.topic_filter ≡ v → (w : Bool) → is_group f g ≡ w → first_of f rest_of ≡ first_of f gs → first_of f (cond v (without_member i g) g ∷ rest_of) ≡ first_of f (g ∷ gs)
      by true e true q rest = absurd (true_false (sym e ∙ ap (is_among fs) (same_filter g.topic_filter f q) ∙ none))
      by true e false q rest = ap (λ w. cond w (first_in (without_member i g).members) (first_of f rest_of)) q ∙ rest ∙ sym (ap (λ w. cond w (first_in g.members) (first_of f gs)) q)
      by false e w q rest = ap (λ o. cond (is_group f g) (first_in g.members) o) rest

  pub first_parted_from : (i : ℕ) (fs : List Utf8) (gs : List Group) → AreDistinct gs → is_among fs f ≡ false → first_of f (parts_from i fs gs) ≡ first_of f gs
  first_parted_from i fs gs d none =
      let F : Group → Group = λ g. cond (is_among fs g.topic_filter) (without_member i g) g in
      first_filtered (map F gs) (distinct_map F (parted_filter i fs) gs d) ∙ first_parts i fs gs none

-- who isn't one of these clients isn't taken out
pub nobody_out : (i : ℕ) (ms : List ℕ) → has_member i ms ≡ false → filter (λ m. not (m == i)) ms ≡ ms
nobody_out i [] e = refl
nobody_out i (m ∷ ms) e = by (m == i) refl e (λ k. nobody_out i ms k)
  where
    by : (v : Bool) → (m == i) ≡ v → (v || has_member i ms) ≡ false → (has_member i ms ≡ false → filter (λ n. not (n == i)) ms ≡ ms) → cond (not v) (m ∷ filter (λ n. not (n == i)) ms) (filter (λ n. not (n == i)) ms) ≡ m ∷ ms
    by true q k rest = absurd (true_false k)
    by false q k rest = ap (λ ns. m ∷ ns) (rest k)

-- and the first of them is another
pub first_is_other : (i j : ℕ) (ms : List ℕ) → has_member i ms ≡ false → first_in ms ≡ Some j → (j == i) ≡ false
first_is_other i j [] none e = by (j == i) refl
  where
    by : (v : Bool) → (j == i) ≡ v → v ≡ false
    by true q = absurd (cc e)
    by false q = refl
first_is_other i j (m ∷ ms) none e = by (j == i) refl
  where
    is : m ≡ j
    is = cc e

    by : (v : Bool) → (j == i) ≡ v → v ≡ false
    by true q = absurd (true_false (sym (ap (λ (n : ℕ). (n == i) || has_member i ms) is ∙ ap (λ v. v || has_member i ms) q) ∙ none))
    by false q = refl
