-- Who takes part in a shared subscription is who has it, and the first of those has the turn.
use Rattle.std.proofs.Common.{◌≡◌, ℕ, zero, suc, ◌+◌, ◌<◌, Bool, true, false, List, [], ◌∷◌, ◌++◌, Option, Some, None, refl, sym, subst, ap, ◌∙◌, set, get_or, cond, not, length, map, take, drop, is_some, ◌==◌, ◌&&◌, ◌||◌, inl, inr, arith, if◌then◌else◌}
use Rattle.std.specs.Prelude.{option_map, filter, nat_eq}
use Rattle.std.specs.List.{list_any, position}
use Rattle.std.specs.Cmp.Lexicographic.{pointwise}
use Rattle.std.proofs.lemmas.Bool.{eqb-true, eq-eqb}
use Rattle.std.proofs.lemmas.Option.{none-some}
use Rattle.std.proofs.lemmas.List.{take-append-drop}
use Rattle.std.proofs.lemmas.List.Folds.{list_any-append}
use Rattle.std.proofs.lemmas.List.Quantifiers.{position-Some}
use Rattle.mqtt5_base.specs.Texts.{Utf8}
use Rattle.mqtt5_subscribe.specs.declared.filter.Filter.{Filter}
use Rattle.mqtt5_network.specs.declared.subscription.Share.{Share}
use Rattle.mqtt5_network.specs.declared.subscription.Subscription.{Subscription}
use Rattle.mqtt5_network.specs.Subscriptions.{is_of, subscribed, unsubscribed, with_turn, turned}
use Rattle.mqtt5_network.specs.Asking.{share_of, subscription_of, subscribed_all, unsubscribed_all}
use Rattle.mqtt5_sessions.specs.Sessions.{Sessions, turns}
use Rattle.mqtt5_broker.specs.Groups.{Group, is_group, has_members, has_member, without_member, with_member, next_here, from_next, rotated, turns_of, turns_first, gives_all, meets, turns_met, rotates, no_group, joined, joins_by, joins_all, is_among, parts_from, asks_shared, ends_shared, groups_without, picked}
use Rattle.mqtt5_broker.specs.Within.{subscriptions_at}
use Rattle.mqtt5_broker.specs.Sharing.{turn_in, any_share, shares, has_turn_of, takes_part, first_in, first_of, AreDistinct}
use Rattle.mqtt5_broker.proofs.Sharing.{same_filter, not_both, true_false, Turns, turned_in, same, or_left, or_right, NoneOf, no_others, left, rotated_none, not_empty, changed_is, none_picked}

-- ---- truth values

or_false : (a : Bool) → (a || false) ≡ a
or_false true = refl
or_false false = refl

or_true : (a : Bool) → (a || true) ≡ true
or_true true = refl
or_true false = refl

or_swap : (a b : Bool) → (a || b) ≡ (b || a)
or_swap true true = refl
or_swap true false = refl
or_swap false true = refl
or_swap false false = refl

pub and_false : (a : Bool) → (a && false) ≡ false
and_false true = refl
and_false false = refl

-- ---- the subscriptions of one client

module _ (q : Option Share → Bool) (f : Utf8) where
  -- one that is taken out, and another
  removed_own : (ss : List Subscription) → any_share q f (unsubscribed f ss) ≡ false
  removed_own [] = refl
  removed_own (s ∷ ss) = by (is_of f s) refl (removed_own ss)
    where
      by : (v : Bool) → is_of f s ≡ v → any_share q f (unsubscribed f ss) ≡ false → any_share q f (cond (not v) (s ∷ unsubscribed f ss) (unsubscribed f ss)) ≡ false
      by true e rest = rest
      by false e rest = ap (λ v. (v && q s.share) || any_share q f (unsubscribed f ss)) e ∙ rest

  removed_other : (h : Utf8) (ss : List Subscription) → pointwise nat_eq h.bytes f.bytes ≡ false → any_share q f (unsubscribed h ss) ≡ any_share q f ss
  removed_other h [] differ = refl
  removed_other h (s ∷ ss) differ = by (is_of h s) refl (is_of f s) refl (removed_other h ss differ)
    where
      by : (v : Bool) → is_of h s ≡ v → (w : Bool) → is_of f s ≡ w → any_share q f (unsubscribed h ss) ≡ any_share q f ss → any_share q f (cond (not v) (s ∷ unsubscribed h ss) (unsubscribed h ss)) ≡ any_share q f (s ∷ ss)
      by true e true k rest = absurd (true_false (sym e ∙ not_both f h s differ k))
      by true e false k rest = rest ∙ ap (λ v. (v && q s.share) || any_share q f ss) (sym k)
      by false e w k rest = ap (λ v. (is_of f s && q s.share) || v) rest

  -- where there is none, none is left
  none_removed : (h : Utf8) (ss : List Subscription) → any_share q f ss ≡ false → any_share q f (unsubscribed h ss) ≡ false
  none_removed h [] e = refl
  none_removed h (s ∷ ss) e = by (is_of h s) (none_removed h ss (or_right f (is_of f s && q s.share) (any_share q f ss) e))
    where
      by : (v : Bool) → any_share q f (unsubscribed h ss) ≡ false → any_share q f (cond (not v) (s ∷ unsubscribed h ss) (unsubscribed h ss)) ≡ false
      by true rest = rest
      by false rest = ap (λ v. v || any_share q f (unsubscribed h ss)) (or_left f (is_of f s && q s.share) (any_share q f ss) e) ∙ rest

  pub none_unsubscribed : (hs : List Utf8) (ss : List Subscription) → any_share q f ss ≡ false → any_share q f (unsubscribed_all hs ss) ≡ false
  none_unsubscribed [] ss e = e
  none_unsubscribed (h ∷ hs) ss e = none_unsubscribed hs (unsubscribed h ss) (none_removed h ss e)

  -- one that is taken in
  subscribed_own : (s : Subscription) (ss : List Subscription) → is_of f s ≡ true → any_share q f (subscribed s ss) ≡ q s.share
  subscribed_own s ss e =
      list_any-append (λ (x : Subscription). is_of f x && q x.share) (unsubscribed s.topic_filter ss) (s ∷ [])
      ∙ ap (λ v. v || ((is_of f s && q s.share) || false)) (subst (λ (h : Utf8). any_share q f (unsubscribed h ss) ≡ false) (sym (same_filter s.topic_filter f e)) (removed_own ss))
      ∙ ap (λ v. (v && q s.share) || false) e ∙ or_false (q s.share)

  pub subscribed_other : (s : Subscription) (ss : List Subscription) → is_of f s ≡ false → any_share q f (subscribed s ss) ≡ any_share q f ss
  subscribed_other s ss e =
      list_any-append (λ (x : Subscription). is_of f x && q x.share) (unsubscribed s.topic_filter ss) (s ∷ [])
      ∙ ap (λ v. v || ((is_of f s && q s.share) || false)) (removed_other s.topic_filter ss e)
      ∙ ap (λ v. any_share q f ss || ((v && q s.share) || false)) e ∙ or_false (any_share q f ss)

  -- those of an Unsubscribe
  pub kept_unsubscribed : (hs : List Utf8) (ss : List Subscription) → is_among hs f ≡ false → any_share q f (unsubscribed_all hs ss) ≡ any_share q f ss
  kept_unsubscribed [] ss e = refl
  kept_unsubscribed (h ∷ hs) ss e =
      kept_unsubscribed hs (unsubscribed h ss) (or_right f (pointwise nat_eq h.bytes f.bytes) (is_among hs f) e) ∙ removed_other h ss (or_left f (pointwise nat_eq h.bytes f.bytes) (is_among hs f) e)

  gone_unsubscribed : (hs : List Utf8) (ss : List Subscription) → is_among hs f ≡ true → any_share q f (unsubscribed_all hs ss) ≡ false
  gone_unsubscribed [] ss e = absurd (true_false (sym e))
  gone_unsubscribed (h ∷ hs) ss e = by (pointwise nat_eq h.bytes f.bytes) refl e (gone_unsubscribed hs (unsubscribed h ss))
    where
      by : (v : Bool) → pointwise nat_eq h.bytes f.bytes ≡ v → (v || is_among hs f) ≡ true → (is_among hs f ≡ true → any_share q f (unsubscribed_all hs (unsubscribed h ss)) ≡ false) → any_share q f (unsubscribed_all hs (unsubscribed h ss)) ≡ false
      by true k r rest = none_unsubscribed hs (unsubscribed h ss) (subst (λ (g : Utf8). any_share q f (unsubscribed g ss) ≡ false) (sym (same_filter h f k)) (removed_own ss))
      by false k r rest = rest r

-- who has its turn has a share
pub turn_shares : (f : Utf8) (ss : List Subscription) → shares f ss ≡ false → has_turn_of f ss ≡ false
turn_shares f [] e = refl
turn_shares f (s ∷ ss) e =
    ap (λ v. v || has_turn_of f ss) (by (is_of f s) s.share (or_left f (is_of f s && is_some s.share) (shares f ss) e)) ∙ turn_shares f ss (or_right f (is_of f s && is_some s.share) (shares f ss) e)
  where
    by : (v : Bool) (o : Option Share) → (v && is_some o) ≡ false → (v && turn_in o) ≡ false
    by true None k = refl
    by true (Some h) k = absurd (true_false k)
    by false o k = refl

-- a turn that is given or taken
turned_shares : (h f : Utf8) (on : Bool) (ss : List Subscription) → shares h (turned f on ss) ≡ shares h ss
turned_shares h f on [] = refl
turned_shares h f on (s ∷ ss) = by (is_of f s) (turned_shares h f on ss)
  where
    some : (o : Option Share) → is_some (option_map (λ (k : Share). record k { turn = on }) o) ≡ is_some o
    some None = refl
    some (Some k) = refl

    by : (v : Bool) → shares h (turned f on ss) ≡ shares h ss → ((is_of h (cond v (with_turn on s) s) && is_some (cond v (with_turn on s) s).share) || shares h (turned f on ss)) ≡ shares h (s ∷ ss)
    by true rest = ap (λ v. (is_of h s && v) || shares h (turned f on ss)) (some s.share) ∙ ap (λ v. (is_of h s && is_some s.share) || v) rest
    by false rest = ap (λ v. (is_of h s && is_some s.share) || v) rest

turned_other : (h f : Utf8) (on : Bool) (ss : List Subscription) → pointwise nat_eq f.bytes h.bytes ≡ false → has_turn_of h (turned f on ss) ≡ has_turn_of h ss
turned_other h f on [] differ = refl
turned_other h f on (s ∷ ss) differ = by (is_of f s) refl (is_of h s) refl (turned_other h f on ss differ)
  where
    by : (v : Bool) → is_of f s ≡ v → (w : Bool) → is_of h s ≡ w → has_turn_of h (turned f on ss) ≡ has_turn_of h ss → ((is_of h (cond v (with_turn on s) s) && turn_in (cond v (with_turn on s) s).share) || has_turn_of h (turned f on ss)) ≡ has_turn_of h (s ∷ ss)
    by true e true k rest = absurd (true_false (sym e ∙ not_both h f s differ k))
    by true e false k rest = ap (λ v. (v && turn_in (with_turn on s).share) || has_turn_of h (turned f on ss)) k ∙ rest ∙ ap (λ v. (v && turn_in s.share) || has_turn_of h ss) (sym k)
    by false e w k rest = ap (λ v. (is_of h s && turn_in s.share) || v) rest

turned_own : (f : Utf8) (ss : List Subscription) → has_turn_of f (turned f true ss) ≡ shares f ss
turned_own f [] = refl
turned_own f (s ∷ ss) = by (is_of f s) refl (turned_own f ss)
  where
    some : (o : Option Share) → turn_in (option_map (λ (k : Share). record k { turn = true }) o) ≡ is_some o
    some None = refl
    some (Some k) = refl

    by : (v : Bool) → is_of f s ≡ v → has_turn_of f (turned f true ss) ≡ shares f ss → ((is_of f (cond v (with_turn true s) s) && turn_in (cond v (with_turn true s) s).share) || has_turn_of f (turned f true ss)) ≡ shares f (s ∷ ss)
    by true e rest = ap (λ v. (is_of f s && v) || has_turn_of f (turned f true ss)) (some s.share) ∙ ap (λ v. (is_of f s && is_some s.share) || v) rest
    by false e rest = ap (λ v. (v && turn_in s.share) || has_turn_of f (turned f true ss)) e ∙ rest ∙ ap (λ v. (v && is_some s.share) || shares f ss) (sym e)

-- ---- turns of sessions

pub shares_turn : (i : ℕ) (f : Utf8) (on : Bool) (s : Sessions) (h : Utf8) (j : ℕ) → shares h (subscriptions_at j (turns i f on s)) ≡ shares h (subscriptions_at j s)
shares_turn i f on s h j = by (turned_in i j f on s.clients)
  where
    by : Turns i j f on s.clients → shares h (subscriptions_at j (turns i f on s)) ≡ shares h (subscriptions_at j s)
    by (inl e) = ap (shares h) (same i f on s j ∙ e.1)
    by (inr e) = ap (shares h) (same i f on s j ∙ e.1) ∙ turned_shares h f on (subscriptions_at j s)

turn_other : (i : ℕ) (f : Utf8) (on : Bool) (s : Sessions) (h : Utf8) (j : ℕ) → pointwise nat_eq f.bytes h.bytes ≡ false → has_turn_of h (subscriptions_at j (turns i f on s)) ≡ has_turn_of h (subscriptions_at j s)
turn_other i f on s h j differ = by (turned_in i j f on s.clients)
  where
    by : Turns i j f on s.clients → has_turn_of h (subscriptions_at j (turns i f on s)) ≡ has_turn_of h (subscriptions_at j s)
    by (inl e) = ap (has_turn_of h) (same i f on s j ∙ e.1)
    by (inr e) = ap (has_turn_of h) (same i f on s j ∙ e.1) ∙ turned_other h f on (subscriptions_at j s) differ

turn_own : (i : ℕ) (f : Utf8) (s : Sessions) → shares f (subscriptions_at i s) ≡ true → has_turn_of f (subscriptions_at i (turns i f true s)) ≡ true
turn_own i f s h = by (turned_in i i f true s.clients)
  where
    by : Turns i i f true s.clients → has_turn_of f (subscriptions_at i (turns i f true s)) ≡ true
    by (inl e) = absurd (e.0 refl)
    by (inr e) = ap (has_turn_of f) (same i f true s i ∙ e.1) ∙ turned_own f (subscriptions_at i s) ∙ h

-- ---- the first has the turn

abbrev pub HasTurn : Utf8 → Option ℕ → Sessions → Type 0
HasTurn f o s = (i : ℕ) → o ≡ Some i → has_turn_of f (subscriptions_at i s) ≡ true

-- the first has the subscription
abbrev pub FirstShares : Utf8 → Option ℕ → Sessions → Type 0
FirstShares f o s = (i : ℕ) → o ≡ Some i → shares f (subscriptions_at i s) ≡ true

module _ (f : Utf8) where
  -- of another group
  other_has : (on : Bool) (o : Option ℕ) (g : Group) (s : Sessions) → is_group f g ≡ false → HasTurn f o s → HasTurn f o (turns_first on g s)
  other_has on o g s differ m = by g.members
    where
      by : (ms : List ℕ) → HasTurn f o (turns_of ms g.topic_filter on s)
      by [] = m
      by (k ∷ ms) = λ i e. turn_other k g.topic_filter on s f i differ ∙ m i e

  other_shares : (on : Bool) (o : Option ℕ) (g : Group) (s : Sessions) → FirstShares f o s → FirstShares f o (turns_first on g s)
  other_shares on o g s m = by g.members
    where
      by : (ms : List ℕ) → FirstShares f o (turns_of ms g.topic_filter on s)
      by [] = m
      by (k ∷ ms) = λ i e. shares_turn k g.topic_filter on s f i ∙ m i e

  -- of its own
  own_has : (g : Group) (s : Sessions) → is_group f g ≡ true → FirstShares f (first_in g.members) s → HasTurn f (first_in g.members) (turns_first true g s)
  own_has g s is m = subst (λ h. HasTurn f (first_in g.members) (turns_of g.members h true s)) (sym (same_filter g.topic_filter f is)) (by g.members m)
    where
      by : (ms : List ℕ) → FirstShares f (first_in ms) s → HasTurn f (first_in ms) (turns_of ms f true s)
      by [] k = λ i e. absurd (none-some i e)
      by (n ∷ ms) k = λ i e. subst (λ (j : ℕ). has_turn_of f (subscriptions_at j (turns n f true s)) ≡ true) (cc e) (turn_own n f s (k n refl))

  all_other : (gs : List Group) (o : Option ℕ) (s : Sessions) → NoneOf f gs → HasTurn f o s → HasTurn f o (gives_all gs s)
  all_other [] o s e m = m
  all_other (g ∷ gs) o s e m = all_other gs o (turns_first true g s) (or_right f (is_group f g) (list_any (is_group f) gs) e) (other_has true o g s (or_left f (is_group f g) (list_any (is_group f) gs) e) m)

  -- those that pass a test are given the turns, where of one that doesn't the first has it already
  module _ (q : Group → Bool) (F : Group → Group) (keeps : (g : Group) → (F g).topic_filter ≡ g.topic_filter) where
    abbrev pub Spared : List Group → Sessions → Type 0
    Spared gs s = (h : Group) → is_group f h ≡ true → q h ≡ false → first_of f gs ≡ first_in h.members → HasTurn f (first_in (F h).members) s

    pub picked_given : (gs : List Group) (s : Sessions) → AreDistinct gs → FirstShares f (first_of f (map F gs)) s → Spared gs s → HasTurn f (first_of f (map F gs)) (gives_all (picked q F gs) s)
    picked_given [] s d m spared = λ i e. absurd (none-some i e)
    picked_given (g ∷ gs) s d m spared = by (is_group f (F g)) refl (q g) refl (λ x k r. picked_given gs x d.1 k r) m
      where
        firsts : Option ℕ
        firsts = first_of f (map F gs)

        was : (v : Bool) → is_group f (F g) ≡ v → is_group f g ≡ v
        was v e = sym (changed_is f q F keeps g) ∙ e

        -- of the others, where this one is of another filter
        later : is_group f (F g) ≡ false → (x : Sessions) → ((o : Option ℕ) → HasTurn f o s → HasTurn f o x) → Spared gs x
        later e x more = λ h its failed first. more (first_in (F h).members) (spared h its failed (ap (λ v. cond v (first_in g.members) (first_of f gs)) (was false e) ∙ first))

        by : (v : Bool) → is_group f (F g) ≡ v → (w : Bool) → q g ≡ w → ((x : Sessions) → FirstShares f firsts x → Spared gs x → HasTurn f firsts (gives_all (picked q F gs) x)) → FirstShares f (cond v (first_in (F g).members) firsts) s
            → HasTurn f (cond v (first_in (F g).members) firsts) (gives_all (if w then F g ∷ picked q F gs else picked q F gs) s)
        by true e true p rest k =
            all_other (picked q F gs) (first_in (F g).members) (turns_first true (F g) s) (none_picked f q F keeps gs (no_others f g gs (was true e) d)) (own_has (F g) s e k)
        by true e false p rest k =
            all_other (picked q F gs) (first_in (F g).members) s (none_picked f q F keeps gs (no_others f g gs (was true e) d)) (spared g (was true e) p (ap (λ v. cond v (first_in g.members) (first_of f gs)) (was true e)))
        by false e true p rest k = rest (turns_first true (F g) s) (other_shares true firsts (F g) s k) (later e (turns_first true (F g) s) (λ o r. other_has true o (F g) s e r))
        by false e false p rest k = rest s k (later e s (λ o r. r))

  -- ---- those that a topic matches

  module _ (t : List ℕ) where
    met_other : (on : Bool) (gs : List Group) (o : Option ℕ) (s : Sessions) → NoneOf f gs → HasTurn f o s → HasTurn f o (turns_met on t gs s)
    met_other on [] o s e m = m
    met_other on (g ∷ gs) o s e m = met_other on gs o (cond (meets t g) (turns_first on g s) s) (or_right f (is_group f g) (list_any (is_group f) gs) e) (by (meets t g))
      where
        by : (v : Bool) → HasTurn f o (cond v (turns_first on g s) s)
        by true = other_has on o g s (or_left f (is_group f g) (list_any (is_group f) gs) e) m
        by false = m

    abbrev after_it : Bool → Group → Sessions → Sessions
    after_it on g s = cond (meets t g) (turns_first on g s) s

    pub met_left : (gs : List Group) (s : Sessions) → AreDistinct gs → HasTurn f (first_of f gs) s → HasTurn f (left f t gs) (turns_met false t gs s)
    met_left [] s d m = m
    met_left (g ∷ gs) s d m = by (is_group f g) refl (λ k. met_left gs (after_it false g s) d.1 k) m
      where
        own : HasTurn f (first_in g.members) s → (v : Bool) → HasTurn f (cond v None (first_in g.members)) (cond v (turns_first false g s) s)
        own k true = λ i e. absurd (none-some i e)
        own k false = k

        others : is_group f g ≡ false → (o : Option ℕ) → HasTurn f o s → (v : Bool) → HasTurn f o (cond v (turns_first false g s) s)
        others e o k true = other_has false o g s e k
        others e o k false = k

        by : (v : Bool) → is_group f g ≡ v → (HasTurn f (first_of f gs) (after_it false g s) → HasTurn f (left f t gs) (turns_met false t gs (after_it false g s))) → HasTurn f (cond v (first_in g.members) (first_of f gs)) s
            → HasTurn f (cond v (cond (meets t g) None (first_in g.members)) (left f t gs)) (turns_met false t gs (after_it false g s))
        by true e rest k = met_other false gs (cond (meets t g) None (first_in g.members)) (after_it false g s) (no_others f g gs e d) (own k (meets t g))
        by false e rest k = rest (others e (first_of f gs) k (meets t g))

    module _ (u : Sessions) where
      pub met_all : (gs : List Group) (s : Sessions) → AreDistinct gs → FirstShares f (first_of f (rotates t u gs)) s → HasTurn f (left f t gs) s → HasTurn f (first_of f (rotates t u gs)) (turns_met true t (rotates t u gs) s)
      met_all [] s d p m = m
      met_all (g ∷ gs) s d p m = by (meets t g) refl (is_group f g) refl (λ x k r. met_all gs x d.1 k r) p m
        where
          rest_of : List Group
          rest_of = rotates t u gs

          first_met : (h : Group) (v : Bool) → meets t h ≡ v → HasTurn f (first_of f (h ∷ rest_of)) (turns_met true t rest_of (cond v (turns_first true h s) s)) → HasTurn f (first_of f (h ∷ rest_of)) (turns_met true t (h ∷ rest_of) s)
          first_met h v e k = subst (λ b. HasTurn f (first_of f (h ∷ rest_of)) (turns_met true t rest_of (cond b (turns_first true h s) s))) (sym e) k

          -- whose it is, by whether the group is of the filter
          is_first : (h : Group) (w : Bool) → is_group f h ≡ w → first_of f (h ∷ rest_of) ≡ cond w (first_in h.members) (first_of f rest_of)
          is_first h w e = ap (λ v. cond v (first_in h.members) (first_of f rest_of)) e

          by : (v : Bool) → meets t g ≡ v → (w : Bool) → is_group f g ≡ w → ((x : Sessions) → FirstShares f (first_of f rest_of) x → HasTurn f (left f t gs) x → HasTurn f (first_of f rest_of) (turns_met true t rest_of x))
              → FirstShares f (first_of f (cond v (rotated u g) g ∷ rest_of)) s → HasTurn f (cond w (cond v None (first_in g.members)) (left f t gs)) s
              → HasTurn f (first_of f (cond v (rotated u g) g ∷ rest_of)) (turns_met true t (cond v (rotated u g) g ∷ rest_of) s)
          by true e true q rest k r =
              let h : Group = rotated u g in
              first_met h true e
              (subst (λ o. HasTurn f o (turns_met true t rest_of (turns_first true h s))) (sym (is_first h true q))
              (met_other true rest_of (first_in h.members) (turns_first true h s) (rotated_none f t u gs (no_others f g gs q d)) (own_has h s q (subst (λ o. FirstShares f o s) (is_first h true q) k))))
          by true e false q rest k r =
              let h : Group = rotated u g in
              first_met h true e
              (subst (λ o. HasTurn f o (turns_met true t rest_of (turns_first true h s))) (sym (is_first h false q))
              (rest (turns_first true h s) (other_shares true (first_of f rest_of) h s (subst (λ o. FirstShares f o s) (is_first h false q) k)) (other_has true (left f t gs) h s q r)))
          by false e true q rest k r =
              first_met g false e
              (subst (λ o. HasTurn f o (turns_met true t rest_of s)) (sym (is_first g true q))
              (met_other true rest_of (first_in g.members) s (rotated_none f t u gs (no_others f g gs q d)) r))
          by false e false q rest k r =
              first_met g false e
              (subst (λ o. HasTurn f o (turns_met true t rest_of s)) (sym (is_first g false q))
              (rest s (subst (λ o. FirstShares f o s) (is_first g false q) k) r))

-- ---- who takes part

-- the numbers of clients, one of which another is put behind, taken out or moved
rotated_member : (j : ℕ) (o : Option ℕ) (ms : List ℕ) → has_member j (from_next o ms) ≡ has_member j ms
rotated_member j None ms = refl
rotated_member j (Some n) ms =
    let p : ℕ → Bool = λ m. m == j in
    list_any-append p (drop (n + 1) ms) (take (n + 1) ms)
    ∙ or_swap (list_any p (drop (n + 1) ms)) (list_any p (take (n + 1) ms))
    ∙ sym (list_any-append p (take (n + 1) ms) (drop (n + 1) ms))
    ∙ ap (list_any p) (take-append-drop (n + 1) ms)

is_there : (i j : ℕ) (ms : List ℕ) → has_member i ms ≡ true → (has_member j ms || (i == j)) ≡ has_member j ms
is_there i j ms e = by (i == j) refl
  where
    by : (v : Bool) → (i == j) ≡ v → (has_member j ms || v) ≡ has_member j ms
    by true k = or_true (has_member j ms) ∙ sym (subst (λ (n : ℕ). has_member n ms ≡ true) (eqb-true i j k) e)
    by false k = or_false (has_member j ms)

joined_member : (i j : ℕ) (g : Group) → has_member j (with_member i g).members ≡ (has_member j g.members || (i == j))
joined_member i j g = by (has_member i g.members) refl
  where
    by : (v : Bool) → has_member i g.members ≡ v → has_member j (cond v g (record g { members = g.members ++ i ∷ [] })).members ≡ (has_member j g.members || (i == j))
    by true e = sym (is_there i j g.members e)
    by false e = list_any-append (λ m. m == j) g.members (i ∷ []) ∙ ap (λ v. has_member j g.members || v) (or_false (i == j))

parted_other : (i j : ℕ) (ms : List ℕ) → (j == i) ≡ false → has_member j (filter (λ m. not (m == i)) ms) ≡ has_member j ms
parted_other i j [] differ = refl
parted_other i j (m ∷ ms) differ = by (m == i) refl (m == j) refl (parted_other i j ms differ)
  where
    rest_of : List ℕ
    rest_of = filter (λ m. not (m == i)) ms

    by : (v : Bool) → (m == i) ≡ v → (w : Bool) → (m == j) ≡ w → has_member j rest_of ≡ has_member j ms → has_member j (cond (not v) (m ∷ rest_of) rest_of) ≡ ((m == j) || has_member j ms)
    by true e true k rest = absurd (true_false (sym (eq-eqb j i (sym (eqb-true m j k) ∙ eqb-true m i e)) ∙ differ))
    by true e false k rest = rest ∙ ap (λ v. v || has_member j ms) (sym k)
    by false e w k rest = ap (λ v. (m == j) || v) rest

parted_own : (i : ℕ) (ms : List ℕ) → has_member i (filter (λ m. not (m == i)) ms) ≡ false
parted_own i [] = refl
parted_own i (m ∷ ms) = by (m == i) refl (parted_own i ms)
  where
    rest_of : List ℕ
    rest_of = filter (λ m. not (m == i)) ms

    by : (v : Bool) → (m == i) ≡ v → has_member i rest_of ≡ false → has_member i (cond (not v) (m ∷ rest_of) rest_of) ≡ false
    by true e rest = rest
    by false e rest = ap (λ v. v || has_member i rest_of) e ∙ rest

module _ (f : Utf8) (j : ℕ) where
  abbrev parts_in : Group → Bool
  parts_in g = is_group f g && has_member j g.members

  none_takes_part : (gs : List Group) → NoneOf f gs → takes_part f j gs ≡ false
  none_takes_part [] e = refl
  none_takes_part (g ∷ gs) e =
      ap (λ v. (v && has_member j g.members) || takes_part f j gs) (or_left f (is_group f g) (list_any (is_group f) gs) e) ∙ none_takes_part gs (or_right f (is_group f g) (list_any (is_group f) gs) e)

  pub rotated_takes_part : (t : List ℕ) (u : Sessions) (gs : List Group) → takes_part f j (rotates t u gs) ≡ takes_part f j gs
  rotated_takes_part t u [] = refl
  rotated_takes_part t u (g ∷ gs) = by (meets t g) (rotated_takes_part t u gs)
    where
      by : (v : Bool) → takes_part f j (rotates t u gs) ≡ takes_part f j gs → (parts_in (cond v (rotated u g) g) || takes_part f j (rotates t u gs)) ≡ takes_part f j (g ∷ gs)
      by true rest = ap (λ v. (is_group f g && v) || takes_part f j (rotates t u gs)) (rotated_member j (next_here u g.members) g.members) ∙ ap (λ v. parts_in g || v) rest
      by false rest = ap (λ v. parts_in g || v) rest

  filled_takes_part : (gs : List Group) → takes_part f j (filter has_members gs) ≡ takes_part f j gs
  filled_takes_part [] = refl
  filled_takes_part (g ∷ gs) = by g.members refl (filled_takes_part gs)
    where
      kept : List Group
      kept = filter has_members gs

      by : (ms : List ℕ) → g.members ≡ ms → takes_part f j kept ≡ takes_part f j gs → takes_part f j (cond (not (length g.members == 0)) (g ∷ kept) kept) ≡ (parts_in g || takes_part f j gs)
      by [] e rest =
          ap (λ (ms : List ℕ). takes_part f j (cond (not (length ms == 0)) (g ∷ kept) kept)) e ∙ rest
          ∙ sym (ap (λ (ms : List ℕ). (is_group f g && has_member j ms) || takes_part f j gs) e ∙ ap (λ v. v || takes_part f j gs) (and_false (is_group f g)))
      by (m ∷ ms) e rest =
          ap (λ v. takes_part f j (cond v (g ∷ kept) kept)) (ap (λ (ns : List ℕ). not (length ns == 0)) e ∙ not_empty f m ms) ∙ ap (λ v. parts_in g || v) rest

  -- each group changes so
  mapped_takes_part : (F : Group → Group) → ((g : Group) → parts_in (F g) ≡ parts_in g) → (gs : List Group) → takes_part f j (map F gs) ≡ takes_part f j gs
  mapped_takes_part F h [] = refl
  mapped_takes_part F h (g ∷ gs) = ap (λ v. v || takes_part f j (map F gs)) (h g) ∙ ap (λ v. parts_in g || v) (mapped_takes_part F h gs)

  mapped_none : (F : Group → Group) → ((g : Group) → parts_in (F g) ≡ false) → (gs : List Group) → takes_part f j (map F gs) ≡ false
  mapped_none F h [] = refl
  mapped_none F h (g ∷ gs) = ap (λ v. v || takes_part f j (map F gs)) (h g) ∙ mapped_none F h gs

  -- one group gets a member
  or_last : (a b c : Bool) → ((a || b) || c) ≡ ((a || c) || b)
  or_last true b c = refl
  or_last false true true = refl
  or_last false true false = refl
  or_last false false true = refl
  or_last false false false = refl

  or_both : (a b c : Bool) → (a || (b || c)) ≡ ((a || b) || c)
  or_both true b c = refl
  or_both false b c = refl

  and_or : (v a b : Bool) → (v && (a || b)) ≡ ((v && a) || (v && b))
  and_or true a b = refl
  and_or false a b = refl

  joined_in : (i : ℕ) (g : Group) → parts_in (with_member i g) ≡ (parts_in g || (is_group f g && (i == j)))
  joined_in i g = ap (λ (h : Utf8). pointwise nat_eq h.bytes f.bytes && has_member j (with_member i g).members) (its_filter (has_member i g.members)) ∙ ap (λ v. is_group f g && v) (joined_member i j g) ∙ and_or (is_group f g) (has_member j g.members) (i == j)
    where
      its_filter : (v : Bool) → (cond v g (record g { members = g.members ++ i ∷ [] })).topic_filter ≡ g.topic_filter
      its_filter true = refl
      its_filter false = refl

  set_takes_part : (i n : ℕ) (gs : List Group) → n < length gs → takes_part f j (set gs n (with_member i (get_or gs n no_group))) ≡ (takes_part f j gs || (is_group f (get_or gs n no_group) && (i == j)))
  set_takes_part i n [] lt = absurd (omega (arith, lt))
  set_takes_part i zero (g ∷ gs) lt = ap (λ v. v || takes_part f j gs) (joined_in i g) ∙ or_last (parts_in g) (is_group f g && (i == j)) (takes_part f j gs)
  set_takes_part i (suc n) (g ∷ gs) lt =
      ap (λ v. parts_in g || v) (set_takes_part i n gs (omega (arith, lt))) ∙ or_both (parts_in g) (takes_part f j gs) (is_group f (get_or gs n no_group) && (i == j))

  joins_takes_part : (i : ℕ) (h : Utf8) (share : Share) (gs : List Group) → takes_part f j (joins_by (Some share) i h gs) ≡ (takes_part f j gs || (pointwise nat_eq h.bytes f.bytes && (i == j)))
  joins_takes_part i h share gs = by (position (is_group h) gs) refl
    where
      new : Group
      new = record { topic_filter = h; pattern = share.topic_filter; members = i ∷ [] }

      by : (k : Option ℕ) → position (is_group h) gs ≡ k → takes_part f j (joined k i h share gs) ≡ (takes_part f j gs || (pointwise nat_eq h.bytes f.bytes && (i == j)))
      by None e =
          list_any-append parts_in gs (new ∷ []) ∙ ap (λ v. takes_part f j gs || v) (or_false (parts_in new)) ∙ ap (λ v. takes_part f j gs || (pointwise nat_eq h.bytes f.bytes && v)) (or_false (i == j))
      by (Some n) e =
          let found = position-Some (is_group h) gs n no_group e in
          set_takes_part i n gs found.0
          ∙ ap (λ (k : Utf8). takes_part f j gs || (pointwise nat_eq k.bytes f.bytes && (i == j))) (same_filter (get_or gs n no_group).topic_filter h found.1)

-- a Subscribe of the client itself
pub joined_own : (f : Utf8) (i : ℕ) (k : Option ℕ) (fs : List Filter) (gs : List Group) (ss : List Subscription) → takes_part f i gs ≡ shares f ss → (is_some (share_of f) ≡ false → shares f ss ≡ false) → takes_part f i (joins_all i fs gs) ≡ shares f (subscribed_all k fs ss)
joined_own f i k [] gs ss e n = e
joined_own f i k (h ∷ fs) gs ss e n =
    joined_own f i k fs (joins_by (share_of h.path) i h.path gs) (subscribed new ss) (one (share_of h.path) refl (pointwise nat_eq h.path.bytes f.bytes) refl) (λ q. none q (pointwise nat_eq h.path.bytes f.bytes) refl)
  where
    new : Subscription
    new = subscription_of k h

    one : (o : Option Share) → share_of h.path ≡ o → (v : Bool) → pointwise nat_eq h.path.bytes f.bytes ≡ v → takes_part f i (joins_by o i h.path gs) ≡ shares f (subscribed new ss)
    one None q true p = e ∙ n (ap (λ (g : Utf8). is_some (share_of g)) (sym (same_filter h.path f p)) ∙ ap is_some q) ∙ sym (subscribed_own is_some f new ss p ∙ ap is_some q)
    one None q false p = e ∙ sym (subscribed_other is_some f new ss p)
    one (Some share) q true p =
        joins_takes_part f i i h.path share gs ∙ ap (λ v. takes_part f i gs || (v && (i == i))) p ∙ ap (λ v. takes_part f i gs || v) (eq-eqb i i refl) ∙ or_true (takes_part f i gs)
        ∙ sym (subscribed_own is_some f new ss p ∙ ap is_some q)
    one (Some share) q false p =
        joins_takes_part f i i h.path share gs ∙ ap (λ v. takes_part f i gs || (v && (i == i))) p ∙ or_false (takes_part f i gs) ∙ e ∙ sym (subscribed_other is_some f new ss p)

    none : is_some (share_of f) ≡ false → (v : Bool) → pointwise nat_eq h.path.bytes f.bytes ≡ v → shares f (subscribed new ss) ≡ false
    none q true p = subscribed_own is_some f new ss p ∙ ap (λ (g : Utf8). is_some (share_of g)) (same_filter h.path f p) ∙ q
    none q false p = subscribed_other is_some f new ss p ∙ n q

-- and for others
pub joined_other : (f : Utf8) (i j : ℕ) (fs : List Filter) (gs : List Group) → (i == j) ≡ false → takes_part f j (joins_all i fs gs) ≡ takes_part f j gs
joined_other f i j [] gs differ = refl
joined_other f i j (h ∷ fs) gs differ = joined_other f i j fs (joins_by (share_of h.path) i h.path gs) differ ∙ one (share_of h.path)
  where
    one : (o : Option Share) → takes_part f j (joins_by o i h.path gs) ≡ takes_part f j gs
    one None = refl
    one (Some share) = joins_takes_part f j i h.path share gs ∙ ap (λ v. takes_part f j gs || (pointwise nat_eq h.path.bytes f.bytes && v)) differ ∙ ap (λ v. takes_part f j gs || v) (and_false (pointwise nat_eq h.path.bytes f.bytes)) ∙ or_false (takes_part f j gs)

-- a filter that isn't one of a shared subscription is none of theirs
pub named_after : (f : Utf8) (k : Option ℕ) (fs : List Filter) (ss : List Subscription) → is_some (share_of f) ≡ false → shares f ss ≡ false → shares f (subscribed_all k fs ss) ≡ false
named_after f k [] ss q e = e
named_after f k (h ∷ fs) ss q e = named_after f k fs (subscribed (subscription_of k h) ss) q (one (pointwise nat_eq h.path.bytes f.bytes) refl)
  where
    one : (v : Bool) → pointwise nat_eq h.path.bytes f.bytes ≡ v → shares f (subscribed (subscription_of k h) ss) ≡ false
    one true p = subscribed_own is_some f (subscription_of k h) ss p ∙ ap (λ (g : Utf8). is_some (share_of g)) (same_filter h.path f p) ∙ q
    one false p = subscribed_other is_some f (subscription_of k h) ss p ∙ e

-- a Subscribe without shared subscriptions
none_shared : (o : Option Share) → is_some o ≡ false → o ≡ None
none_shared None e = refl
none_shared (Some h) e = absurd (true_false e)

pub plain_joins : (i : ℕ) (fs : List Filter) (gs : List Group) → asks_shared fs ≡ false → joins_all i fs gs ≡ gs
plain_joins i [] gs e = refl
plain_joins i (h ∷ fs) gs e =
    plain_joins i fs (joins_by (share_of h.path) i h.path gs) (or_right h.path (is_some (share_of h.path)) (asks_shared fs) e)
    ∙ ap (λ o. joins_by o i h.path gs) (none_shared (share_of h.path) (or_left h.path (is_some (share_of h.path)) (asks_shared fs) e))

pub plain_turn : (f : Utf8) (k : Option ℕ) (fs : List Filter) (ss : List Subscription) → asks_shared fs ≡ false → (is_some (share_of f) ≡ false → shares f ss ≡ false) → has_turn_of f ss ≡ true → has_turn_of f (subscribed_all k fs ss) ≡ true
plain_turn f k [] ss e n t = t
plain_turn f k (h ∷ fs) ss e n t =
    plain_turn f k fs (subscribed new ss) (or_right f (is_some (share_of h.path)) (asks_shared fs) e) (λ q. named_after f k (h ∷ []) ss q (n q)) (one (pointwise nat_eq h.path.bytes f.bytes) refl)
  where
    new : Subscription
    new = subscription_of k h

    one : (v : Bool) → pointwise nat_eq h.path.bytes f.bytes ≡ v → has_turn_of f (subscribed new ss) ≡ true
    one true p = absurd (true_false (sym t ∙ turn_shares f ss (n (ap (λ (g : Utf8). is_some (share_of g)) (sym (same_filter h.path f p)) ∙ or_left f (is_some (share_of h.path)) (asks_shared fs) e))))
    one false p = subscribed_other turn_in f new ss p ∙ t

-- ---- an Unsubscribe

module _ (f : Utf8) (i : ℕ) (hs : List Utf8) where
  abbrev parts_it : Group → Group
  parts_it g = cond (is_among hs g.topic_filter) (without_member i g) g

  part_other : (j : ℕ) → (j == i) ≡ false → (g : Group) → parts_in f j (parts_it g) ≡ parts_in f j g
  part_other j differ g = by (is_among hs g.topic_filter)
    where
      by : (v : Bool) → parts_in f j (cond v (without_member i g) g) ≡ parts_in f j g
      by true = ap (λ v. is_group f g && v) (parted_other i j g.members differ)
      by false = refl

  part_own : is_among hs f ≡ true → (g : Group) → parts_in f i (parts_it g) ≡ false
  part_own among g = by (is_among hs g.topic_filter) refl (is_group f g) refl
    where
      by : (v : Bool) → is_among hs g.topic_filter ≡ v → (w : Bool) → is_group f g ≡ w → parts_in f i (cond v (without_member i g) g) ≡ false
      by true e w q = ap (λ v. is_group f g && v) (parted_own i g.members) ∙ and_false (is_group f g)
      by false e true q = absurd (true_false (sym (subst (λ (h : Utf8). is_among hs h ≡ true) (sym (same_filter g.topic_filter f q)) among) ∙ e))
      by false e false q = ap (λ v. v && has_member i g.members) q

  part_kept : is_among hs f ≡ false → (g : Group) → parts_in f i (parts_it g) ≡ parts_in f i g
  part_kept among g = by (is_among hs g.topic_filter) refl (is_group f g) refl
    where
      by : (v : Bool) → is_among hs g.topic_filter ≡ v → (w : Bool) → is_group f g ≡ w → parts_in f i (cond v (without_member i g) g) ≡ parts_in f i g
      by true e true q = absurd (true_false (sym e ∙ subst (λ (h : Utf8). is_among hs h ≡ false) (sym (same_filter g.topic_filter f q)) among))
      by true e false q = ap (λ v. v && has_member i (without_member i g).members) q ∙ sym (ap (λ v. v && has_member i g.members) q)
      by false e w q = refl

  pub parts_other : (j : ℕ) (gs : List Group) → (j == i) ≡ false → takes_part f j (parts_from i hs gs) ≡ takes_part f j gs
  parts_other j gs differ = filled_takes_part f j (map parts_it gs) ∙ mapped_takes_part f j parts_it (part_other j differ) gs

  pub parts_own : (gs : List Group) (ss : List Subscription) → takes_part f i gs ≡ shares f ss → takes_part f i (parts_from i hs gs) ≡ shares f (unsubscribed_all hs ss)
  parts_own gs ss e = by (is_among hs f) refl
    where
      by : (v : Bool) → is_among hs f ≡ v → takes_part f i (parts_from i hs gs) ≡ shares f (unsubscribed_all hs ss)
      by true q = filled_takes_part f i (map parts_it gs) ∙ mapped_none f i parts_it (part_own q) gs ∙ sym (gone_unsubscribed is_some f hs ss q)
      by false q = filled_takes_part f i (map parts_it gs) ∙ mapped_takes_part f i parts_it (part_kept q) gs ∙ e ∙ sym (kept_unsubscribed is_some f hs ss q)

-- one without shared subscriptions
plain_among : (f : Utf8) (hs : List Utf8) → ends_shared hs ≡ false → is_among hs f ≡ true → is_some (share_of f) ≡ false
plain_among f [] e q = absurd (true_false (sym q))
plain_among f (h ∷ hs) e q = by (pointwise nat_eq h.bytes f.bytes) refl q (λ r. plain_among f hs (or_right f (is_some (share_of h)) (ends_shared hs) e) r)
  where
    by : (v : Bool) → pointwise nat_eq h.bytes f.bytes ≡ v → (v || is_among hs f) ≡ true → (is_among hs f ≡ true → is_some (share_of f) ≡ false) → is_some (share_of f) ≡ false
    by true p r rest = ap (λ (g : Utf8). is_some (share_of g)) (sym (same_filter h f p)) ∙ or_left f (is_some (share_of h)) (ends_shared hs) e
    by false p r rest = rest r

pub plain_parts : (q : Option Share → Bool) (f : Utf8) (hs : List Utf8) (ss : List Subscription) → ends_shared hs ≡ false → (is_some (share_of f) ≡ false → any_share q f ss ≡ false) → any_share q f (unsubscribed_all hs ss) ≡ any_share q f ss
plain_parts q f hs ss e n = by (is_among hs f) refl
  where
    by : (v : Bool) → is_among hs f ≡ v → any_share q f (unsubscribed_all hs ss) ≡ any_share q f ss
    by true p = gone_unsubscribed q f hs ss p ∙ sym (n (plain_among f hs e p))
    by false p = kept_unsubscribed q f hs ss p

-- ---- a session that ends

pub left_other : (f : Utf8) (i j : ℕ) (gs : List Group) → (j == i) ≡ false → takes_part f j (groups_without i gs) ≡ takes_part f j gs
left_other f i j gs differ = filled_takes_part f j (map (without_member i) gs) ∙ mapped_takes_part f j (without_member i) (λ g. ap (λ v. is_group f g && v) (parted_other i j g.members differ)) gs

pub left_own : (f : Utf8) (i : ℕ) (gs : List Group) → takes_part f i (groups_without i gs) ≡ false
left_own f i gs = filled_takes_part f i (map (without_member i) gs) ∙ mapped_none f i (without_member i) (λ g. ap (λ v. is_group f g && v) (parted_own i g.members) ∙ and_false (is_group f g)) gs

-- ---- the first takes part, and somebody is the first

pub first_takes_part : (f : Utf8) (i : ℕ) (gs : List Group) → first_of f gs ≡ Some i → takes_part f i gs ≡ true
first_takes_part f i [] e = absurd (none-some i e)
first_takes_part f i (g ∷ gs) e = by (is_group f g) refl e (first_takes_part f i gs)
  where
    own : (ms : List ℕ) → first_in ms ≡ Some i → has_member i ms ≡ true
    own [] k = absurd (none-some i k)
    own (m ∷ ms) k = ap (λ v. v || has_member i ms) (eq-eqb m i (cc k))

    by : (v : Bool) → is_group f g ≡ v → cond v (first_in g.members) (first_of f gs) ≡ Some i → (first_of f gs ≡ Some i → takes_part f i gs ≡ true) → ((is_group f g && has_member i g.members) || takes_part f i gs) ≡ true
    by true q k rest = ap (λ v. (v && has_member i g.members) || takes_part f i gs) q ∙ ap (λ v. v || takes_part f i gs) (own g.members k)
    by false q k rest = ap (λ v. (v && has_member i g.members) || takes_part f i gs) q ∙ rest k

pub somebody_first : (f : Utf8) (i : ℕ) (gs : List Group) → AreDistinct gs → takes_part f i gs ≡ true → (j : ℕ) × (first_of f gs ≡ Some j)
somebody_first f i [] d e = absurd (true_false (sym e))
somebody_first f i (g ∷ gs) d e = by (is_group f g) refl e (λ k. somebody_first f i gs d.1 k)
  where
    own : (ms : List ℕ) → has_member i ms ≡ true → (j : ℕ) × (first_in ms ≡ Some j)
    own [] k = absurd (true_false (sym k))
    own (m ∷ ms) k = (m, refl)

    by : (v : Bool) → is_group f g ≡ v → ((is_group f g && has_member i g.members) || takes_part f i gs) ≡ true → (takes_part f i gs ≡ true → (j : ℕ) × (first_of f gs ≡ Some j)) → (j : ℕ) × (first_of f (g ∷ gs) ≡ Some j)
    by true q k rest =
        let it = own g.members (sym (or_false (has_member i g.members)) ∙ ap (λ v. has_member i g.members || v) (sym (none_takes_part f i gs (no_others f g gs q d))) ∙ ap (λ v. (v && has_member i g.members) || takes_part f i gs) (sym q) ∙ k) in
        (it.0, ap (λ v. cond v (first_in g.members) (first_of f gs)) q ∙ it.1)
    by false q k rest =
        let it = rest (ap (λ v. (v && has_member i g.members) || takes_part f i gs) (sym q) ∙ k) in
        (it.0, ap (λ v. cond v (first_in g.members) (first_of f gs)) q ∙ it.1)
