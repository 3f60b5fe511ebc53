-- Who has the turn in a shared subscription is the first of its group, whatever is called.
use Rattle.std.proofs.Common.{◌≡◌, ◌≢◌, ℕ, zero, suc, ◌+◌, ◌<◌, Bool, true, false, List, [], ◌∷◌, ◌++◌, Option, Some, None, refl, sym, subst, ap, ◌∙◌, set, get_or, cond, not, length, map, ◌==◌, ◌||◌, ◌⊎◌, inl, inr, arith, nat_lt, if◌then◌else◌}
use Rattle.std.proofs.Math.Numerals.{one-add}
use Rattle.std.specs.Prelude.{option_map, filter, nat_eq}
use Rattle.std.specs.List.{list_any, position, position_or_len}
use Rattle.std.specs.Str.{is_utf8}
use Rattle.std.specs.Cmp.Lexicographic.{pointwise, same_text}
use Rattle.std.proofs.lemmas.Bool.{eqb-true, eq-eqb, ne_eqb, leb-false, lt-leb}
use Rattle.std.proofs.lemmas.Cmp.{nat_list_eq_equiv}
use Rattle.std.proofs.lemmas.Option.{none-some}
use Rattle.std.proofs.lemmas.List.{map-id}
use Rattle.std.proofs.lemmas.List.Elements.{All-nil, All-cons, All-head, All-tail, All-append, All-filter}
use Rattle.std.proofs.lemmas.List.Folds.{list_any-append}
use Rattle.mqtt5_base.specs.Texts.{Utf8}
use Rattle.mqtt5_subscribe.specs.declared.filter.Filter.{Filter}
use Rattle.mqtt5_subscribe.specs.declared.unsubscribe.Unsubscribe.{Unsubscribe}
use Rattle.mqtt5_codec.specs.declared.packet.Packet.{Packet}
use Rattle.mqtt5_codec.specs.declared.packet.Packet.TheVariants as packets
use Rattle.mqtt5_network.specs.Connection.{is_sending}
use Rattle.mqtt5_network.specs.declared.subscription.Share.{Share}
use Rattle.mqtt5_network.specs.declared.subscription.Subscription.{Subscription}
use Rattle.mqtt5_network.specs.Subscriptions.{is_of, subscribed, unsubscribed, with_turn, turned}
use Rattle.mqtt5_network.specs.Asking.{is_ack, identifier_of, shared_filter, share_in, share_of, subscription_of, subscribed_all, unsubscribed_all, subscriptions_after}
use Rattle.mqtt5_network.specs.Client.{Client, comes_to}
use Rattle.mqtt5_network.specs.Retained.{copies_for}
use Rattle.mqtt5_network.specs.Place.{message_of}
use Rattle.mqtt5_router.specs.Kept.{without_events, kept_of, alone, after_packet}
use Rattle.mqtt5_sessions.specs.Sessions.{Sessions, ClientState, gets, with_client, with_turn_of, turns, arrives, passes, takes_out, loses, is_due, dates, leaves, comes, ends}
use Rattle.mqtt5_sessions.specs.Runs as runs
use Rattle.mqtt5_sessions.specs.Runs.{SessionEvent, after_event}
use Rattle.mqtt5_broker.specs.Groups.{Group, is_group, has_members, has_member, without_member, with_member, rotated, turns_of, turns_first, picked, gives_all, meets, turns_met, rotates, rotated_for, turned_for, groups_turned, sessions_turned, no_group, joined, joins_by, joins_all, is_among, parts_from, asks_shared, ends_shared, groups_before, sessions_before, names, named_in, gives_if, groups_after, sessions_after, left_in, groups_without, sessions_without}
use Rattle.mqtt5_broker.specs.Within.{subscriptions_in, subscriptions_at}
use Rattle.mqtt5_broker.specs.Sharing.{turn_in, first_in, first_of, AreDistinct, MayTurn}
use Rattle.mqtt5_broker.proofs.Names.{text_is}
use Rattle.mqtt5_broker.proofs.Clients.{Changed, changed, changes_subscriptions, Fewer, out_fewer, loses_fewer, due_fewer, dates_fewer, leaves_fewer, comes_fewer, ended_state, ends_fewer, passes_fewer, pushed_subscriptions}
use Rattle.mqtt5_broker.proofs.Steps.{IsOther}

-- ---- filters of the same text

abbrev pub Turned : Utf8 → Option ℕ → ℕ → Subscription → Type 0
Turned f o i s = is_of f s ≡ true → turn_in s.share ≡ true → o ≡ Some i

pub same_filter : (f h : Utf8) → pointwise nat_eq f.bytes h.bytes ≡ true → f ≡ h
same_filter f h e = text_is f h.bytes (same_text f.bytes h.bytes (sym e)) ∙ sym (text_is h h.bytes refl)

other_filter : (f h : Utf8) → pointwise nat_eq f.bytes h.bytes ≡ false → pointwise nat_eq h.bytes f.bytes ≡ false
other_filter f h e = nat_list_eq_equiv.symm h.bytes f.bytes ∙ e

pub true_false : true ≡ false → ⊥
true_false e = cc e

-- a subscription of one filter isn't of another
pub not_both : (f h : Utf8) (s : Subscription) → pointwise nat_eq h.bytes f.bytes ≡ false → is_of f s ≡ true → is_of h s ≡ false
not_both f h s differ e =
    ap (λ bs. pointwise nat_eq bs h.bytes) (same_text s.topic_filter.bytes f.bytes (sym e)) ∙ other_filter h f differ

-- ---- who may have a turn

-- of a filter, only this client of these sessions
abbrev Only : Sessions → Utf8 → Option ℕ → Type 0
Only s f o = (i : ℕ) → MayTurn f o i (subscriptions_at i s)

may_by : (f : Utf8) (o p : Option ℕ) (i : ℕ) (ss : List Subscription) → (o ≡ Some i → p ≡ Some i) → MayTurn f o i ss → MayTurn f p i ss
may_by f o p i [] h m = All-nil (Turned f p i)
may_by f o p i (s ∷ ss) h m = All-cons (Turned f p i) s ss (λ a t. h (All-head (Turned f o i) s ss m a t)) (may_by f o p i ss h (All-tail (Turned f o i) s ss m))

-- where nobody has it, anybody may
any : (s : Sessions) (f : Utf8) (o : Option ℕ) → Only s f None → Only s f o
any s f o h i = may_by f None o i (subscriptions_at i s) (λ e. absurd (none-some i e)) (h i)

-- ---- a turn that is given or taken

suc_same : (m n : ℕ) → suc m ≡ suc n → m ≡ n
suc_same m n e = cc e

abbrev pub Turns : ℕ → ℕ → Utf8 → Bool → List ClientState → Type 0
Turns i j f on cs =
    ((j ≢ i) × (subscriptions_in j (with_client i (with_turn_of f on) cs) ≡ subscriptions_in j cs))
    ⊎ ((j ≡ i) × (subscriptions_in j (with_client i (with_turn_of f on) cs) ≡ turned f on (subscriptions_in j cs)))

pub turned_in : (i j : ℕ) (f : Utf8) (on : Bool) (cs : List ClientState) → Turns i j f on cs
turned_in zero zero f on [] = inr (refl, refl)
turned_in zero (suc j) f on [] = inl (λ e. absurd (cc e), refl)
turned_in (suc i) zero f on [] = inl (λ e. absurd (cc e), refl)
turned_in (suc i) (suc j) f on [] = lift (turned_in i j f on [])
  where
    lift : Turns i j f on [] → Turns (suc i) (suc j) f on []
    lift (inl e) = inl (λ same. e.0 (suc_same j i same), refl)
    lift (inr e) = inr (ap suc e.0, refl)
turned_in zero zero f on (c ∷ cs) = inr (refl, refl)
turned_in zero (suc j) f on (c ∷ cs) = inl (λ e. absurd (cc e), refl)
turned_in (suc i) zero f on (c ∷ cs) = inl (λ e. absurd (cc e), refl)
turned_in (suc i) (suc j) f on (c ∷ cs) = lift (turned_in i j f on cs)
  where
    lift : Turns i j f on cs → Turns (suc i) (suc j) f on (c ∷ cs)
    lift (inl e) = inl (λ same. e.0 (suc_same j i same), e.1)
    lift (inr e) = inr (ap suc e.0, e.1)

turn_taken : (s : Subscription) → turn_in (with_turn false s).share ≡ true → ⊥
turn_taken s = by s.share
  where
    by : (o : Option Share) → turn_in (option_map (λ (h : Share). record h { turn = false }) o) ≡ true → ⊥
    by None e = absurd (cc e)
    by (Some h) e = absurd (cc e)

module _ (i : ℕ) (f : Utf8) (on : Bool) (s : Sessions) where
  pub same : (j : ℕ) → subscriptions_at j (turns i f on s) ≡ subscriptions_in j (with_client i (with_turn_of f on) s.clients)
  same = changes_subscriptions i (with_turn_of f on) (λ c. []) s

  -- of another filter
  other_list : (h : Utf8) (o : Option ℕ) (j : ℕ) (ss : List Subscription) → pointwise nat_eq f.bytes h.bytes ≡ false → MayTurn h o j ss → MayTurn h o j (turned f on ss)
  other_list h o j [] differ m = m
  other_list h o j (x ∷ ss) differ m =
      All-cons (Turned h o j) (cond (is_of f x) (with_turn on x) x) (turned f on ss) (by (is_of f x) refl) (other_list h o j ss differ (All-tail (Turned h o j) x ss m))
    where
      by : (v : Bool) → is_of f x ≡ v → Turned h o j (cond v (with_turn on x) x)
      by true e = λ a t. absurd (true_false (sym e ∙ not_both h f x differ a))
      by false e = All-head (Turned h o j) x ss m

  other_turn : (h : Utf8) (o : Option ℕ) → pointwise nat_eq f.bytes h.bytes ≡ false → Only s h o → Only (turns i f on s) h o
  other_turn h o differ m j = by (turned_in i j f on s.clients)
    where
      by : Turns i j f on s.clients → MayTurn h o j (subscriptions_at j (turns i f on s))
      by (inl e) = subst (MayTurn h o j) (sym (same j ∙ e.1)) (m j)
      by (inr e) = subst (MayTurn h o j) (sym (same j ∙ e.1)) (other_list h o j (subscriptions_at j s) differ (m j))

-- it is taken from the one who may have it
taken_list : (f : Utf8) (o : Option ℕ) (j : ℕ) (ss : List Subscription) → MayTurn f o j (turned f false ss)
taken_list f o j [] = All-nil (Turned f o j)
taken_list f o j (x ∷ ss) = All-cons (Turned f o j) (cond (is_of f x) (with_turn false x) x) (turned f false ss) (by (is_of f x) refl) (taken_list f o j ss)
  where
    by : (v : Bool) → is_of f x ≡ v → Turned f o j (cond v (with_turn false x) x)
    by true e = λ a t. absurd (turn_taken x t)
    by false e = λ a t. absurd (true_false (sym a ∙ e))

taken : (i : ℕ) (f : Utf8) (s : Sessions) → Only s f (Some i) → Only (turns i f false s) f None
taken i f s m j = by (turned_in i j f false s.clients)
  where
    by : Turns i j f false s.clients → MayTurn f None j (subscriptions_at j (turns i f false s))
    by (inl e) = subst (MayTurn f None j) (sym (same i f false s j ∙ e.1)) (may_by f (Some i) None j (subscriptions_at j s) (λ h. absurd (e.0 (cc (sym h)))) (m j))
    by (inr e) = subst (MayTurn f None j) (sym (same i f false s j ∙ e.1)) (taken_list f None j (subscriptions_at j s))

-- it is given to it
given_list : (f : Utf8) (i j : ℕ) (ss : List Subscription) → j ≡ i → MayTurn f (Some i) j ss
given_list f i j [] e = All-nil (Turned f (Some i) j)
given_list f i j (x ∷ ss) e = All-cons (Turned f (Some i) j) x ss (λ a t. ap Some (sym e)) (given_list f i j ss e)

given : (i : ℕ) (f : Utf8) (s : Sessions) → Only s f (Some i) → Only (turns i f true s) f (Some i)
given i f s m j = by (turned_in i j f true s.clients)
  where
    by : Turns i j f true s.clients → MayTurn f (Some i) j (subscriptions_at j (turns i f true s))
    by (inl e) = subst (MayTurn f (Some i) j) (sym (same i f true s j ∙ e.1)) (m j)
    by (inr e) = given_list f i j (subscriptions_at j (turns i f true s)) e.0

-- ---- the first of a group

module _ (f : Utf8) where
  -- of another one
  first_other : (on : Bool) (o : Option ℕ) (g : Group) (s : Sessions) → is_group f g ≡ false → Only s f o → Only (turns_first on g s) f o
  first_other on o g s differ m = by g.members
    where
      by : (ms : List ℕ) → Only (turns_of ms g.topic_filter on s) f o
      by [] = m
      by (i ∷ ms) = other_turn i g.topic_filter on s f o differ m

  -- of its own
  first_given : (g : Group) (s : Sessions) → is_group f g ≡ true → Only s f (first_in g.members) → Only (turns_first true g s) f (first_in g.members)
  first_given g s is m = subst (λ h. Only (turns_of g.members h true s) f (first_in g.members)) (sym (same_filter g.topic_filter f is)) (by g.members m)
    where
      by : (ms : List ℕ) → Only s f (first_in ms) → Only (turns_of ms f true s) f (first_in ms)
      by [] k = k
      by (i ∷ ms) k = given i f s k

  first_taken : (g : Group) (s : Sessions) → is_group f g ≡ true → Only s f (first_in g.members) → Only (turns_first false g s) f None
  first_taken g s is m = subst (λ h. Only (turns_of g.members h false s) f None) (sym (same_filter g.topic_filter f is)) (by g.members m)
    where
      by : (ms : List ℕ) → Only s f (first_in ms) → Only (turns_of ms f false s) f None
      by [] k = k
      by (i ∷ ms) k = taken i f s k

  -- ---- all groups

  pub or_left : (a b : Bool) → (a || b) ≡ false → a ≡ false
  or_left true b e = absurd (true_false e)
  or_left false b e = refl

  pub or_right : (a b : Bool) → (a || b) ≡ false → b ≡ false
  or_right true b e = absurd (true_false e)
  or_right false b e = e

  -- none of these is of the filter
  abbrev pub NoneOf : List Group → Type 0
  NoneOf gs = list_any (is_group f) gs ≡ false

  pub none_first : (gs : List Group) → NoneOf gs → first_of f gs ≡ None
  none_first [] e = refl
  none_first (g ∷ gs) e = ap (λ v. cond v (first_in g.members) (first_of f gs)) (or_left (is_group f g) (list_any (is_group f) gs) e) ∙ none_first gs (or_right (is_group f g) (list_any (is_group f) gs) e)

  -- the others aren't, where one is
  pub no_others : (g : Group) (gs : List Group) → is_group f g ≡ true → AreDistinct (g ∷ gs) → NoneOf gs
  no_others g gs is d = subst (λ h. list_any (is_group h) gs ≡ false) (same_filter g.topic_filter f is) d.0

  gives_others : (gs : List Group) (o : Option ℕ) (s : Sessions) → NoneOf gs → Only s f o → Only (gives_all gs s) f o
  gives_others [] o s e m = m
  gives_others (g ∷ gs) o s e m =
      gives_others gs o (turns_first true g s) (or_right (is_group f g) (list_any (is_group f) gs) e) (first_other true o g s (or_left (is_group f g) (list_any (is_group f) gs) e) m)

  -- those that pass a test, and keep their filters when they change
  module _ (q : Group → Bool) (F : Group → Group) (keeps : (g : Group) → (F g).topic_filter ≡ g.topic_filter) where
    pub changed_is : (g : Group) → is_group f (F g) ≡ is_group f g
    changed_is g = ap (λ (h : Utf8). pointwise nat_eq h.bytes f.bytes) (keeps g)

    pub none_picked : (gs : List Group) → NoneOf gs → NoneOf (picked q F gs)
    none_picked [] e = refl
    none_picked (g ∷ gs) e = by (q g) (none_picked gs (or_right (is_group f g) (list_any (is_group f) gs) e))
      where
        by : (v : Bool) → NoneOf (picked q F gs) → NoneOf (if v then F g ∷ picked q F gs else picked q F gs)
        by true rest = ap (λ b. b || list_any (is_group f) (picked q F gs)) (changed_is g ∙ or_left (is_group f g) (list_any (is_group f) gs) e) ∙ rest
        by false rest = rest

    gives_picked : (gs : List Group) (s : Sessions) → AreDistinct gs → Only s f (first_of f (map F gs)) → Only (gives_all (picked q F gs) s) f (first_of f (map F gs))
    gives_picked [] s d m = m
    gives_picked (g ∷ gs) s d m = by (is_group f (F g)) refl (q g) (λ x k. gives_picked gs x d.1 k) m
      where
        firsts : Option ℕ
        firsts = first_of f (map F gs)

        by : (v : Bool) → is_group f (F g) ≡ v → (w : Bool) → ((x : Sessions) → Only x f firsts → Only (gives_all (picked q F gs) x) f firsts) → Only s f (cond v (first_in (F g).members) firsts)
            → Only (gives_all (if w then F g ∷ picked q F gs else picked q F gs) s) f (cond v (first_in (F g).members) firsts)
        by true e true rest k =
            gives_others (picked q F gs) (first_in (F g).members) (turns_first true (F g) s) (none_picked gs (no_others g gs (sym (changed_is g) ∙ e) d)) (first_given (F g) s e k)
        by true e false rest k = gives_others (picked q F gs) (first_in (F g).members) s (none_picked gs (no_others g gs (sym (changed_is g) ∙ e) d)) k
        by false e true rest k = rest (turns_first true (F g) s) (first_other true firsts (F g) s e k)
        by false e false rest k = rest s k

  -- ---- those that a topic matches

  module _ (t : List ℕ) where
    -- once the turns are taken
    abbrev pub left : List Group → Option ℕ
    left [] = None
    left (g ∷ gs) = cond (is_group f g) (cond (meets t g) None (first_in g.members)) (left gs)

    met_others : (on : Bool) (gs : List Group) (o : Option ℕ) (s : Sessions) → NoneOf gs → Only s f o → Only (turns_met on t gs s) f o
    met_others on [] o s e m = m
    met_others on (g ∷ gs) o s e m = met_others on gs o (cond (meets t g) (turns_first on g s) s) (or_right (is_group f g) (list_any (is_group f) gs) e) (by (meets t g))
      where
        by : (v : Bool) → Only (cond v (turns_first on g s) s) f o
        by true = first_other on o g s (or_left (is_group f g) (list_any (is_group f) gs) e) m
        by false = m

    abbrev after_first : Bool → Group → Sessions → Sessions
    after_first on g s = cond (meets t g) (turns_first on g s) s

    met_taken : (gs : List Group) (s : Sessions) → AreDistinct gs → Only s f (first_of f gs) → Only (turns_met false t gs s) f (left gs)
    met_taken [] s d m = m
    met_taken (g ∷ gs) s d m = by (is_group f g) refl (λ k. met_taken gs (after_first false g s) d.1 k) m
      where
        own : is_group f g ≡ true → Only s f (first_in g.members) → (v : Bool) → Only (cond v (turns_first false g s) s) f (cond v None (first_in g.members))
        own e k true = first_taken g s e k
        own e k false = k

        others : is_group f g ≡ false → (o : Option ℕ) → Only s f o → (v : Bool) → Only (cond v (turns_first false g s) s) f o
        others e o k true = first_other false o g s e k
        others e o k false = k

        by : (v : Bool) → is_group f g ≡ v → (Only (after_first false g s) f (first_of f gs) → Only (turns_met false t gs (after_first false g s)) f (left gs)) → Only s f (cond v (first_in g.members) (first_of f gs))
            → Only (turns_met false t gs (after_first false g s)) f (cond v (cond (meets t g) None (first_in g.members)) (left gs))
        by true e rest k = met_others false gs (cond (meets t g) None (first_in g.members)) (after_first false g s) (no_others g gs e d) (own e k (meets t g))
        by false e rest k = rest (others e (first_of f gs) k (meets t g))

    module _ (u : Sessions) where
      pub rotated_none : (gs : List Group) → NoneOf gs → NoneOf (rotates t u gs)
      rotated_none [] e = refl
      rotated_none (g ∷ gs) e = by (meets t g) (rotated_none gs (or_right (is_group f g) (list_any (is_group f) gs) e))
        where
          by : (v : Bool) → NoneOf (rotates t u gs) → (is_group f (cond v (rotated u g) g) || list_any (is_group f) (rotates t u gs)) ≡ false
          by true rest = ap (λ b. b || list_any (is_group f) (rotates t u gs)) (or_left (is_group f g) (list_any (is_group f) gs) e) ∙ rest
          by false rest = ap (λ b. b || list_any (is_group f) (rotates t u gs)) (or_left (is_group f g) (list_any (is_group f) gs) e) ∙ rest

      met_given : (gs : List Group) (s : Sessions) → AreDistinct gs → Only s f (left gs) → Only (turns_met true t (rotates t u gs) s) f (first_of f (rotates t u gs))
      met_given [] s d m = m
      met_given (g ∷ gs) s d m = by (meets t g) refl (is_group f g) refl (λ x k. met_given gs x d.1 k) m
        where
          rest_of : List Group
          rest_of = rotates t u gs

          -- the first one, which is seen as it is then
          first_met : (h : Group) (v : Bool) → meets t h ≡ v → Only (turns_met true t rest_of (cond v (turns_first true h s) s)) f (first_of f (h ∷ rest_of)) → Only (turns_met true t (h ∷ rest_of) s) f (first_of f (h ∷ rest_of))
          first_met h v e k = subst (λ b. Only (turns_met true t rest_of (cond b (turns_first true h s) s)) f (first_of f (h ∷ rest_of))) (sym e) k

          by : (v : Bool) → meets t g ≡ v → (w : Bool) → is_group f g ≡ w → ((x : Sessions) → Only x f (left gs) → Only (turns_met true t rest_of x) f (first_of f rest_of)) → Only s f (cond w (cond v None (first_in g.members)) (left gs))
              → Only (turns_met true t (cond v (rotated u g) g ∷ rest_of) s) f (first_of f (cond v (rotated u g) g ∷ rest_of))
          by true e true q rest k =
              let h : Group = rotated u g in
              first_met h true e
              (subst (λ o. Only (turns_met true t rest_of (turns_first true h s)) f o) (sym (ap (λ w. cond w (first_in h.members) (first_of f rest_of)) q))
              (met_others true rest_of (first_in h.members) (turns_first true h s) (rotated_none gs (no_others g gs q d)) (first_given h s q (any s f (first_in h.members) k))))
          by true e false q rest k =
              let h : Group = rotated u g in
              first_met h true e
              (subst (λ o. Only (turns_met true t rest_of (turns_first true h s)) f o) (sym (ap (λ w. cond w (first_in h.members) (first_of f rest_of)) q))
              (rest (turns_first true h s) (first_other true (left gs) h s q k)))
          by false e true q rest k =
              first_met g false e
              (subst (λ o. Only (turns_met true t rest_of s) f o) (sym (ap (λ w. cond w (first_in g.members) (first_of f rest_of)) q))
              (met_others true rest_of (first_in g.members) s (rotated_none gs (no_others g gs q d)) k))
          by false e false q rest k =
              first_met g false e
              (subst (λ o. Only (turns_met true t rest_of s) f o) (sym (ap (λ w. cond w (first_in g.members) (first_of f rest_of)) q))
              (rest s k))

-- ---- who takes part

module _ (f : Utf8) where
  -- where the first members are the same, or nobody had the turn
  first_joined : (i : ℕ) (s : Sessions) (g : Group) → Only s f (first_in g.members) → Only s f (first_in (with_member i g).members)
  first_joined i s g m = by g.members (has_member i g.members) m
    where
      by : (ms : List ℕ) (v : Bool) → Only s f (first_in ms) → Only s f (first_in (cond v g (record g { members = ms ++ i ∷ [] })).members)
      by ms true k = m
      by [] false k = any s f (Some i) k
      by (j ∷ ms) false k = k

  joined_last : (s : Sessions) (new : Group) (gs : List Group) → Only s f (first_of f gs) → Only s f (first_of f (gs ++ new ∷ []))
  joined_last s new [] m = any s f (first_of f (new ∷ [])) m
  joined_last s new (g ∷ gs) m = by (is_group f g) (joined_last s new gs) m
    where
      by : (v : Bool) → (Only s f (first_of f gs) → Only s f (first_of f (gs ++ new ∷ []))) → Only s f (cond v (first_in g.members) (first_of f gs)) → Only s f (cond v (first_in g.members) (first_of f (gs ++ new ∷ [])))
      by true rest k = k
      by false rest k = rest k

  joined_at : (i : ℕ) (s : Sessions) (n : ℕ) (gs : List Group) → Only s f (first_of f gs) → Only s f (first_of f (set gs n (with_member i (get_or gs n no_group))))
  joined_at i s n [] m = m
  joined_at i s zero (g ∷ gs) m = by (has_member i g.members) (is_group f g) m
    where
      by : (u v : Bool) → Only s f (cond v (first_in g.members) (first_of f gs)) → Only s f (first_of f (cond u g (record g { members = g.members ++ i ∷ [] }) ∷ gs))
      by true v k = m
      by false v k = subst (λ o. Only s f (cond (is_group f g) o (first_of f gs))) refl (own (is_group f g) m)
        where
          own : (w : Bool) → Only s f (cond w (first_in g.members) (first_of f gs)) → Only s f (cond w (first_in (g.members ++ i ∷ [])) (first_of f gs))
          own true q = more g.members q
            where
              more : (ms : List ℕ) → Only s f (first_in ms) → Only s f (first_in (ms ++ i ∷ []))
              more [] r = any s f (Some i) r
              more (j ∷ ms) r = r
          own false q = q
  joined_at i s (suc n) (g ∷ gs) m = by (is_group f g) (joined_at i s n gs) m
    where
      by : (v : Bool) → (Only s f (first_of f gs) → Only s f (first_of f (set gs n (with_member i (get_or gs n no_group))))) → Only s f (cond v (first_in g.members) (first_of f gs)) → Only s f (cond v (first_in g.members) (first_of f (set gs n (with_member i (get_or gs n no_group)))))
      by true rest k = k
      by false rest k = rest k

  joins_only : (i : ℕ) (s : Sessions) (o : Option Share) (h : Utf8) (gs : List Group) → Only s f (first_of f gs) → Only s f (first_of f (joins_by o i h gs))
  joins_only i s None h gs m = m
  joins_only i s (Some share) h gs m = by (position (is_group h) gs)
    where
      by : (k : Option ℕ) → Only s f (first_of f (joined k i h share gs))
      by None = joined_last s (record { topic_filter = h; pattern = share.topic_filter; members = i ∷ [] }) gs m
      by (Some n) = joined_at i s n gs m

  all_join : (i : ℕ) (s : Sessions) (fs : List Filter) (gs : List Group) → Only s f (first_of f gs) → Only s f (first_of f (joins_all i fs gs))
  all_join i s [] gs m = m
  all_join i s (h ∷ fs) gs m = all_join i s fs (joins_by (share_of h.path) i h.path gs) (joins_only i s (share_of h.path) h.path gs m)

  -- of a client that has no subscription of the filter
  abbrev HasNone : ℕ → Sessions → Type 0
  HasNone i s = MayTurn f None i (subscriptions_at i s)

  none_left : (i : ℕ) (s : Sessions) → HasNone i s → Only s f (Some i) → Only s f None
  none_left i s none m j = by (j == i) refl
    where
      by : (v : Bool) → (j == i) ≡ v → MayTurn f None j (subscriptions_at j s)
      by true e = subst (λ (n : ℕ). MayTurn f None n (subscriptions_at n s)) (sym (eqb-true j i e)) none
      by false e = may_by f (Some i) None j (subscriptions_at j s) (λ h. absurd (true_false (sym (eq-eqb j i (cc (sym h))) ∙ e))) (m j)

  first_parted : (i : ℕ) (s : Sessions) (ms : List ℕ) → HasNone i s → Only s f (first_in ms) → Only s f (first_in (filter (λ m. not (m == i)) ms))
  first_parted i s [] none m = m
  first_parted i s (k ∷ ms) none m = by (k == i) refl
    where
      by : (v : Bool) → (k == i) ≡ v → Only s f (first_in (cond (not v) (k ∷ filter (λ m. not (m == i)) ms) (filter (λ m. not (m == i)) ms)))
      by true e = any s f (first_in (filter (λ m. not (m == i)) ms)) (none_left i s none (subst (λ (n : ℕ). Only s f (Some n)) (eqb-true k i e) m))
      by false e = m

  -- of each group that such a client leaves
  parted : (F : Group → Group) (s : Sessions) → ((g : Group) → (F g).topic_filter ≡ g.topic_filter) → ((g : Group) → is_group f g ≡ true → Only s f (first_in g.members) → Only s f (first_in (F g).members)) → (gs : List Group) → Only s f (first_of f gs) → Only s f (first_of f (map F gs))
  parted F s same own [] m = m
  parted F s same own (g ∷ gs) m = subst (λ h. Only s f (cond (pointwise nat_eq h.bytes f.bytes) (first_in (F g).members) (first_of f (map F gs)))) (sym (same g)) (by (is_group f g) refl (parted F s same own gs) m)
    where
      by : (v : Bool) → is_group f g ≡ v → (Only s f (first_of f gs) → Only s f (first_of f (map F gs))) → Only s f (cond v (first_in g.members) (first_of f gs)) → Only s f (cond v (first_in (F g).members) (first_of f (map F gs)))
      by true e rest k = own g e k
      by false e rest k = rest k

  -- groups of nobody
  pub not_empty : (j : ℕ) (ms : List ℕ) → not (length (j ∷ ms) == 0) ≡ true
  not_empty j ms = ap not (ne_eqb (suc (length ms)) 0 (λ e. omega (arith, e)))

  emptied : (s : Sessions) (gs : List Group) → Only s f (first_of f gs) → Only s f (first_of f (filter has_members gs))
  emptied s [] m = m
  emptied s (g ∷ gs) m = by g.members refl (is_group f g) refl (emptied s gs) m
    where
      by : (ms : List ℕ) → g.members ≡ ms → (v : Bool) → is_group f g ≡ v → (Only s f (first_of f gs) → Only s f (first_of f (filter has_members gs))) → Only s f (cond v (first_in g.members) (first_of f gs)) → Only s f (first_of f (filter has_members (g ∷ gs)))
      by [] e true q rest k = subst (λ b. Only s f (first_of f (cond b (g ∷ filter has_members gs) (filter has_members gs)))) (sym (ap (λ (ms : List ℕ). not (length ms == 0)) e)) (any s f (first_of f (filter has_members gs)) (subst (λ (ms : List ℕ). Only s f (first_in ms)) e k))
      by [] e false q rest k = subst (λ b. Only s f (first_of f (cond b (g ∷ filter has_members gs) (filter has_members gs)))) (sym (ap (λ (ms : List ℕ). not (length ms == 0)) e)) (rest k)
      by (j ∷ ms) e true q rest k = subst (λ b. Only s f (first_of f (cond b (g ∷ filter has_members gs) (filter has_members gs)))) (sym (ap (λ (ms : List ℕ). not (length ms == 0)) e ∙ not_empty j ms)) (subst (λ b. Only s f (cond b (first_in g.members) (first_of f (filter has_members gs)))) (sym q) k)
      by (j ∷ ms) e false q rest k = subst (λ b. Only s f (first_of f (cond b (g ∷ filter has_members gs) (filter has_members gs)))) (sym (ap (λ (ms : List ℕ). not (length ms == 0)) e ∙ not_empty j ms)) (subst (λ b. Only s f (cond b (first_in g.members) (first_of f (filter has_members gs)))) (sym q) (rest k))

-- ---- no two groups are of one filter

group_false : (h : Utf8) (g : Group) (gs : List Group) → is_group h g ≡ false → list_any (is_group h) gs ≡ false → list_any (is_group h) (g ∷ gs) ≡ false
group_false h g gs a b = ap (λ v. v || list_any (is_group h) gs) a ∙ b

any_map : (F : Group → Group) → ((g : Group) → (F g).topic_filter ≡ g.topic_filter) → (h : Utf8) (gs : List Group) → list_any (is_group h) (map F gs) ≡ list_any (is_group h) gs
any_map F same h [] = refl
any_map F same h (g ∷ gs) = λ n. pointwise nat_eq (same g n).bytes h.bytes || any_map F same h gs n

pub distinct_map : (F : Group → Group) → ((g : Group) → (F g).topic_filter ≡ g.topic_filter) → (gs : List Group) → AreDistinct gs → AreDistinct (map F gs)
distinct_map F same [] d = d
distinct_map F same (g ∷ gs) d = (ap (λ (h : Utf8). list_any (is_group h) (map F gs)) (same g) ∙ any_map F same g.topic_filter gs ∙ d.0, distinct_map F same gs d.1)

any_filter : (p : Group → Bool) (h : Utf8) (gs : List Group) → list_any (is_group h) gs ≡ false → list_any (is_group h) (filter p gs) ≡ false
any_filter p h [] e = refl
any_filter p h (g ∷ gs) e = by (p g) (any_filter p h gs (or_right h (is_group h g) (list_any (is_group h) gs) e))
  where
    by : (v : Bool) → list_any (is_group h) (filter p gs) ≡ false → list_any (is_group h) (cond v (g ∷ filter p gs) (filter p gs)) ≡ false
    by true rest = group_false h g (filter p gs) (or_left h (is_group h g) (list_any (is_group h) gs) e) rest
    by false rest = rest

pub distinct_filter : (p : Group → Bool) (gs : List Group) → AreDistinct gs → AreDistinct (filter p gs)
distinct_filter p [] d = d
distinct_filter p (g ∷ gs) d = by (p g) (distinct_filter p gs d.1)
  where
    by : (v : Bool) → AreDistinct (filter p gs) → AreDistinct (cond v (g ∷ filter p gs) (filter p gs))
    by true rest = (any_filter p g.topic_filter gs d.0, rest)
    by false rest = rest

distinct_last : (new : Group) (gs : List Group) → list_any (is_group new.topic_filter) gs ≡ false → AreDistinct gs → AreDistinct (gs ++ new ∷ [])
distinct_last new [] e d = (refl, tt)
distinct_last new (g ∷ gs) e d =
    let a = or_left new.topic_filter (is_group new.topic_filter g) (list_any (is_group new.topic_filter) gs) e in
    let b = or_right new.topic_filter (is_group new.topic_filter g) (list_any (is_group new.topic_filter) gs) e in
    (list_any-append (is_group g.topic_filter) gs (new ∷ []) ∙ ap (λ v. v || (is_group g.topic_filter new || false)) d.0 ∙ ap (λ v. v || false) (other_filter g.topic_filter new.topic_filter a), distinct_last new gs b d.1)

with_filter : (i : ℕ) (g : Group) → (with_member i g).topic_filter ≡ g.topic_filter
with_filter i g = by (has_member i g.members)
  where
    by : (v : Bool) → (cond v g (record g { members = g.members ++ i ∷ [] })).topic_filter ≡ g.topic_filter
    by true = refl
    by false = refl

pub any_set : (i : ℕ) (h : Utf8) (n : ℕ) (gs : List Group) → list_any (is_group h) (set gs n (with_member i (get_or gs n no_group))) ≡ list_any (is_group h) gs
any_set i h n [] = refl
any_set i h zero (g ∷ gs) = ap (λ (t : Utf8). pointwise nat_eq t.bytes h.bytes || list_any (is_group h) gs) (with_filter i g)
any_set i h (suc n) (g ∷ gs) = ap (λ v. is_group h g || v) (any_set i h n gs)

distinct_set : (i n : ℕ) (gs : List Group) → AreDistinct gs → AreDistinct (set gs n (with_member i (get_or gs n no_group)))
distinct_set i n [] d = d
distinct_set i zero (g ∷ gs) d = (ap (λ (h : Utf8). list_any (is_group h) gs) (with_filter i g) ∙ d.0, d.1)
distinct_set i (suc n) (g ∷ gs) d = (any_set i g.topic_filter n gs ∙ d.0, distinct_set i n gs d.1)

-- a filter that has no place among them
none_at : (h : Utf8) (gs : List Group) → nat_lt (position_or_len (is_group h) gs) (length gs) ≡ false → list_any (is_group h) gs ≡ false
none_at h [] e = refl
none_at h (g ∷ gs) e = by (none_at h gs) (is_group h g) refl e
  where
    by : (nat_lt (position_or_len (is_group h) gs) (length gs) ≡ false → list_any (is_group h) gs ≡ false) → (v : Bool) → is_group h g ≡ v → nat_lt (cond (not v) (1 + position_or_len (is_group h) gs) 0) (length (g ∷ gs)) ≡ false → (v || list_any (is_group h) gs) ≡ false
    by rest true q k = absurd (omega (arith, leb-false 1 (suc (length gs)) k))
    by rest false q k =
        let p : ℕ = position_or_len (is_group h) gs in
        let more : nat_lt (suc p) (length (g ∷ gs)) ≡ false = subst (λ (n : ℕ). nat_lt n (length (g ∷ gs)) ≡ false) (one-add p) k in
        let past : suc (length gs) < suc (suc p) = leb-false (suc (suc p)) (suc (length gs)) more in
        rest (lt-leb (suc p) (length gs) (omega (arith, past)))

pub none_there : (h : Utf8) (gs : List Group) → position (is_group h) gs ≡ None → list_any (is_group h) gs ≡ false
none_there h gs e = none_at h gs (by (nat_lt (position_or_len (is_group h) gs) (length gs)) e)
  where
    by : (v : Bool) → cond v (Some (position_or_len (is_group h) gs)) None ≡ None → v ≡ false
    by true q = absurd (none-some (position_or_len (is_group h) gs) (sym q))
    by false q = refl

distinct_join : (i : ℕ) (o : Option Share) (h : Utf8) (gs : List Group) → AreDistinct gs → AreDistinct (joins_by o i h gs)
distinct_join i None h gs d = d
distinct_join i (Some share) h gs d = by (position (is_group h) gs) refl
  where
    by : (k : Option ℕ) → position (is_group h) gs ≡ k → AreDistinct (joined k i h share gs)
    by None e = distinct_last (record { topic_filter = h; pattern = share.topic_filter; members = i ∷ [] }) gs (none_there h gs e) d
    by (Some n) e = distinct_set i n gs d

pub distinct_joins : (i : ℕ) (fs : List Filter) (gs : List Group) → AreDistinct gs → AreDistinct (joins_all i fs gs)
distinct_joins i [] gs d = d
distinct_joins i (h ∷ fs) gs d = distinct_joins i fs (joins_by (share_of h.path) i h.path gs) (distinct_join i (share_of h.path) h.path gs d)

-- ---- what comes to a session

new_turn : (h : Utf8) → turn_in (share_of h) ≡ true → ⊥
new_turn h = by (shared_filter h.bytes)
  where
    by : (o : Option (List ℕ)) → turn_in (share_in o) ≡ true → ⊥
    by None e = absurd (cc e)
    by (Some bytes) e = absurd (cc e)

module _ (f : Utf8) where
  subscribed_may : (o : Option ℕ) (j : ℕ) (k : Option ℕ) (fs : List Filter) (ss : List Subscription) → MayTurn f o j ss → MayTurn f o j (subscribed_all k fs ss)
  subscribed_may o j k [] ss m = m
  subscribed_may o j k (h ∷ fs) ss m =
      let new : Subscription = subscription_of k h in
      subscribed_may o j k fs (subscribed new ss)
      (All-append (Turned f o j) (unsubscribed new.topic_filter ss) (new ∷ []) (All-filter (λ (x : Subscription). not (is_of new.topic_filter x)) (Turned f o j) ss m) (All-cons (Turned f o j) new [] (λ a t. absurd (new_turn h.path t)) (All-nil (Turned f o j))))

  unsubscribed_may : (o : Option ℕ) (j : ℕ) (fs : List Utf8) (ss : List Subscription) → MayTurn f o j ss → MayTurn f o j (unsubscribed_all fs ss)
  unsubscribed_may o j [] ss m = m
  unsubscribed_may o j (h ∷ fs) ss m = unsubscribed_may o j fs (unsubscribed h ss) (All-filter (λ (x : Subscription). not (is_of h x)) (Turned f o j) ss m)

  after_may : (o : Option ℕ) (j : ℕ) (x : Packet) (ss : List Subscription) → MayTurn f o j ss → MayTurn f o j (subscriptions_after ss x)
  after_may o j (packets.Subscribe p) ss m = subscribed_may o j (identifier_of p.properties) p.filters ss m
  after_may o j (packets.Unsubscribe p) ss m = unsubscribed_may o j p.filters ss m
  after_may o j other ss m = m

  come_may : (o : Option ℕ) (j : ℕ) (x : Packet) (sending ack : Bool) (c : Client) → MayTurn f o j c.subscriptions → MayTurn f o j (comes_to sending ack c x).subscriptions
  come_may o j x true ack c m = m
  come_may o j x false true c m = m
  come_may o j x false false c m = after_may o j x c.subscriptions m

  -- those that are taken out
  gone_once : (i : ℕ) (ss : List Subscription) → MayTurn f None i (unsubscribed f ss)
  gone_once i [] = All-nil (Turned f None i)
  gone_once i (x ∷ ss) = by (is_of f x) refl (gone_once i ss)
    where
      by : (v : Bool) → is_of f x ≡ v → MayTurn f None i (unsubscribed f ss) → MayTurn f None i (cond (not v) (x ∷ unsubscribed f ss) (unsubscribed f ss))
      by true e rest = rest
      by false e rest = All-cons (Turned f None i) x (unsubscribed f ss) (λ a t. absurd (true_false (sym a ∙ e))) rest

  gone : (i : ℕ) (fs : List Utf8) (ss : List Subscription) → is_among fs f ≡ true → MayTurn f None i (unsubscribed_all fs ss)
  gone i [] ss e = absurd (true_false (sym e))
  gone i (h ∷ fs) ss e = by (pointwise nat_eq h.bytes f.bytes) refl e (gone i fs (unsubscribed h ss))
    where
      by : (v : Bool) → pointwise nat_eq h.bytes f.bytes ≡ v → (v || is_among fs f) ≡ true → (is_among fs f ≡ true → MayTurn f None i (unsubscribed_all fs (unsubscribed h ss))) → MayTurn f None i (unsubscribed_all fs (unsubscribed h ss))
      by true q k rest = unsubscribed_may None i fs (unsubscribed h ss) (subst (λ (g : Utf8). MayTurn f None i (unsubscribed g ss)) (sym (same_filter h f q)) (gone_once i ss))
      by false q k rest = rest k

-- the client at a place that changes
own_at : (F : ClientState → ClientState) (i : ℕ) (cs : List ClientState) → (subscriptions_in i (with_client i F cs) ≡ []) ⊎ ((c : ClientState) × (subscriptions_in i (with_client i F cs) ≡ (F c).kept.subscriptions))
own_at F i [] = inl refl
own_at F zero (c ∷ cs) = inr (c, refl)
own_at F (suc i) (c ∷ cs) = own_at F i cs

module _ (i : ℕ) (x : Packet) (s : Sessions) where
  abbrev pub arrived : ClientState → ClientState
  arrived c = gets (copies_for s.retained c.kept.subscriptions x) (record c { kept = without_events (kept_of (after_packet c.kept x)) })

  pub arrived_same : (j : ℕ) → subscriptions_at j (arrives i x s) ≡ subscriptions_in j (with_client i arrived s.clients)
  arrived_same = changes_subscriptions i arrived (λ (c : ClientState). (after_packet c.kept x).receiver.handed) s

  arrives_only : (f : Utf8) (o : Option ℕ) → Only s f o → Only (arrives i x s) f o
  arrives_only f o m j = by (changed arrived i j s.clients)
    where
      by : Changed arrived i j s.clients → MayTurn f o j (subscriptions_at j (arrives i x s))
      by (inl e) = subst (MayTurn f o j) (sym (arrived_same j ∙ e)) (m j)
      by (inr e) =
          let c : ClientState = e.1 in
          subst (MayTurn f o j) (sym (arrived_same j ∙ e.3)) (come_may f o j x (is_sending x) (is_ack x) (alone c.kept) (subst (MayTurn f o j) e.2 (m j)))

-- an Unsubscribe leaves its client none of its filters
arrives_none : (f : Utf8) (i : ℕ) (p : Unsubscribe) (s : Sessions) → is_among p.filters f ≡ true → HasNone f i (arrives i (packets.Unsubscribe p) s)
arrives_none f i p s e = by (own_at (arrived i (packets.Unsubscribe p) s) i s.clients)
  where
    by : (subscriptions_in i (with_client i (arrived i (packets.Unsubscribe p) s) s.clients) ≡ []) ⊎ ((c : ClientState) × (subscriptions_in i (with_client i (arrived i (packets.Unsubscribe p) s) s.clients) ≡ (arrived i (packets.Unsubscribe p) s c).kept.subscriptions)) → HasNone f i (arrives i (packets.Unsubscribe p) s)
    by (inl q) = subst (MayTurn f None i) (sym (arrived_same i (packets.Unsubscribe p) s i ∙ q)) (All-nil (Turned f None i))
    by (inr q) = subst (MayTurn f None i) (sym (arrived_same i (packets.Unsubscribe p) s i ∙ q.1)) (gone f i p.filters (q.0).kept.subscriptions e)

-- and the end of its session leaves it none at all
ends_none : (f : Utf8) (i : ℕ) (s : Sessions) → HasNone f i (ends i s)
ends_none f i s = by (own_at ended_state i s.clients)
  where
    is : subscriptions_at i (ends i s) ≡ subscriptions_in i (with_client i ended_state s.clients)
    is = changes_subscriptions i ended_state (λ (c : ClientState). message_of c.will) s i

    by : (subscriptions_in i (with_client i ended_state s.clients) ≡ []) ⊎ ((c : ClientState) × (subscriptions_in i (with_client i ended_state s.clients) ≡ (ended_state c).kept.subscriptions)) → HasNone f i (ends i s)
    by (inl q) = subst (MayTurn f None i) (sym (is ∙ q)) (All-nil (Turned f None i))
    by (inr q) = subst (MayTurn f None i) (sym (is ∙ q.1)) (All-nil (Turned f None i))

fewer_only : (s t : Sessions) (f : Utf8) (o : Option ℕ) → Fewer s t → Only s f o → Only t f o
fewer_only s t f o h m j = by (h.each j)
  where
    by : (subscriptions_at j t ≡ []) ⊎ (subscriptions_at j t ≡ subscriptions_at j s) → MayTurn f o j (subscriptions_at j t)
    by (inl q) = subst (MayTurn f o j) (sym q) (All-nil (Turned f o j))
    by (inr q) = subst (MayTurn f o j) (sym q) (m j)

-- ---- each step

abbrev pub Shared : Sessions → List Group → Type 0
Shared s gs = AreDistinct gs × ((f : Utf8) → Only s f (first_of f gs))

rotated_filter : (t : List ℕ) (u : Sessions) (g : Group) → (cond (meets t g) (rotated u g) g).topic_filter ≡ g.topic_filter
rotated_filter t u g = by (meets t g)
  where
    by : (v : Bool) → (cond v (rotated u g) g).topic_filter ≡ g.topic_filter
    by true = refl
    by false = refl

turned_shared : (t : List ℕ) (gs : List Group) (s : Sessions) → Shared s gs → Shared (sessions_turned t gs s) (groups_turned t gs s)
turned_shared t gs s q = by (is_utf8 t)
  where
    u : Sessions
    u = turns_met false t gs s

    by : (v : Bool) → Shared (cond v (turned_for t gs s) s) (cond v (rotated_for t gs s) gs)
    by true = (distinct_map (λ g. cond (meets t g) (rotated u g) g) (rotated_filter t u) gs q.0, λ f. met_given f t u gs u q.0 (met_taken f t gs s q.0 (q.1 f)))
    by false = q

-- others take part, of whom the first have the turns
named_shared : (x : Packet) (gs : List Group) (s : Sessions) → Shared s gs → Shared (gives_all (named_in x gs) s) gs
named_shared x gs s q = (
  q.0,
  λ f.
      subst (λ hs. Only (gives_all (named_in x gs) s) f (first_of f hs)) (map-id gs)
      (gives_picked f (λ (g : Group). names x g.topic_filter) (λ (g : Group). g) (λ g. refl) gs s q.0 (subst (λ hs. Only s f (first_of f hs)) (sym (map-id gs)) (q.1 f))),
)

arrives_shared : (i : ℕ) (x : Packet) (gs : List Group) (s : Sessions) → Shared s gs → Shared (arrives i x s) gs
arrives_shared i x gs s q = (q.0, λ f. arrives_only i x s f (first_of f gs) (q.1 f))

joins_shared : (i : ℕ) (fs : List Filter) (gs : List Group) (s : Sessions) → Shared s gs → Shared s (joins_all i fs gs)
joins_shared i fs gs s q = (distinct_joins i fs gs q.0, λ f. all_join f i s fs gs (q.1 f))

pub parted_filter : (i : ℕ) (fs : List Utf8) (g : Group) → (cond (is_among fs g.topic_filter) (without_member i g) g).topic_filter ≡ g.topic_filter
parted_filter i fs g = by (is_among fs g.topic_filter)
  where
    by : (v : Bool) → (cond v (without_member i g) g).topic_filter ≡ g.topic_filter
    by true = refl
    by false = refl

parts_shared : (i : ℕ) (fs : List Utf8) (gs : List Group) (s : Sessions) → ((f : Utf8) → is_among fs f ≡ true → HasNone f i s) → Shared s gs → Shared s (parts_from i fs gs)
parts_shared i fs gs s none q =
    let F : Group → Group = λ g. cond (is_among fs g.topic_filter) (without_member i g) g in
    (distinct_filter has_members (map F gs) (distinct_map F (parted_filter i fs) gs q.0), λ f. emptied f s (map F gs) (parted f F s (parted_filter i fs) (λ g e m. own f g e m (is_among fs g.topic_filter) refl) gs (q.1 f)))
  where
    own : (f : Utf8) (g : Group) → is_group f g ≡ true → Only s f (first_in g.members) → (v : Bool) → is_among fs g.topic_filter ≡ v → Only s f (first_in (cond v (without_member i g) g).members)
    own f g e m true h = first_parted f i s g.members (none f (subst (λ (k : Utf8). is_among fs k ≡ true) (same_filter g.topic_filter f e) h)) m
    own f g e m false h = m

pub comes_shared : (answered : Bool) (i : ℕ) (x : Packet) (gs : List Group) (s : Sessions) → Shared s gs → Shared (sessions_after answered i x (groups_before x gs s) (arrives i x (sessions_before x gs s))) (groups_after answered i x (groups_before x gs s))
comes_shared answered i (packets.Publish p) gs s q = arrives_shared i (packets.Publish p) (groups_turned p.topic gs s) (sessions_turned p.topic gs s) (turned_shared p.topic gs s q)
comes_shared answered i (packets.Subscribe p) gs s q = by (asks_shared p.filters) answered
  where
    x : Packet
    x = packets.Subscribe p

    came : Shared (arrives i x s) gs
    came = arrives_shared i x gs s q

    by : (v a : Bool) → Shared (cond v (gives_if a (named_in x (joins_all i p.filters gs)) (arrives i x s)) (arrives i x s)) (cond v (cond a (joins_all i p.filters gs) gs) gs)
    by true true = named_shared x (joins_all i p.filters gs) (arrives i x s) (joins_shared i p.filters gs (arrives i x s) came)
    by true false = came
    by false a = came
comes_shared answered i (packets.Unsubscribe p) gs s q = by (ends_shared p.filters) answered
  where
    x : Packet
    x = packets.Unsubscribe p

    came : Shared (arrives i x s) gs
    came = arrives_shared i x gs s q

    by : (v a : Bool) → Shared (cond v (gives_if a (named_in x (parts_from i p.filters gs)) (arrives i x s)) (arrives i x s)) (cond v (cond a (parts_from i p.filters gs) gs) gs)
    by true true = named_shared x (parts_from i p.filters gs) (arrives i x s) (parts_shared i p.filters gs (arrives i x s) (λ f e. arrives_none f i p s e) came)
    by true false = came
    by false a = came
comes_shared answered i other gs s q = arrives_shared i other gs s q

pub leaves_shared : (i : ℕ) (gs : List Group) (s : Sessions) → Shared s gs → Shared (sessions_without i gs (ends i s)) (groups_without i gs)
leaves_shared i gs s q =
    let t : Sessions = ends i s in
    let m : (f : Utf8) → Only t f (first_of f gs) = λ f. fewer_only s t f (first_of f gs) (ends_fewer i s) (q.1 f) in (
      distinct_filter has_members (map (without_member i) gs) (distinct_map (without_member i) (λ g. refl) gs q.0),
      λ f.
          emptied f (gives_all (left_in i gs) t) (map (without_member i) gs)
          (gives_picked f (λ (g : Group). has_member i g.members) (without_member i) (λ g. refl) gs t q.0
          (parted f (without_member i) t (λ g. refl) (λ g e k. first_parted f i t g.members (ends_none f i s) k) gs (m f))),
    )

pub other_shared : (e : SessionEvent) → IsOther e → (gs : List Group) (s : Sessions) → Shared s gs → Shared (after_event e s) gs
other_shared (runs.Joins limit) h gs s q = (q.0, λ f j. subst (MayTurn f (first_of f gs) j) (sym (pushed_subscriptions limit j s.clients)) (q.1 f j))
other_shared (runs.Passes i) h gs s q = (q.0, λ f. fewer_only s (passes i s) f (first_of f gs) (passes_fewer i s) (q.1 f))
other_shared (runs.TakesOut i) h gs s q = (q.0, λ f. fewer_only s (takes_out i s) f (first_of f gs) (out_fewer i s) (q.1 f))
other_shared (runs.Loses i) h gs s q = (q.0, λ f. fewer_only s (loses i s) f (first_of f gs) (loses_fewer i s) (q.1 f))
other_shared (runs.IsDue i) h gs s q = (q.0, λ f. fewer_only s (is_due i s) f (first_of f gs) (due_fewer i s) (q.1 f))
other_shared (runs.Dates i n) h gs s q = (q.0, λ f. fewer_only s (dates i n s) f (first_of f gs) (dates_fewer i n s) (q.1 f))
other_shared (runs.Leaves i) h gs s q = (q.0, λ f. fewer_only s (leaves i s) f (first_of f gs) (leaves_fewer i s) (q.1 f))
other_shared (runs.Comes i m will) h gs s q = (q.0, λ f. fewer_only s (comes i m will s) f (first_of f gs) (comes_fewer i m will s) (q.1 f))
other_shared (runs.Arrives i x) h gs s q = absurd h
other_shared (runs.Ends i) h gs s q = absurd h
other_shared (runs.Turns i f on) h gs s q = absurd h
