-- Each client stands in the index under the marks of its subscriptions, whatever happens.
use Rattle.std.proofs.Common.{◌≡◌, ℕ, zero, suc, ◌+◌, ◌<◌, ◌==◌, cond, Bool, true, false, ◌||◌, ◌⊎◌, inl, inr, List, [], ◌∷◌, ◌++◌, length, drop, map, Option, Some, None, refl, sym, ap, subst, ◌∙◌, arith, add-one, slice_index_or}
use Rattle.std.specs.Prelude.{filter, not, option_map}
use Rattle.std.proofs.Math.ListN.{set}
use Rattle.std.proofs.Math.Seq.{drop-cons}
use Rattle.std.proofs.lemmas.Bool.{eqb-true, eqb-false, eq-eqb}
use Rattle.std.proofs.lemmas.List.{get_or-set_same, get_or-set_other}
use Rattle.std.specs.declared.result.Result.{Result}
use Rattle.std.specs.declared.result.Result.TheVariants.{Ok, Err}
use Rattle.mqtt5_base.specs.Texts.{Utf8}
use Rattle.mqtt5_base.specs.Grammar.{is_among}
use Rattle.mqtt5_subscribe.specs.declared.filter.Filter.{Filter}
use Rattle.mqtt5_publish.specs.declared.publish.Publish.{Publish}
use Rattle.mqtt5_codec.specs.declared.packet.Packet.{Packet}
use Rattle.mqtt5_codec.specs.declared.packet.Packet.TheVariants as packets
use Rattle.mqtt5_session.specs.Session.{Session}
use Rattle.mqtt5_inflight.specs.declared.error.StateError.{StateError}
use Rattle.mqtt5_topic_index.specs.Marks.{mark_of}
use Rattle.mqtt5_topic_index.specs.declared.index.TopicIndex.{TopicIndex}
use Rattle.mqtt5_topic_index.specs.Index.{Stands}
use Rattle.mqtt5_network.specs.declared.subscription.Share.{Share}
use Rattle.mqtt5_network.specs.declared.subscription.Subscription.{Subscription}
use Rattle.mqtt5_network.specs.Connection.{is_sending}
use Rattle.mqtt5_network.specs.Subscriptions.{is_of, unsubscribed, subscribed, with_turn, turned, pattern_in}
use Rattle.mqtt5_network.specs.Asking.{is_ack, subscription_of, subscribed_all, unsubscribed_all, subscriptions_after}
use Rattle.mqtt5_network.specs.Client.{Client, comes_to, taken_for, passes_on}
use Rattle.mqtt5_router.specs.Kept.{Kept, alone, after_packet}
use Rattle.mqtt5_sessions.specs.declared.coming.Coming.{Coming}
use Rattle.mqtt5_sessions.specs.Sessions.{ClientState, new_state, gets, with_client, passes_here}
use Rattle.mqtt5_sessions.specs.Coming.{delivered}
use Rattle.mqtt5_sessions.specs.Shedding.{without_firsts}
use Rattle.mqtt5_sessions.specs.Indexed.{path_mark, mark_in, marks_in, marks_at, marks_wanted, IsIndexed}
use Rattle.mqtt5_sessions.proofs.Delivered.{at_new}

-- ---- tests

either : (a b : Bool) → (a || b) ≡ true → (a ≡ true) ⊎ (b ≡ true)
either true b h = inl refl
either false b h = inr h

pub or_left : (a b : Bool) → a ≡ true → (a || b) ≡ true
or_left a b h = ap (λ c. c || b) h

pub or_right : (a b : Bool) → b ≡ true → (a || b) ≡ true
or_right true b h = refl
or_right false b h = h

-- ---- the marks of subscriptions

-- of marks without one
pub without_mark : (k : ℕ) (ms : List ℕ) (m : ℕ) → is_among (filter (λ o. not (o == k)) ms) m ≡ true → (is_among ms m ≡ true) × (m ≡ k → ⊥)
without_mark k [] m h = absurd cc
without_mark k (o ∷ ms) m h = by (o == k) refl h (without_mark k ms m)
  where
    rest : List ℕ
    rest = filter (λ o. not (o == k)) ms

    by : (b : Bool) → (o == k) ≡ b → is_among (cond (not b) (o ∷ rest) rest) m ≡ true → (is_among rest m ≡ true → (is_among ms m ≡ true) × (m ≡ k → ⊥))
        → ((m == o || is_among ms m) ≡ true) × (m ≡ k → ⊥)
    by true is h on = (or_right (m == o) (is_among ms m) (on h).0, (on h).1)
    by false is h on =
        elim (either (m == o) (is_among rest m) h) [ inl e ↦ (or_left (m == o) (is_among ms m) e, λ at. eqb-false o k is (sym (eqb-true m o e) ∙ at)) | inr r ↦ (or_right (m == o) (is_among ms m) (on r).0, (on r).1) ]

pub kept_mark : (k : ℕ) (ms : List ℕ) (m : ℕ) → is_among ms m ≡ true → (m ≡ k → ⊥) → is_among (filter (λ o. not (o == k)) ms) m ≡ true
kept_mark k [] m h other = h
kept_mark k (o ∷ ms) m h other = by (o == k) refl (elim (either (m == o) (is_among ms m) h) [ inl e ↦ inl (eqb-true m o e) | inr r ↦ inr (kept_mark k ms m r other) ])
  where
    rest : List ℕ
    rest = filter (λ o. not (o == k)) ms

    by : (b : Bool) → (o == k) ≡ b → (m ≡ o) ⊎ (is_among rest m ≡ true) → is_among (cond (not b) (o ∷ rest) rest) m ≡ true
    by true is (inl e) = absurd (other (e ∙ eqb-true o k is))
    by true is (inr r) = r
    by false is (inl e) = or_left (m == o) (is_among rest m) (eq-eqb m o e)
    by false is (inr r) = or_right (m == o) (is_among rest m) r

-- a mark that is no other's is among those that are left
pub left_marks : (ss : List Subscription) (i : ℕ) (d : Subscription) (m : ℕ) → i < length ss → (m ≡ mark_in (slice_index_or ss i d) → ⊥) → is_among (marks_in (drop i ss)) m ≡ is_among (marks_in (drop (i + 1) ss)) m
left_marks ss i d m within other =
    ap (λ ss. is_among (marks_in ss) m) (drop-cons ss i d within)
    ∙ ap (λ b. b || is_among (marks_in (drop (suc i) ss)) m) (isnt (m == mark_in (slice_index_or ss i d)) refl)
    ∙ ap (λ k. is_among (marks_in (drop k ss)) m) (sym (add-one i))
  where
    isnt : (b : Bool) → (m == mark_in (slice_index_or ss i d)) ≡ b → b ≡ false
    isnt true is = absurd (other (eqb-true m (mark_in (slice_index_or ss i d)) is))
    isnt false is = refl

-- what is left of marks begins with one
pub next_mark : (ms : List ℕ) (i d m : ℕ) → i < length ms → is_among (drop i ms) m ≡ true → (m ≡ slice_index_or ms i d) ⊎ (is_among (drop (i + 1) ms) m ≡ true)
next_mark ms i d m within h =
    by (either (m == slice_index_or ms i d) (is_among (drop (suc i) ms) m) (subst (λ ms. is_among ms m ≡ true) (drop-cons ms i d within) h))
  where
    by : ((m == slice_index_or ms i d) ≡ true) ⊎ (is_among (drop (suc i) ms) m ≡ true) → (m ≡ slice_index_or ms i d) ⊎ (is_among (drop (i + 1) ms) m ≡ true)
    by (inl e) = inl (eqb-true m (slice_index_or ms i d) e)
    by (inr r) = inr (subst (λ k. is_among (drop k ms) m ≡ true) (sym (add-one i)) r)

-- each is among them
pub mark_at : (ms : List ℕ) (i d : ℕ) → i < length ms → is_among ms (slice_index_or ms i d) ≡ true
mark_at [] i d within = absurd (omega (arith, within))
mark_at (m ∷ ms) zero d within = or_left (m == m) (is_among ms m) (eq-eqb m m refl)
mark_at (m ∷ ms) (suc i) d within = or_right (slice_index_or ms i d == m) (is_among ms (slice_index_or ms i d)) (mark_at ms i d (omega (arith, within)))

pub mark_there : (ss : List Subscription) (i : ℕ) (d : Subscription) → i < length ss → is_among (marks_in ss) (mark_in (slice_index_or ss i d)) ≡ true
mark_there [] i d within = absurd (omega (arith, within))
mark_there (s ∷ ss) zero d within = or_left (mark_in s == mark_in s) (is_among (marks_in ss) (mark_in s)) (eq-eqb (mark_in s) (mark_in s) refl)
mark_there (s ∷ ss) (suc i) d within =
    or_right (mark_in (slice_index_or ss i d) == mark_in s) (is_among (marks_in ss) (mark_in (slice_index_or ss i d))) (mark_there ss i d (omega (arith, within)))

filtered_marks : (test : Subscription → Bool) (ss : List Subscription) (m : ℕ) → is_among (marks_in (filter test ss)) m ≡ true → is_among (marks_in ss) m ≡ true
filtered_marks test [] m h = h
filtered_marks test (s ∷ ss) m h = by (test s) h (filtered_marks test ss m)
  where
    by : (b : Bool) → is_among (marks_in (cond b (s ∷ filter test ss) (filter test ss))) m ≡ true → (is_among (marks_in (filter test ss)) m ≡ true → is_among (marks_in ss) m ≡ true)
        → (m == mark_in s || is_among (marks_in ss) m) ≡ true
    by true h on =
        elim (either (m == mark_in s) (is_among (marks_in (filter test ss)) m) h) [ inl e ↦ or_left (m == mark_in s) (is_among (marks_in ss) m) e | inr r ↦ or_right (m == mark_in s) (is_among (marks_in ss) m) (on r) ]
    by false h on = or_right (m == mark_in s) (is_among (marks_in ss) m) (on h)

-- with one more
more_marks : (ss : List Subscription) (s : Subscription) (m : ℕ) → is_among (marks_in (ss ++ s ∷ [])) m ≡ true → (is_among (marks_in ss) m ≡ true) ⊎ ((m == mark_in s) ≡ true)
more_marks [] s m h = elim (either (m == mark_in s) false h) [ inl e ↦ inr e | inr r ↦ inl r ]
more_marks (t ∷ ss) s m h =
    elim (either (m == mark_in t) (is_among (marks_in (ss ++ s ∷ [])) m) h) [ inl e ↦ inl (or_left (m == mark_in t) (is_among (marks_in ss) m) e) | inr r ↦ by (more_marks ss s m r) ]
  where
    by : (is_among (marks_in ss) m ≡ true) ⊎ ((m == mark_in s) ≡ true) → ((m == mark_in t || is_among (marks_in ss) m) ≡ true) ⊎ ((m == mark_in s) ≡ true)
    by (inl r) = inl (or_right (m == mark_in t) (is_among (marks_in ss) m) r)
    by (inr e) = inr e

subscribed_marks : (k : Option ℕ) (fs : List Filter) (ss : List Subscription) (m : ℕ) → is_among (marks_in (subscribed_all k fs ss)) m ≡ true
    → (is_among (marks_in ss) m ≡ true) ⊎ (is_among (map (λ (f : Filter). path_mark f.path) fs) m ≡ true)
subscribed_marks k [] ss m h = inl h
subscribed_marks k (f ∷ fs) ss m h = by (subscribed_marks k fs (subscribed (subscription_of k f) ss) m h)
  where
    paths : List ℕ
    paths = map (λ (f : Filter). path_mark f.path) fs

    by_one : (is_among (marks_in (unsubscribed f.path ss)) m ≡ true) ⊎ ((m == path_mark f.path) ≡ true)
        → (is_among (marks_in ss) m ≡ true) ⊎ ((m == path_mark f.path || is_among paths m) ≡ true)
    by_one (inl r) = inl (filtered_marks (λ s. not (is_of f.path s)) ss m r)
    by_one (inr e) = inr (or_left (m == path_mark f.path) (is_among paths m) e)

    by : (is_among (marks_in (subscribed (subscription_of k f) ss)) m ≡ true) ⊎ (is_among paths m ≡ true)
        → (is_among (marks_in ss) m ≡ true) ⊎ ((m == path_mark f.path || is_among paths m) ≡ true)
    by (inl r) = by_one (more_marks (unsubscribed f.path ss) (subscription_of k f) m r)
    by (inr r) = inr (or_right (m == path_mark f.path) (is_among paths m) r)

unsubscribed_marks : (fs : List Utf8) (ss : List Subscription) (m : ℕ) → is_among (marks_in (unsubscribed_all fs ss)) m ≡ true → is_among (marks_in ss) m ≡ true
unsubscribed_marks [] ss m h = h
unsubscribed_marks (f ∷ fs) ss m h = filtered_marks (λ s. not (is_of f s)) ss m (unsubscribed_marks fs (unsubscribed f ss) m h)

-- after a packet of the client
asked_marks : (ss : List Subscription) (x : Packet) (m : ℕ) → is_among (marks_in (subscriptions_after ss x)) m ≡ true
    → (is_among (marks_in ss) m ≡ true) ⊎ (is_among (marks_wanted x) m ≡ true)
asked_marks ss (packets.Subscribe p) m h = subscribed_marks _ p.filters ss m h
asked_marks ss (packets.Unsubscribe p) m h = inl (unsubscribed_marks p.filters ss m h)
asked_marks ss other m h = inl h

pub heard_marks : (k : Kept) (x : Packet) (m : ℕ) → is_among (marks_in (after_packet k x).subscriptions) m ≡ true
    → (is_among (marks_in k.subscriptions) m ≡ true) ⊎ (is_among (marks_wanted x) m ≡ true)
heard_marks k x m h = by (is_sending x) (is_ack x) h
  where
    by : (a b : Bool) → is_among (marks_in (comes_to a b (alone k) x).subscriptions) m ≡ true
        → (is_among (marks_in k.subscriptions) m ≡ true) ⊎ (is_among (marks_wanted x) m ≡ true)
    by true b h = inl h
    by false true h = inl h
    by false false h = asked_marks k.subscriptions x m h

-- once the first of the queue is passed on
pub passed_marks : (here : Bool) (k : Kept) → (passes_here here k).subscriptions ≡ k.subscriptions
passed_marks false k = refl
passed_marks true k = by k.queue
  where
    taken : (c : Client) (p : Publish) (rest : List Publish) (r : Result (Option Packet) StateError) (s : Session) → (taken_for c p rest r s).subscriptions ≡ c.subscriptions
    taken c p rest (Ok reply) s = refl
    taken c p rest (Err e) s = refl

    by : (ps : List Publish) → (passes_on (alone k) ps).subscriptions ≡ k.subscriptions
    by [] = refl
    by (p ∷ rest) = taken (alone k) p rest _ _

-- without the first ones
pub shed_marks : (n : ℕ) (c : ClientState) → (without_firsts n c).kept.subscriptions ≡ c.kept.subscriptions
shed_marks zero c = refl
shed_marks (suc n) c = shed_marks n _

-- whoever has the turn
pub turned_marks : (f : Utf8) (turn : Bool) (ss : List Subscription) → marks_in (turned f turn ss) ≡ marks_in ss
turned_marks f turn [] = refl
turned_marks f turn (s ∷ ss) = λ j. by (is_of f s) j ∷ turned_marks f turn ss j
  where
    part : (o : Option Share) → pattern_in (option_map (λ (h : Share). record h { turn = turn }) o) s.topic_filter ≡ pattern_in o s.topic_filter
    part None = refl
    part (Some h) = refl

    by : (b : Bool) → mark_in (cond b (with_turn turn s) s) ≡ mark_in s
    by true = ap (λ (t : Utf8). mark_of t.bytes) (part s.share)
    by false = refl

-- ---- the marks of clients

marks_gets : (i j : ℕ) (ps : List Publish) (cs : List ClientState) → marks_at i (with_client j (gets ps) cs) ≡ marks_at i cs
marks_gets i j ps [] = refl
marks_gets zero zero ps (c ∷ cs) = refl
marks_gets zero (suc j) ps (c ∷ cs) = refl
marks_gets (suc i) zero ps (c ∷ cs) = refl
marks_gets (suc i) (suc j) ps (c ∷ cs) = marks_gets i j ps cs

marks_delivered : (i : ℕ) (es : List Coming) (cs : List ClientState) → marks_at i (delivered es cs) ≡ marks_at i cs
marks_delivered i [] cs = refl
marks_delivered i (e ∷ es) cs = marks_delivered i es (with_client e.client (gets (e.publish ∷ [])) cs) ∙ marks_gets i e.client (e.publish ∷ []) cs

marks_pushed : (i l : ℕ) (cs : List ClientState) → marks_at i (cs ++ new_state l ∷ []) ≡ marks_at i cs
marks_pushed zero l [] = refl
marks_pushed (suc i) l [] = refl
marks_pushed zero l (c ∷ cs) = refl
marks_pushed (suc i) l (c ∷ cs) = marks_pushed i l cs

module _ (x : TopicIndex) (cs : List ClientState) (indexed : IsIndexed x cs) where
  same_marks : (ds : List ClientState) → ((i : ℕ) → marks_at i ds ≡ marks_at i cs) → IsIndexed x ds
  same_marks ds same = λ i m h. indexed i m (subst (λ ms. is_among ms m ≡ true) (same i) h)

  -- where publishes are on their way into queues
  pub indexed_delivered : (es fs : List Coming) (ds : List ClientState) → delivered fs ds ≡ delivered es cs → IsIndexed x ds
  indexed_delivered es fs ds same = same_marks ds (λ i. sym (marks_delivered i fs ds) ∙ ap (marks_at i) same ∙ marks_delivered i es cs)

  -- where one more comes to be known
  pub indexed_pushed : (l : ℕ) (ds : List ClientState) → ds ≡ cs ++ new_state l ∷ [] → IsIndexed x ds
  indexed_pushed l ds is = same_marks ds (λ i. ap (marks_at i) is ∙ marks_pushed i l cs)

  module _ (i : ℕ) (c d : ClientState) (below : i < length cs) (is : c ≡ slice_index_or cs i c) where
    marks_here : marks_at i cs ≡ marks_in c.kept.subscriptions
    marks_here = ap (λ (c : ClientState). marks_in c.kept.subscriptions) (sym (at_new i cs c below is))

    -- where one changes, and others stand where they stood
    pub indexed_set : (y : TopicIndex) → ((m n : ℕ) → (n ≡ i → ⊥) → Stands x m n → Stands y m n)
        → (((m : ℕ) → is_among (marks_in c.kept.subscriptions) m ≡ true → Stands x m i) → (m : ℕ) → is_among (marks_in d.kept.subscriptions) m ≡ true → Stands y m i)
        → IsIndexed y (set cs i d)
    indexed_set y others own = λ j m. by j m (j == i) refl
      where
        here : (m : ℕ) → is_among (marks_in d.kept.subscriptions) m ≡ true → Stands y m i
        here = own (λ m h. indexed i m (subst (λ ms. is_among ms m ≡ true) (sym marks_here) h))

        by : (j m : ℕ) (b : Bool) → (j == i) ≡ b → is_among (marks_at j (set cs i d)) m ≡ true → Stands y m j
        by j m true is h =
            let same : j ≡ i = eqb-true j i is in
            let at : marks_at j (set cs i d) ≡ marks_in d.kept.subscriptions = ap (λ k. marks_at k (set cs i d)) same ∙ ap (λ (c : ClientState). marks_in c.kept.subscriptions) (get_or-set_same cs i d (new_state 0) below) in
            subst (Stands y m) (sym same) (here m (subst (λ ms. is_among ms m ≡ true) at h))
        by j m false is h =
            let other = eqb-false j i is in
            let at : marks_at j (set cs i d) ≡ marks_at j cs = ap (λ (c : ClientState). marks_in c.kept.subscriptions) (get_or-set_other cs i j d (new_state 0) other) in
            others m j other (indexed j m (subst (λ ms. is_among ms m ≡ true) at h))

    -- where it has the marks that it had
    pub indexed_marks : marks_in d.kept.subscriptions ≡ marks_in c.kept.subscriptions → IsIndexed x (set cs i d)
    indexed_marks same = indexed_set x (λ m n other stands. stands) (λ own m h. own m (subst (λ ms. is_among ms m ≡ true) same h))

    -- where it has the subscriptions that it had
    pub indexed_kept : d.kept.subscriptions ≡ c.kept.subscriptions → IsIndexed x (set cs i d)
    indexed_kept same = indexed_marks (ap marks_in same)

    -- where it has none any more
    pub indexed_none : d.kept.subscriptions ≡ [] → (y : TopicIndex) → ((m n : ℕ) → (n ≡ i → ⊥) → Stands x m n → Stands y m n) → IsIndexed y (set cs i d)
    indexed_none none y others = indexed_set y others (λ own m h. absurd (by m h))
      where
        by : (m : ℕ) → is_among (marks_in d.kept.subscriptions) m ≡ true → ⊥
        by m h = let no : false ≡ true = ap (λ ss. is_among (marks_in ss) m) (sym none) ∙ h in cc
