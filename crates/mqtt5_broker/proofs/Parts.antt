-- Whatever is called, who takes part in a shared subscription is who has it, and of these the first has the turn, and nobody else.
use Rattle.std.proofs.Common.{◌≡◌, ◌≢◌, ℕ, zero, suc, Bool, true, false, List, [], ◌∷◌, Option, Some, None, refl, sym, subst, ap, ◌∙◌, cond, if◌then◌else◌, not, map, is_some, ◌==◌, ◌&&◌, ◌⊎◌, inl, inr}
use Rattle.std.specs.Prelude.{⊤}
use Rattle.std.specs.List.{Contains}
use Rattle.std.specs.Str.{is_utf8}
use Rattle.std.proofs.lemmas.List.{map-id}
use Rattle.std.proofs.lemmas.Bool.{eqb-true, eq-eqb}
use Rattle.std.proofs.lemmas.Option.{none-some}
use Rattle.std.proofs.lemmas.List.Elements.{All-nil}
use Rattle.mqtt5_base.specs.Texts.{Utf8}
use Rattle.mqtt5_publish.specs.declared.publish.Publish.{Publish}
use Rattle.mqtt5_subscribe.specs.declared.subscribe.Subscribe.{Subscribe}
use Rattle.mqtt5_subscribe.specs.declared.unsubscribe.Unsubscribe.{Unsubscribe}
use Rattle.mqtt5_codec.specs.declared.packet.Packet.{Packet}
use Rattle.mqtt5_codec.specs.declared.packet.Packet.TheVariants as packets
use Rattle.mqtt5_network.specs.Connection.{is_sending}
use Rattle.mqtt5_network.specs.declared.subscription.Share.{Share}
use Rattle.mqtt5_network.specs.declared.subscription.Subscription.{Subscription}
use Rattle.mqtt5_progress.specs.Subscribers.{hits}
use Rattle.mqtt5_network.specs.Subscriptions.{is_of, has_turn, pattern_in, pattern_of, holds_for}
use Rattle.mqtt5_network.specs.Asking.{is_ack, identifier_of, share_of, subscribed_all, unsubscribed_all, subscriptions_after}
use Rattle.mqtt5_network.specs.Client.{Client, comes_to}
use Rattle.mqtt5_network.specs.Place.{message_of}
use Rattle.mqtt5_router.specs.Kept.{alone, after_packet}
use Rattle.mqtt5_sessions.specs.Sessions.{Sessions, ClientState, with_client, to_client, turns, arrives, replies, passes, takes_out, loses, is_due, dates, leaves, comes, ends}
use Rattle.mqtt5_sessions.specs.Runs as runs
use Rattle.mqtt5_sessions.specs.Runs.{SessionEvent, after_event}
use Rattle.mqtt5_broker.specs.Connection.{Connection, opened, of_user, connection_at}
use Rattle.mqtt5_broker.specs.Groups.{Group, gives_all, turns_met, rotates, rotated_for, turned_for, groups_turned, sessions_turned, groups_before, sessions_before, joins_all, parts_from, asks_shared, ends_shared, groups_after, sessions_after, has_members, without_member, is_among, groups_without, sessions_without, has_member, names, named_in, gives_if, left_in, is_group}
use Rattle.mqtt5_broker.specs.Broker.{Broker, at_moment, on_connection, loses_client}
use Rattle.mqtt5_broker.specs.Reasons.{refusal}
use Rattle.mqtt5_broker.specs.Serving.{has_any, turns_away}
use Rattle.mqtt5_broker.specs.Receiving.{closes_of, closes_now}
use Rattle.mqtt5_broker.specs.Asking.{is_new}
use Rattle.mqtt5_broker.specs.Acts.{Act, Session, Know, Regroup, Name, Moment, Count, Hear, Write, Shut, Welcome, Learn, Hold, Empty, act}
use Rattle.mqtt5_broker.specs.Calls as calls
use Rattle.mqtt5_broker.specs.Calls.{Call, Open, Identify, Reject, Receive, Sent, Pass, Close, Tick, SetBounds, Trim, ShutDown, AddUser, AllowPublish, AllowSubscribe, after_call, after_calls}
use Rattle.mqtt5_broker.specs.Within.{subscriptions_in, subscriptions_at}
use Rattle.mqtt5_broker.specs.Sharing.{turn_in, shares, has_turn_of, takes_part, first_of, AreDistinct, MayTurn, IsShared, first_in}
use Rattle.mqtt5_broker.proofs.Clients.{out_same, loses_same, due_same, dates_same, leaves_same, comes_same, passes_same, changes_subscriptions, ended_state, pushed_subscriptions}
use Rattle.mqtt5_broker.proofs.Turned.{all_kept, met_kept}
use Rattle.mqtt5_broker.proofs.Steps.{IsOther, IsPlain, Step, Do, Comes, Leaves, step, steps}
use Rattle.mqtt5_broker.proofs.Acting.{Done, loses_done, receives_done, passes_done, ticks_done, trims_at_done, shuts_down_done}
use Rattle.mqtt5_broker.proofs.Sharing.{true_false, Shared, Turned, arrived, arrived_same, distinct_map, distinct_filter, distinct_joins, parted_filter, comes_shared, leaves_shared, other_shared, same_filter}
use Rattle.mqtt5_broker.proofs.Turning.{HasTurn, FirstShares, picked_given, met_left, met_all, shares_turn, rotated_takes_part, joined_own, joined_other, named_after, plain_joins, plain_turn, parts_other, parts_own, plain_parts, turn_shares, none_unsubscribed, left_other, left_own, first_takes_part, somebody_first, and_false, kept_unsubscribed}
use Rattle.mqtt5_broker.proofs.Firsts.{first_joins, turn_subscribed, first_filtered, first_parted_from, nobody_out, first_is_other}

-- ---- sessions with groups

abbrev Parts : Sessions → List Group → Type 0
Parts s gs = (f : Utf8) (i : ℕ) → takes_part f i gs ≡ shares f (subscriptions_at i s)

abbrev Firsts : Sessions → List Group → Type 0
Firsts s gs = (f : Utf8) → HasTurn f (first_of f gs) s

-- only a filter of that form is one of a shared subscription
abbrev Named : Sessions → Type 0
Named s = (f : Utf8) (i : ℕ) → is_some (share_of f) ≡ false → shares f (subscriptions_at i s) ≡ false

abbrev Whole : Sessions → List Group → Type 0
Whole s gs = Parts s gs × Firsts s gs × Named s

-- nobody's part in one changes
abbrev Alike : Sessions → Sessions → Type 0
Alike s t = (f : Utf8) (i : ℕ) → shares f (subscriptions_at i t) ≡ shares f (subscriptions_at i s)

alike_turn : (s : Sessions) (i : ℕ) (f : Utf8) (on : Bool) (t : Sessions) → Alike s t → Alike s (turns i f on t)
alike_turn s i f on t a h j = shares_turn i f on t h j ∙ a h j

first_shares : (s : Sessions) (gs : List Group) → Parts s gs → (f : Utf8) → FirstShares f (first_of f gs) s
first_shares s gs p f i e = sym (p f i) ∙ first_takes_part f i gs e

whole_same : (s t : Sessions) (gs : List Group) → ((j : ℕ) → subscriptions_at j t ≡ subscriptions_at j s) → Whole s gs → Whole t gs
whole_same s t gs h w = (
  λ f i. w.0 f i ∙ sym (ap (shares f) (h i)),
  λ f i e. ap (has_turn_of f) (h i) ∙ w.1 f i e,
  λ f i q. ap (shares f) (h i) ∙ w.2 f i q,
)

-- of those that a packet names the first is given the turn, and of others the first has it
named_whole : (x : Packet) (s : Sessions) (gs : List Group) → AreDistinct gs → Parts s gs → Named s → ((f : Utf8) → names x f ≡ false → HasTurn f (first_of f gs) s) → Whole (gives_all (named_in x gs) s) gs
named_whole x s gs d p n others = (λ f i. p f i ∙ sym (a f i), firsts, λ f i q. a f i ∙ n f i q)
  where
    t : Sessions
    t = gives_all (named_in x gs) s

    a : Alike s t
    a = all_kept (Alike s) (alike_turn s) (named_in x gs) s (λ f i. refl)

    firsts : Firsts t gs
    firsts f =
        subst (λ hs. HasTurn f (first_of f hs) t) (map-id gs)
        (picked_given f (λ (g : Group). names x g.topic_filter) (λ (g : Group). g) (λ g. refl) gs s d (subst (λ hs. FirstShares f (first_of f hs) s) (sym (map-id gs)) (first_shares s gs p f))
        (λ h its unnamed first. subst (λ o. HasTurn f o s) first (others f (ap (names x) (sym (same_filter h.topic_filter f its)) ∙ unnamed))))

-- before a publish comes
turned_whole : (t : List ℕ) (gs : List Group) (s : Sessions) → AreDistinct gs → Whole s gs → Whole (sessions_turned t gs s) (groups_turned t gs s)
turned_whole t gs s d w = by (is_utf8 t)
  where
    u : Sessions
    u = turns_met false t gs s

    gone : Alike s u
    gone = met_kept (Alike s) (alike_turn s) false t gs s (λ f i. refl)

    others : List Group
    others = rotates t u gs

    back : Alike s (turns_met true t others u)
    back = met_kept (Alike s) (alike_turn s) true t others u gone

    part : Parts u others
    part f i = rotated_takes_part f i t u gs ∙ w.0 f i ∙ sym (gone f i)

    by : (v : Bool) → Whole (cond v (turned_for t gs s) s) (cond v (rotated_for t gs s) gs)
    by true = (
      λ f i. rotated_takes_part f i t u gs ∙ w.0 f i ∙ sym (back f i),
      λ f. met_all f t u gs u d (first_shares u others part f) (met_left f t gs s d (w.1 f)),
      λ f i q. back f i ∙ w.2 f i q,
    )
    by false = w

-- ---- the client at a place

at_other : (F : ClientState → ClientState) (i j : ℕ) (cs : List ClientState) → j ≢ i → subscriptions_in j (with_client i F cs) ≡ subscriptions_in j cs
at_other F i j [] h = refl
at_other F zero zero (c ∷ cs) h = absurd (h refl)
at_other F zero (suc j) (c ∷ cs) h = refl
at_other F (suc i) zero (c ∷ cs) h = refl
at_other F (suc i) (suc j) (c ∷ cs) h = at_other F i j cs (λ e. h (ap suc e))

-- where there is none, nothing is answered either
abbrev Own : (ClientState → ClientState) → (ClientState → List Packet) → ℕ → List ClientState → Type 0
Own F G i cs =
    ((subscriptions_in i cs ≡ []) × (subscriptions_in i (with_client i F cs) ≡ []) × (to_client i G cs ≡ []))
    ⊎ ((c : ClientState) × (subscriptions_in i cs ≡ c.kept.subscriptions) × (subscriptions_in i (with_client i F cs) ≡ (F c).kept.subscriptions) × (to_client i G cs ≡ G c))

own : (F : ClientState → ClientState) (G : ClientState → List Packet) (i : ℕ) (cs : List ClientState) → Own F G i cs
own F G i [] = inl (refl, refl, refl)
own F G zero (c ∷ cs) = inr (c, refl, refl, refl)
own F G (suc i) (c ∷ cs) = own F G i cs

differs : (i j : ℕ) → (j == i) ≡ false → j ≢ i
differs i j e same = true_false (sym (eq-eqb j i same) ∙ e)

differs_back : (i j : ℕ) → (j == i) ≡ false → (i == j) ≡ false
differs_back i j e = by (i == j) refl
  where
    by : (v : Bool) → (i == j) ≡ v → v ≡ false
    by true k = absurd (differs i j e (sym (eqb-true i j k)))
    by false k = refl

-- ---- what comes to a session

abbrev IsPlainOne : Packet → Type 0
IsPlainOne (packets.Subscribe p) = ⊥
IsPlainOne (packets.Unsubscribe p) = ⊥
IsPlainOne other = ⊤

after_plain : (x : Packet) → IsPlainOne x → (ss : List Subscription) → subscriptions_after ss x ≡ ss
after_plain (packets.Subscribe p) h ss = absurd h
after_plain (packets.Unsubscribe p) h ss = absurd h
after_plain other h ss = refl

come_plain : (x : Packet) → IsPlainOne x → (sending ack : Bool) (c : Client) → (comes_to sending ack c x).subscriptions ≡ c.subscriptions
come_plain x h true ack c = refl
come_plain x h false true c = refl
come_plain x h false false c = after_plain x h c.subscriptions

module _ (i : ℕ) (x : Packet) (s : Sessions) where
  abbrev came_in : Sessions
  came_in = arrives i x s

  came_other : (j : ℕ) → (j == i) ≡ false → subscriptions_at j came_in ≡ subscriptions_at j s
  came_other j e = arrived_same i x s j ∙ at_other (arrived i x s) i j s.clients (differs i j e)

  plain_whole : IsPlainOne x → (gs : List Group) → Whole s gs → Whole came_in gs
  plain_whole h gs w = whole_same s came_in gs all w
    where
      its : Own (arrived i x s) (λ c. []) i s.clients → subscriptions_at i came_in ≡ subscriptions_at i s
      its (inl e) = arrived_same i x s i ∙ e.1 ∙ sym e.0
      its (inr e) = arrived_same i x s i ∙ e.2 ∙ come_plain x h (is_sending x) (is_ack x) (alone (e.0).kept) ∙ sym e.1

      by : (j : ℕ) (v : Bool) → (j == i) ≡ v → subscriptions_at j came_in ≡ subscriptions_at j s
      by j true e = subst (λ (n : ℕ). subscriptions_at n came_in ≡ subscriptions_at n s) (sym (eqb-true j i e)) (its (own (arrived i x s) (λ c. []) i s.clients))
      by j false e = came_other j e

      all : (j : ℕ) → subscriptions_at j came_in ≡ subscriptions_at j s
      all j = by j (j == i) refl

-- of the client itself and of others
of_each : (P : ℕ → Type 0) (i : ℕ) → P i → ((j : ℕ) → (j == i) ≡ false → P j) → (j : ℕ) → P j
of_each P i p h j = by (j == i) refl
  where
    by : (v : Bool) → (j == i) ≡ v → P j
    by true e = subst P (sym (eqb-true j i e)) p
    by false e = h j e

-- nothing is answered to a packet of a client that isn't there
abbrev answered_down : Packet → ClientState → List Packet
answered_down x c = (after_packet c.kept x).down

-- a Subscribe
module _ (i : ℕ) (p : Subscribe) (gs : List Group) (s : Sessions) (d : AreDistinct gs) (w : Whole s gs) where
  abbrev sub : Packet
  sub = packets.Subscribe p

  abbrev sub_came : Sessions
  sub_came = arrives i sub s

  abbrev sub_groups : Bool → List Group
  sub_groups a = cond a (joins_all i p.filters gs) gs

  abbrev SubWhole : Bool → Bool → Type 0
  SubWhole v a = Whole (cond v (gives_if a (named_in sub (joins_all i p.filters gs)) sub_came) sub_came) (cond v (sub_groups a) gs)

  -- of nobody
  sub_nobody : Whole sub_came gs → (v : Bool) → SubWhole v false
  sub_nobody k true = k
  sub_nobody k false = k

  module _ (c : ClientState) (was : subscriptions_at i s ≡ c.kept.subscriptions) (is : subscriptions_at i sub_came ≡ subscribed_all (identifier_of p.properties) p.filters c.kept.subscriptions) where
    sub_named : Named sub_came
    sub_named f j q =
        of_each (λ n. shares f (subscriptions_at n sub_came) ≡ false) i
        (ap (shares f) is ∙ named_after f (identifier_of p.properties) p.filters c.kept.subscriptions q (sym (ap (shares f) was) ∙ w.2 f i q))
        (λ n e. ap (shares f) (came_other i sub s n e) ∙ w.2 f n q) j

    sub_parts : Parts sub_came (joins_all i p.filters gs)
    sub_parts f =
        of_each (λ n. takes_part f n (joins_all i p.filters gs) ≡ shares f (subscriptions_at n sub_came)) i
        (joined_own f i (identifier_of p.properties) p.filters gs c.kept.subscriptions (w.0 f i ∙ ap (shares f) was) (λ q. sym (ap (shares f) was) ∙ w.2 f i q) ∙ sym (ap (shares f) is))
        (λ n e. joined_other f i n p.filters gs (differs_back i n e) ∙ w.0 f n ∙ sym (ap (shares f) (came_other i sub s n e)))

    -- of filters that it doesn't name
    sub_others : (f : Utf8) → names sub f ≡ false → HasTurn f (first_of f (joins_all i p.filters gs)) sub_came
    sub_others f unnamed =
        subst (λ o. HasTurn f o sub_came) (sym (first_joins f i p.filters gs unnamed))
        (of_each (λ n. first_of f gs ≡ Some n → has_turn_of f (subscriptions_at n sub_came) ≡ true) i
        (λ e. ap (has_turn_of f) is ∙ turn_subscribed f (identifier_of p.properties) p.filters c.kept.subscriptions unnamed ∙ sym (ap (has_turn_of f) was) ∙ w.1 f i e)
        (λ n e q. ap (has_turn_of f) (came_other i sub s n e) ∙ w.1 f n q))

    sub_turning : asks_shared p.filters ≡ false → Firsts sub_came gs
    sub_turning ask f =
        of_each (λ n. first_of f gs ≡ Some n → has_turn_of f (subscriptions_at n sub_came) ≡ true) i
        (λ e. ap (has_turn_of f) is ∙ plain_turn f (identifier_of p.properties) p.filters c.kept.subscriptions ask (λ q. sym (ap (shares f) was) ∙ w.2 f i q) (sym (ap (has_turn_of f) was) ∙ w.1 f i e))
        (λ n e q. ap (has_turn_of f) (came_other i sub s n e) ∙ w.1 f n q)

    sub_somebody : (v : Bool) → asks_shared p.filters ≡ v → SubWhole v true
    sub_somebody true e = named_whole sub sub_came (joins_all i p.filters gs) (distinct_joins i p.filters gs d) sub_parts sub_named sub_others
    sub_somebody false e = (λ f n. ap (takes_part f n) (sym (plain_joins i p.filters gs e)) ∙ sub_parts f n, sub_turning e, sub_named)

  sub_whole : Whole (sessions_after (has_any (replies i sub s)) i sub gs sub_came) (groups_after (has_any (replies i sub s)) i sub gs)
  sub_whole = by (own (arrived i sub s) (answered_down sub) i s.clients)
    where
      by : Own (arrived i sub s) (answered_down sub) i s.clients → SubWhole (asks_shared p.filters) (has_any (replies i sub s))
      by (inl e) =
          subst (SubWhole (asks_shared p.filters)) (sym (ap has_any e.2))
          (sub_nobody (whole_same s sub_came gs (of_each (λ n. subscriptions_at n sub_came ≡ subscriptions_at n s) i (arrived_same i sub s i ∙ e.1 ∙ sym e.0) (came_other i sub s)) w) (asks_shared p.filters))
      by (inr e) = subst (SubWhole (asks_shared p.filters)) (sym (ap has_any e.3)) (sub_somebody e.0 e.1 (arrived_same i sub s i ∙ e.2) (asks_shared p.filters) refl)

-- an Unsubscribe
module _ (i : ℕ) (p : Unsubscribe) (gs : List Group) (s : Sessions) (d : AreDistinct gs) (w : Whole s gs) where
  abbrev uns : Packet
  uns = packets.Unsubscribe p

  abbrev uns_came : Sessions
  uns_came = arrives i uns s

  abbrev uns_groups : Bool → List Group
  uns_groups a = cond a (parts_from i p.filters gs) gs

  abbrev UnsWhole : Bool → Bool → Type 0
  UnsWhole v a = Whole (cond v (gives_if a (named_in uns (parts_from i p.filters gs)) uns_came) uns_came) (cond v (uns_groups a) gs)

  uns_nobody : Whole uns_came gs → (v : Bool) → UnsWhole v false
  uns_nobody k true = k
  uns_nobody k false = k

  uns_distinct : AreDistinct (parts_from i p.filters gs)
  uns_distinct =
      let F : Group → Group = λ g. cond (is_among p.filters g.topic_filter) (without_member i g) g in
      distinct_filter has_members (map F gs) (distinct_map F (parted_filter i p.filters) gs d)

  module _ (c : ClientState) (was : subscriptions_at i s ≡ c.kept.subscriptions) (is : subscriptions_at i uns_came ≡ unsubscribed_all p.filters c.kept.subscriptions) where
    uns_named : Named uns_came
    uns_named f j q =
        of_each (λ n. shares f (subscriptions_at n uns_came) ≡ false) i
        (ap (shares f) is ∙ none_unsubscribed is_some f p.filters c.kept.subscriptions (sym (ap (shares f) was) ∙ w.2 f i q))
        (λ n e. ap (shares f) (came_other i uns s n e) ∙ w.2 f n q) j

    uns_parts : Parts uns_came (parts_from i p.filters gs)
    uns_parts f =
        of_each (λ n. takes_part f n (parts_from i p.filters gs) ≡ shares f (subscriptions_at n uns_came)) i
        (parts_own f i p.filters gs c.kept.subscriptions (w.0 f i ∙ ap (shares f) was) ∙ sym (ap (shares f) is))
        (λ n e. parts_other f i p.filters n gs e ∙ w.0 f n ∙ sym (ap (shares f) (came_other i uns s n e)))

    -- of filters that it doesn't name
    uns_others : (f : Utf8) → names uns f ≡ false → HasTurn f (first_of f (parts_from i p.filters gs)) uns_came
    uns_others f unnamed =
        subst (λ o. HasTurn f o uns_came) (sym (first_parted_from f i p.filters gs d unnamed))
        (of_each (λ n. first_of f gs ≡ Some n → has_turn_of f (subscriptions_at n uns_came) ≡ true) i
        (λ e. ap (has_turn_of f) is ∙ kept_unsubscribed turn_in f p.filters c.kept.subscriptions unnamed ∙ sym (ap (has_turn_of f) was) ∙ w.1 f i e)
        (λ n e q. ap (has_turn_of f) (came_other i uns s n e) ∙ w.1 f n q))

    uns_plain : ends_shared p.filters ≡ false → Whole uns_came gs
    uns_plain ends_none = (
      λ f. of_each (λ n. takes_part f n gs ≡ shares f (subscriptions_at n uns_came)) i
          (w.0 f i ∙ ap (shares f) was ∙ sym (plain_parts is_some f p.filters c.kept.subscriptions ends_none (λ q. sym (ap (shares f) was) ∙ w.2 f i q)) ∙ sym (ap (shares f) is))
          (λ n e. w.0 f n ∙ sym (ap (shares f) (came_other i uns s n e))),
      λ f. of_each (λ n. first_of f gs ≡ Some n → has_turn_of f (subscriptions_at n uns_came) ≡ true) i
          (λ e. ap (has_turn_of f) is ∙ plain_parts turn_in f p.filters c.kept.subscriptions ends_none (λ q. turn_shares f c.kept.subscriptions (sym (ap (shares f) was) ∙ w.2 f i q)) ∙ sym (ap (has_turn_of f) was) ∙ w.1 f i e)
          (λ n e q. ap (has_turn_of f) (came_other i uns s n e) ∙ w.1 f n q),
      uns_named,
    )

    uns_somebody : (v : Bool) → ends_shared p.filters ≡ v → UnsWhole v true
    uns_somebody true e = named_whole uns uns_came (parts_from i p.filters gs) uns_distinct uns_parts uns_named uns_others
    uns_somebody false e = uns_plain e

  uns_whole : Whole (sessions_after (has_any (replies i uns s)) i uns gs uns_came) (groups_after (has_any (replies i uns s)) i uns gs)
  uns_whole = by (own (arrived i uns s) (answered_down uns) i s.clients)
    where
      by : Own (arrived i uns s) (answered_down uns) i s.clients → UnsWhole (ends_shared p.filters) (has_any (replies i uns s))
      by (inl e) =
          subst (UnsWhole (ends_shared p.filters)) (sym (ap has_any e.2))
          (uns_nobody (whole_same s uns_came gs (of_each (λ n. subscriptions_at n uns_came ≡ subscriptions_at n s) i (arrived_same i uns s i ∙ e.1 ∙ sym e.0) (came_other i uns s)) w) (ends_shared p.filters))
      by (inr e) = subst (UnsWhole (ends_shared p.filters)) (sym (ap has_any e.3)) (uns_somebody e.0 e.1 (arrived_same i uns s i ∙ e.2) (ends_shared p.filters) refl)

-- ---- each step

comes_whole : (i : ℕ) (x : Packet) (gs : List Group) (s : Sessions) → AreDistinct gs → Whole s gs
    → Whole (sessions_after (has_any (replies i x (sessions_before x gs s))) i x (groups_before x gs s) (arrives i x (sessions_before x gs s))) (groups_after (has_any (replies i x (sessions_before x gs s))) i x (groups_before x gs s))
comes_whole i (packets.Publish p) gs s d w = plain_whole i (packets.Publish p) (sessions_turned p.topic gs s) tt (groups_turned p.topic gs s) (turned_whole p.topic gs s d w)
comes_whole i (packets.Subscribe p) gs s d w = sub_whole i p gs s d w
comes_whole i (packets.Unsubscribe p) gs s d w = uns_whole i p gs s d w
comes_whole i other gs s d w = plain_whole i other s tt gs w

leaves_whole : (i : ℕ) (gs : List Group) (s : Sessions) → AreDistinct gs → Whole s gs → Whole (sessions_without i gs (ends i s)) (groups_without i gs)
leaves_whole i gs s d w = (λ f n. parts f n ∙ sym (a f n), firsts, λ f n q. a f n ∙ named f n q)
  where
    t : Sessions
    t = ends i s

    u : Sessions
    u = gives_all (left_in i gs) t

    a : Alike t u
    a = all_kept (Alike t) (alike_turn t) (left_in i gs) t (λ f n. refl)

    gone : AreDistinct (map (without_member i) gs)
    gone = distinct_map (without_member i) (λ g. refl) gs d

    is : (j : ℕ) → subscriptions_at j t ≡ subscriptions_in j (with_client i ended_state s.clients)
    is = changes_subscriptions i ended_state (λ (c : ClientState). message_of c.will) s

    its : Own ended_state (λ c. []) i s.clients → subscriptions_at i t ≡ []
    its (inl e) = is i ∙ e.1
    its (inr e) = is i ∙ e.2

    none : subscriptions_at i t ≡ []
    none = its (own ended_state (λ c. []) i s.clients)

    others : (j : ℕ) → (j == i) ≡ false → subscriptions_at j t ≡ subscriptions_at j s
    others j e = is j ∙ at_other ended_state i j s.clients (differs i j e)

    parts : Parts t (groups_without i gs)
    parts f =
        of_each (λ n. takes_part f n (groups_without i gs) ≡ shares f (subscriptions_at n t)) i (left_own f i gs ∙ sym (ap (shares f) none))
        (λ n e. left_other f i n gs e ∙ w.0 f n ∙ sym (ap (shares f) (others n e)))

    named : Named t
    named f j q = of_each (λ n. shares f (subscriptions_at n t) ≡ false) i (ap (shares f) none) (λ n e. ap (shares f) (others n e) ∙ w.2 f n q) j

    -- the first of a group in which it wasn't
    spared : (f : Utf8) (h : Group) → is_group f h ≡ true → has_member i h.members ≡ false → first_of f gs ≡ first_in h.members → HasTurn f (first_in (without_member i h).members) t
    spared f h its absent first j e =
        let own : first_in h.members ≡ Some j = sym (ap first_in (nobody_out i h.members absent)) ∙ e in
        ap (has_turn_of f) (others j (first_is_other i j h.members absent own)) ∙ w.1 f j (first ∙ own)

    firsts : Firsts u (groups_without i gs)
    firsts f =
        subst (λ o. HasTurn f o u) (sym (first_filtered f (map (without_member i) gs) gone))
        (picked_given f (λ (g : Group). has_member i g.members) (without_member i) (λ g. refl) gs t d
        (subst (λ o. FirstShares f o t) (first_filtered f (map (without_member i) gs) gone) (first_shares t (groups_without i gs) parts f)) (spared f))

other_whole : (e : SessionEvent) → IsOther e → (gs : List Group) (s : Sessions) → Whole s gs → Whole (after_event e s) gs
other_whole (runs.Joins limit) h gs s w = whole_same s (after_event (runs.Joins limit) s) gs (λ j. pushed_subscriptions limit j s.clients) w
other_whole (runs.Passes i) h gs s w = whole_same s (passes i s) gs (passes_same i s) w
other_whole (runs.TakesOut i) h gs s w = whole_same s (takes_out i s) gs (out_same i s) w
other_whole (runs.Loses i) h gs s w = whole_same s (loses i s) gs (loses_same i s) w
other_whole (runs.IsDue i) h gs s w = whole_same s (is_due i s) gs (due_same i s) w
other_whole (runs.Dates i n) h gs s w = whole_same s (dates i n s) gs (dates_same i n s) w
other_whole (runs.Leaves i) h gs s w = whole_same s (leaves i s) gs (leaves_same i s) w
other_whole (runs.Comes i m will) h gs s w = whole_same s (comes i m will s) gs (comes_same i m will s) w
other_whole (runs.Arrives i x) h gs s w = absurd h
other_whole (runs.Ends i) h gs s w = absurd h
other_whole (runs.Turns i f on) h gs s w = absurd h

abbrev IsKept : Broker → Type 0
IsKept b = Shared b.sessions b.groups × Whole b.sessions b.groups

act_shared : (a : Act) → IsPlain a → (b : Broker) → IsKept b → IsKept (act a b)
act_shared (Session e) h b q = (other_shared e h b.groups b.sessions q.0, other_whole e h b.groups b.sessions q.1)
act_shared (Know ms) h b q = q
act_shared (Regroup gs) h b q = absurd h
act_shared (Name n) h b q = q
act_shared (Moment at) h b q = q
act_shared (Count n) h b q = q
act_shared (Hear d at) h b q = q
act_shared (Write d p) h b q = q
act_shared (Shut d) h b q = q
act_shared (Welcome d i longest silence at) h b q = q
act_shared (Learn d a t) h b q = q
act_shared (Hold d bytes) h b q = q
act_shared (Empty d) h b q = q

step_shared : (d : Step) (b : Broker) → IsKept b → IsKept (step d b)
step_shared (Do a h) b q = act_shared a h b q
step_shared (Comes i x) b q = (comes_shared (has_any (replies i x (sessions_before x b.groups b.sessions))) i x b.groups b.sessions q.0, comes_whole i x b.groups b.sessions (q.0).0 q.1)
step_shared (Leaves i) b q = (leaves_shared i b.groups b.sessions q.0, leaves_whole i b.groups b.sessions (q.0).0 q.1)

steps_shared : (ds : List Step) (b : Broker) → IsKept b → IsKept (steps ds b)
steps_shared [] b q = q
steps_shared (d ∷ ds) b q = steps_shared ds (step d b) (step_shared d b q)

done_shared : (b c : Broker) → Done b c → IsKept b → IsKept c
done_shared b c d q = subst IsKept (sym d.1) (steps_shared d.0 b q)

-- ---- each call

if_shared : (v : Bool) (x y : Broker) → IsKept x → IsKept y → IsKept (if v then x else y)
if_shared true x y p q = p
if_shared false x y p q = q

closes_shared : (o : Option ℕ) (d : ℕ) (b : Broker) → IsKept b → IsKept (closes_of o d b)
closes_shared None d b q = q
closes_shared (Some i) d b q = done_shared b (loses_client i b) (loses_done i b) q

now_shared : (d : ℕ) (b : Broker) → IsKept b → IsKept (closes_now d b)
unfolding closes_now
now_shared d b q = closes_shared (connection_at d b.connections).client d b q

call_shared : (c : Call) (b : Broker) → IsKept b → IsKept (after_call c b)
call_shared (Open at c) b q =
    let d : Broker = at_moment at b in
    if_shared (connection_at c d.connections).is_open d (on_connection c (λ (l : Connection). opened d.wait d.moment) d) q q
call_shared (calls.Hold c bytes) b q = q
call_shared (Identify c u) b q = if_shared (is_new (connection_at c b.connections)) (on_connection c (of_user u) b) b q q
call_shared (Reject c code) b q = if_shared (is_new (connection_at c b.connections)) (turns_away c (refusal code) b) b q q
call_shared (Receive at c bytes) b q = done_shared b _ (receives_done at c bytes b) q
call_shared (Sent c count) b q = q
call_shared (Pass at c) b q = done_shared b _ (passes_done at c b) q
call_shared (Close at c) b q = now_shared c (at_moment at b) q
call_shared (Tick at) b q = done_shared b _ (ticks_done at b) q
call_shared (SetBounds bounds) b q = q
call_shared (Trim at) b q = done_shared b _ (trims_at_done at b) q
call_shared (ShutDown at) b q = done_shared b _ (shuts_down_done at b) q
call_shared AddUser b q = q
call_shared (AllowPublish u f) b q = q
call_shared (AllowSubscribe u f) b q = q

calls_kept : (cs : List Call) (b : Broker) → IsKept b → IsKept (after_calls cs b)
calls_kept [] b q = q
calls_kept (c ∷ cs) b q = calls_kept cs (after_call c b) (call_shared c b q)

pub calls_shared : (cs : List Call) (b : Broker) → IsShared b → IsShared (after_calls cs b)
calls_shared cs b h =
    let q : IsKept (after_calls cs b) = calls_kept cs b ((h.distinct, h.turns), (h.parts, h.first, h.named)) in
    record { distinct = (q.0).0; turns = (q.0).1; parts = (q.1).0; first = (q.1).1; named = (q.1).2 }

pub new_shared : (b : Broker) → b.sessions.clients ≡ [] → b.groups ≡ [] → IsShared b
new_shared b none e = record {
  distinct = subst AreDistinct (sym e) tt;
  turns = λ f i. subst (MayTurn f (first_of f b.groups) i) (sym (nothing i)) (All-nil (Turned f (first_of f b.groups) i));
  parts = λ f i. ap (takes_part f i) e ∙ sym (ap (shares f) (nothing i));
  first = λ f i q. absurd (none-some i (ap (first_of f) (sym e) ∙ q));
  named = λ f i q. ap (shares f) (nothing i);
}
  where
    nothing : (i : ℕ) → subscriptions_at i b.sessions ≡ []
    nothing i = ap (subscriptions_in i) none

-- two that have the turn in the same one are one
pub one_turn : (f : Utf8) (i j : ℕ) (s t : Subscription) (b : Broker) → IsShared b → Contains (subscriptions_at i b.sessions) s → Contains (subscriptions_at j b.sessions) t → is_of f s ≡ true → is_of f t ≡ true → turn_in s.share ≡ true → turn_in t.share ≡ true → i ≡ j
one_turn f i j s t b h has other a c p q =
    let first : first_of f b.groups ≡ Some i = subst (Turned f (first_of f b.groups) i) has.2 (h.turns f i has.0 s has.1) a p in
    let second : first_of f b.groups ≡ Some j = subst (Turned f (first_of f b.groups) j) other.2 (h.turns f j other.0 t other.1) c q in
    cc (sym first ∙ second)

pub waits_for_turn : (own : Bool) (s : Subscription) (h : Share) (p : Publish) → s.share ≡ Some h → turn_in s.share ≡ false → holds_for own s p ≡ false
waits_for_turn own s h p e t =
    let none : h.turn ≡ false = sym (ap turn_in e) ∙ t in
    ap (λ (v : Bool). v && (not (own && s.no_local) && hits (pattern_of s ∷ []) p)) (ap has_turn e ∙ none)

-- where somebody has one, somebody has its turn
pub somebody_has : (f : Utf8) (i : ℕ) (b : Broker) → IsShared b → shares f (subscriptions_at i b.sessions) ≡ true → (j : ℕ) × (has_turn_of f (subscriptions_at j b.sessions) ≡ true)
somebody_has f i b h e =
    let it = somebody_first f i b.groups h.distinct (h.parts f i ∙ e) in
    (it.0, h.first f it.0 it.1)

pub forwards_in_turn : (own_one : Bool) (s : Subscription) (h : Share) (p : Publish) → s.share ≡ Some h → turn_in s.share ≡ true → s.no_local ≡ false → holds_for own_one s p ≡ hits (h.topic_filter ∷ []) p
forwards_in_turn own_one s h p e t local =
    let on : h.turn ≡ true = sym (ap turn_in e) ∙ t in
    let holds : Bool → Bool → Option Share → Bool = λ turn its o. turn && (not (own_one && its) && hits (pattern_in o s.topic_filter ∷ []) p) in
    ap (λ (o : Option Share). holds (has_turn o) s.no_local o) e ∙ ap (λ v. holds v s.no_local (Some h)) on ∙ ap (λ v. holds true v (Some h)) local ∙ ap (λ v. not v && hits (h.topic_filter ∷ []) p) (and_false own_one)
