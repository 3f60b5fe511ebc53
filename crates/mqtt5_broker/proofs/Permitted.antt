-- What any calls make of the subscriptions of users, and what is forwarded under these.
use Rattle.std.proofs.Common.{◌≡◌, ℕ, zero, suc, Bool, true, false, List, [], ◌∷◌, ◌++◌, Option, Some, None, refl, sym, subst, ap, ◌∙◌, get_or, set, if◌then◌else◌, not, length, ◌==◌, ◌&&◌, ◌||◌, ◌⊎◌, inl, inr}
use Rattle.std.specs.Prelude.{is_none, option_map, ⊤}
use Rattle.std.specs.List.{All, list_all, filter_map, cons_option}
use Rattle.std.specs.Str.{is_utf8}
use Rattle.std.proofs.lemmas.Bool.{and_parts}
use Rattle.std.proofs.lemmas.Option.{none-some}
use Rattle.std.proofs.lemmas.List.Elements.{All-nil, All-cons, All-head, All-tail, All-append}
use Rattle.mqtt5_base.specs.Texts.{Utf8, text_of}
use Rattle.mqtt5_base.specs.Topics.{IsMatching, topic_matches}
use Rattle.mqtt5_base.specs.declared.quality.QoS.{QoS}
use Rattle.mqtt5_publish.specs.declared.publish.Publish.{Publish}
use Rattle.mqtt5_subscribe.specs.declared.filter.Filter.{Filter}
use Rattle.mqtt5_subscribe.specs.declared.subscribe.Subscribe.{Subscribe}
use Rattle.mqtt5_codec.specs.declared.packet.Packet.{Packet}
use Rattle.mqtt5_codec.specs.declared.packet.Packet.TheVariants as packets
use Rattle.mqtt5_connect.specs.declared.connect.Connect.{Connect}
use Rattle.mqtt5_connect.specs.declared.will.LastWill.{LastWill}
use Rattle.mqtt5_control.specs.declared.connack.ConnectReturnCode.{ConnectReturnCode}
use Rattle.mqtt5_control.specs.declared.connack.ConnectReturnCode.TheVariants as return_codes
use Rattle.mqtt5_control.specs.declared.disconnect.DisconnectReasonCode.{DisconnectReasonCode}
use Rattle.mqtt5_network.specs.declared.subscription.Subscription.{Subscription}
use Rattle.mqtt5_network.specs.Subscriptions.{subscribed, has_turn, pattern_of, holds_for, granted_for, holding, forwarded_under, forwarded_to}
use Rattle.mqtt5_network.specs.Asking.{identifier_of, share_of, subscription_of}
use Rattle.mqtt5_network.specs.Retained.{copied_under, copy_for, gets_copies, copies_of, copies_all, copies_for}
use Rattle.mqtt5_progress.specs.Subscribers.{hits}
use Rattle.mqtt5_network.specs.Forwarded.{greater}
use Rattle.mqtt5_broker.specs.Rights.{Rights, no_rights, publishing, subscribing, rights_at, is_within, asked_pattern, may_publish, may_subscribe, may_do, part_of, will_denial}
use Rattle.mqtt5_broker.specs.Connection.{Connection, of_user, shut, written, with_sent, connection_at}
use Rattle.mqtt5_broker.specs.Broker.{Broker, on_connection, knows_user, lets, number_of, user_at, owner_at, is_same, refuses}
use Rattle.mqtt5_broker.specs.Asking.{kept_on, is_new}
use Rattle.mqtt5_broker.specs.Reasons.{refusal}
use Rattle.mqtt5_broker.specs.Serving.{arrives_from, denies, brings, serves_by, fault_of, serves, rejects_by, turns_away, returns, assigns, admits_as, admits, entry_fault, connects_by, connects}
use Rattle.mqtt5_broker.specs.Judging.{first_code, connect_fault}
use Rattle.mqtt5_broker.specs.Standing.{IsStanding}
use Rattle.mqtt5_broker.specs.Within.{subscriptions_in, subscriptions_at, AreWithin, IsWithin}
use Rattle.mqtt5_broker.specs.Calls.{Call, Open, Hold, Identify, Reject, Receive, Sent, Pass, Close, Tick, SetBounds, Trim, ShutDown, AddUser, AllowPublish, AllowSubscribe, after_call, after_calls}
use Rattle.mqtt5_broker.proofs.Calling.{one_stands}
use Rattle.mqtt5_broker.proofs.Within.{all_filtered, on_within, choice_within, opens_within, receives_within, passes_within, closes_within, ticks_within, trims_at_within, shuts_down_within}

-- ---- a new broker

pub new_within : (b : Broker) → b.sessions.clients ≡ [] → b.members ≡ [] → IsWithin b
new_within b e h = record {
  numbers = ap length e ∙ sym (ap length h);
  none = λ j q. ap (subscriptions_in j) e;
  within = λ j u q. subst (AreWithin (rights_at u b.rights).subscribes) (sym (ap (subscriptions_in j) e)) (All-nil (λ (s : Subscription). is_within (pattern_of s).bytes (rights_at u b.rights).subscribes ≡ true));
}

-- ---- rights

-- of one that has changed, if it is that one
set_rights : (u v : ℕ) (rs : List Rights) (r : Rights) → (rights_at v (set rs u r) ≡ rights_at v rs) ⊎ ((v ≡ u) × (rights_at v (set rs u r) ≡ r))
set_rights u v [] r = inl refl
set_rights zero zero (x ∷ rs) r = inr (refl, refl)
set_rights zero (suc v) (x ∷ rs) r = inl refl
set_rights (suc u) zero (x ∷ rs) r = inl refl
set_rights (suc u) (suc v) (x ∷ rs) r = lift (set_rights u v rs r)
  where
    lift : (rights_at v (set rs u r) ≡ rights_at v rs) ⊎ ((v ≡ u) × (rights_at v (set rs u r) ≡ r)) → (rights_at (suc v) (set (x ∷ rs) (suc u) r) ≡ rights_at (suc v) (x ∷ rs)) ⊎ ((suc v ≡ suc u) × (rights_at (suc v) (set (x ∷ rs) (suc u) r) ≡ r))
    lift (inl e) = inl e
    lift (inr e) = inr (ap suc e.0, e.1)

pushed_rights : (v : ℕ) (rs : List Rights) → rights_at v (rs ++ no_rights ∷ []) ≡ rights_at v rs
pushed_rights zero [] = refl
pushed_rights (suc v) [] = refl
pushed_rights zero (x ∷ rs) = refl
pushed_rights (suc v) (x ∷ rs) = pushed_rights v rs

-- a user may subscribe to no less
abbrev Grows : (Rights → Rights) → Type 0
Grows f = (r : Rights) (t : List ℕ) → is_within t r.subscribes ≡ true → is_within t (f r).subscribes ≡ true

or_more : (v w z : Bool) → (w ≡ true → z ≡ true) → (v || w) ≡ true → (v || z) ≡ true
or_more true w z h e = refl
or_more false w z h e = h e

appended : (t : List ℕ) (fs : List Utf8) (g : Utf8) → is_within t fs ≡ true → is_within t (fs ++ g ∷ []) ≡ true
appended t [] g e = absurd (cc e)
appended t (f ∷ fs) g e = or_more (topic_matches t f.bytes) (is_within t fs) (is_within t (fs ++ g ∷ [])) (appended t fs g) e

lets_within : (u : ℕ) (f : Rights → Rights) (b : Broker) → Grows f → IsWithin b → IsWithin (lets u f b)
lets_within u f b h w = record {
  numbers = w.numbers;
  none = w.none;
  within = λ j v e. by j v e (set_rights u v b.rights (f (rights_at u b.rights)));
}
  where
    by : (j v : ℕ) → owner_at j b.members ≡ Some v → (rights_at v (set b.rights u (f (rights_at u b.rights))) ≡ rights_at v b.rights) ⊎ ((v ≡ u) × (rights_at v (set b.rights u (f (rights_at u b.rights))) ≡ f (rights_at u b.rights))) → AreWithin (rights_at v (set b.rights u (f (rights_at u b.rights)))).subscribes (subscriptions_at j b.sessions)
    by j v e (inl q) = subst (λ (r : Rights). AreWithin r.subscribes (subscriptions_at j b.sessions)) (sym q) (w.within j v e)
    by j v e (inr q) =
        let was : AreWithin (rights_at u b.rights).subscribes (subscriptions_at j b.sessions) = w.within j u (subst (λ (n : ℕ). owner_at j b.members ≡ Some n) q.0 e) in
        let more : AreWithin (f (rights_at u b.rights)).subscribes (subscriptions_at j b.sessions) = λ k d lt. h (rights_at u b.rights) (pattern_of (get_or (subscriptions_at j b.sessions) k d)).bytes (was k d lt) in
        subst (λ (r : Rights). AreWithin r.subscribes (subscriptions_at j b.sessions)) (sym q.1) more

knows_within : (b : Broker) → IsWithin b → IsWithin (knows_user b)
knows_within b w = record {
  numbers = w.numbers;
  none = w.none;
  within = λ j v e. subst (λ (r : Rights). AreWithin r.subscribes (subscriptions_at j b.sessions)) (sym (pushed_rights v b.rights)) (w.within j v e);
}

-- ---- any calls

one_within : (c : Call) (b : Broker) → IsStanding b → IsWithin b → IsWithin (after_call c b)
one_within (Open at c) b s w = opens_within at c b w
one_within (Hold c bytes) b s w = on_within c (kept_on bytes) b w
one_within (Identify c u) b s w = choice_within (is_new (connection_at c b.connections)) (on_connection c (of_user u) b) b (on_within c (of_user u) b w) w
one_within (Reject c code) b s w = choice_within (is_new (connection_at c b.connections)) (turns_away c (refusal code) b) b (on_within c (λ (l : Connection). shut (written (refusal code) l)) b w) w
one_within (Receive at c bytes) b s w = receives_within at c bytes b s w
one_within (Sent c count) b s w = on_within c (with_sent count) b w
one_within (Pass at c) b s w = passes_within at c b w
one_within (Close at c) b s w = closes_within at c b w
one_within (Tick at) b s w = ticks_within at b w
one_within (SetBounds bounds) b s w = record { numbers = w.numbers; none = w.none; within = w.within }
one_within (Trim at) b s w = trims_at_within at b w
one_within (ShutDown at) b s w = shuts_down_within at b w
one_within AddUser b s w = knows_within b w
one_within (AllowPublish u f) b s w = lets_within u (publishing f) b (λ r t e. e) w
one_within (AllowSubscribe u f) b s w = lets_within u (subscribing f) b (λ r t e. appended t r.subscribes (text_of f) e) w

pub all_within : (cs : List Call) (b : Broker) → IsStanding b → IsWithin b → IsWithin (after_calls cs b)
all_within [] b s w = w
all_within (c ∷ cs) b s w = all_within cs (after_call c b) (one_stands c b s) (one_within c b s w)

-- ---- what is forwarded

abbrev Topic : List Utf8 → Publish → Type 0
Topic fs p = is_within p.topic fs ≡ true

abbrev TopicOf : List Utf8 → Option Publish → Type 0
TopicOf fs None = ⊤
TopicOf fs (Some p) = Topic fs p

or_false : (v : Bool) → (v || false) ≡ true → v ≡ true
or_false true e = refl
or_false false e = e

or_true : (v w : Bool) → w ≡ true → (v || w) ≡ true
or_true true w e = refl
or_true false w e = e

module _ (matching : IsMatching) where
  pub within_more : (t f : List ℕ) (fs : List Utf8) → topic_matches t f ≡ true → is_within f fs ≡ true → is_within t fs ≡ true
  within_more t f [] h e = absurd (cc e)
  within_more t f (g ∷ fs) h e = by (within_more t f fs h) (topic_matches f g.bytes) refl e
    where
      by : (is_within f fs ≡ true → is_within t fs ≡ true) → (v : Bool) → topic_matches f g.bytes ≡ v → (v || is_within f fs) ≡ true → (topic_matches t g.bytes || is_within t fs) ≡ true
      by rest true q r = ap (λ (v : Bool). v || is_within t fs) (matching.transitive t f g.bytes h q)
      by rest false q r = or_true (topic_matches t g.bytes) (is_within t fs) (rest r)

  -- a publish that a filter within these matches
  hit_within : (fs : List Utf8) (f : Utf8) (p : Publish) → is_within f.bytes fs ≡ true → hits (f ∷ []) p ≡ true → is_within p.topic fs ≡ true
  hit_within fs f p w h =
      let match = or_false (topic_matches p.topic f.bytes) (and_parts (is_utf8 p.topic) (topic_matches p.topic f.bytes || false) h).1 in
      within_more p.topic f.bytes fs match w

  granted_within : (fs : List Utf8) (own : Bool) (ss : List Subscription) (p : Publish) (q : QoS) → AreWithin fs ss → granted_for own ss p ≡ Some q → is_within p.topic fs ≡ true
  granted_within fs own [] p q w e = absurd (none-some q e)
  granted_within fs own (s ∷ ss) p q w e =
      by (granted_within fs own ss p q (All-tail (λ (x : Subscription). is_within (pattern_of x).bytes fs ≡ true) s ss w)) (holds_for own s p) refl e
    where
      here : holds_for own s p ≡ true → is_within p.topic fs ≡ true
      here h =
          let rest = (and_parts (has_turn s.share) (not (own && s.no_local) && hits (pattern_of s ∷ []) p) h).1 in
          hit_within fs (pattern_of s) p (All-head (λ (x : Subscription). is_within (pattern_of x).bytes fs ≡ true) s ss w) (and_parts (not (own && s.no_local)) (hits (pattern_of s ∷ []) p) rest).1

      by : (granted_for own ss p ≡ Some q → is_within p.topic fs ≡ true) → (v : Bool) → holds_for own s p ≡ v → (if v then Some (greater s.granted (granted_for own ss p)) else granted_for own ss p) ≡ Some q → is_within p.topic fs ≡ true
      by rest true h r = here h
      by rest false h r = rest r

  forwarded_by : (fs : List Utf8) (own : Bool) (ss : List Subscription) (p q : Publish) → AreWithin fs ss → (o : Option QoS) → granted_for own ss p ≡ o → option_map (λ (k : QoS). forwarded_under (holding own ss p) k p) o ≡ Some q → is_within q.topic fs ≡ true
  forwarded_by fs own ss p q w None h e = absurd (none-some q e)
  forwarded_by fs own ss p q w (Some k) h e = subst (TopicOf fs) e (granted_within fs own ss p k w h)

  pub forwarded_within : (i u : ℕ) (own : Bool) (p q : Publish) (b : Broker) → IsWithin b → owner_at i b.members ≡ Some u → forwarded_to own (subscriptions_at i b.sessions) p ≡ Some q → is_within q.topic (rights_at u b.rights).subscribes ≡ true
  forwarded_within i u own p q b w e h = forwarded_by (rights_at u b.rights).subscribes own (subscriptions_at i b.sessions) p q (w.within i u e) (granted_for own (subscriptions_at i b.sessions) p) refl h

  -- ---- what a Subscribe brings of retained messages

  put_within : (fs : List Utf8) (o : Option Publish) (ps : List Publish) → TopicOf fs o → All (Topic fs) ps → All (Topic fs) (cons_option o ps)
  put_within fs None ps h k = k
  put_within fs (Some p) ps h k = All-cons (Topic fs) p ps h k

  copy_within : (fs : List Utf8) (s : Subscription) (p : Publish) → is_within (pattern_of s).bytes fs ≡ true → (v : Bool) → hits (pattern_of s ∷ []) p ≡ v
      → TopicOf fs (if v then Some (copied_under s p) else None)
  copy_within fs s p w true h = hit_within fs (pattern_of s) p w h
  copy_within fs s p w false h = tt

  copied_within : (fs : List Utf8) (s : Subscription) (kept : List Publish) → is_within (pattern_of s).bytes fs ≡ true → All (Topic fs) (filter_map (copy_for s) kept)
  copied_within fs s [] w = All-nil (Topic fs)
  copied_within fs s (p ∷ ps) w = put_within fs (copy_for s p) (filter_map (copy_for s) ps) (copy_within fs s p w (hits (pattern_of s ∷ []) p) refl) (copied_within fs s ps w)

  some_within : (v : Bool) (fs : List Utf8) (s : Subscription) (kept : List Publish) → is_within (pattern_of s).bytes fs ≡ true → All (Topic fs) (if v then filter_map (copy_for s) kept else [])
  some_within true fs s kept w = copied_within fs s kept w
  some_within false fs s kept w = All-nil (Topic fs)

  all_copies_within : (fs : List Utf8) (kept : List Publish) (n : Option ℕ) (gs : List Filter) (ss : List Subscription) → list_all (λ (g : Filter). is_within (asked_pattern g).bytes fs) gs ≡ true → All (Topic fs) (copies_all kept n gs ss)
  all_copies_within fs kept n [] ss h = All-nil (Topic fs)
  all_copies_within fs kept n (g ∷ gs) ss h =
      let parts = and_parts (is_within (asked_pattern g).bytes fs) (list_all (λ (f : Filter). is_within (asked_pattern f).bytes fs) gs) h in
      let next = subscribed (subscription_of n g) ss in
      All-append (Topic fs) (copies_of kept n ss g) (copies_all kept n gs next)
      (some_within (is_none (share_of g.path) && gets_copies g.retain_forward_rule g.path ss) fs (subscription_of n g) kept parts.0)
      (all_copies_within fs kept n gs next parts.1)

  pub copies_within : (u : ℕ) (rs : List Rights) (kept : List Publish) (ss : List Subscription) (x : Packet) → may_do (Some u) rs x ≡ true → All (Topic (rights_at u rs).subscribes) (copies_for kept ss x)
  copies_within u rs kept ss (packets.Subscribe p) h = all_copies_within (rights_at u rs).subscribes kept (identifier_of p.properties) p.filters ss h
  copies_within u rs kept ss other h = All-nil (Topic (rights_at u rs).subscribes)

-- ---- what isn't allowed

module _ (c i : ℕ) (p : Publish) (b : Broker) (h : may_publish (owner_at i b.members) b.rights p.topic ≡ false) where
  denied : (brings c i (packets.Publish p) b).sessions ≡ b.sessions
  unfolding brings denies
  denied = ap (λ (v : Bool). (if v then arrives_from c i (packets.Publish p) b else denies (owner_at i b.members) c i (packets.Publish p) b).sessions) h

  dropped_by : (o : Option DisconnectReasonCode) → fault_of i (packets.Publish p) b ≡ o
      → ((serves_by o c i (packets.Publish p) b).sessions ≡ b.sessions) ⊎ ((reason : DisconnectReasonCode) × (fault_of i (packets.Publish p) b ≡ Some reason) × (serves_by o c i (packets.Publish p) b ≡ refuses c i reason b))
  dropped_by None e = inl denied
  dropped_by (Some reason) e = inr (reason, e, refl)

  pub publish_dropped : ((serves c i (packets.Publish p) b).sessions ≡ b.sessions) ⊎ ((reason : DisconnectReasonCode) × (fault_of i (packets.Publish p) b ≡ Some reason) × (serves c i (packets.Publish p) b ≡ refuses c i reason b))
  unfolding serves
  publish_dropped = dropped_by (fault_of i (packets.Publish p) b) refl

-- a will
module _ (c : ℕ) (k : Connect) (w : LastWill) (b : Broker) (h : may_publish (user_at c b) b.rights w.topic ≡ false) where
  refused_by : (o : Option ConnectReturnCode) → (code : ConnectReturnCode) × (connects_by (first_code o (will_denial (user_at c b) b.rights (Some w))) c k (Some w) b ≡ turns_away c (rejects_by k code) b)
  refused_by (Some code) = (code, refl)
  refused_by None =
      (return_codes.NotAuthorized, ap (λ (v : Bool). connects_by (if v then None else Some return_codes.NotAuthorized) c k (Some w) b) h)

  pub will_refused : (code : ConnectReturnCode) × (connects c k (Some w) b ≡ turns_away c (rejects_by k code) b)
  unfolding connects entry_fault
  will_refused = refused_by (connect_fault k (Some w))

-- what comes of a Subscribe to the session
pub part_allowed : (u : ℕ) (rs : List Rights) (s : Subscribe) → may_do (Some u) rs (packets.Subscribe (part_of (Some u) rs s)) ≡ true
part_allowed u rs s = all_filtered (may_subscribe (Some u) rs) s.filters

-- the session of another user
pub other_refused : (c i : ℕ) (k : Connect) (will : Option LastWill) (b : Broker) → (length k.client_id.bytes == 0) ≡ false → number_of k.client_id b.members ≡ Some i → is_same (user_at c b) (owner_at i b.members) ≡ false → admits c k will b ≡ turns_away c (rejects_by k return_codes.ClientIdentifierNotValid) b
unfolding admits
other_refused c i k will b named e h =
    ap (λ (v : Bool). if v then assigns c k will b else admits_as (number_of k.client_id b.members) c k will b) named
    ∙ ap (λ (o : Option ℕ). admits_as o c k will b) e
    ∙ ap (λ (v : Bool). if v then returns c i k will b else turns_away c (rejects_by k return_codes.ClientIdentifierNotValid) b) h
