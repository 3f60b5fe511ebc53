-- A client that connected as a user has subscriptions within what that user may subscribe to, whatever is called.
use Rattle.std.proofs.Common.{◌&&◌, ◌≡◌, ◌≢◌, ℕ, zero, suc, Bool, true, false, List, [], ◌∷◌, ◌++◌, Option, Some, None, refl, sym, subst, ap, ◌∙◌, set, slice_set, if◌then◌else◌, cond, not, length, ◌==◌, ◌⊎◌, inl, inr, arith}
use Rattle.std.specs.Prelude.{option_map, filter, is_none, map}
use Rattle.std.specs.List.{list_all}
use Rattle.std.specs.Option.{option_to_list}
use Rattle.std.proofs.lemmas.Bool.{and_parts, and_from}
use Rattle.std.proofs.lemmas.Option.{none-some}
use Rattle.std.proofs.lemmas.List.Elements.{All-nil, All-cons, All-append, All-filter}
use Rattle.std.proofs.lemmas.List.Quantifiers.{position-Some}
use Rattle.mqtt5_base.specs.Texts.{Utf8}
use Rattle.mqtt5_publish.specs.declared.publish.Publish.{Publish}
use Rattle.mqtt5_subscribe.specs.declared.filter.Filter.{Filter}
use Rattle.mqtt5_codec.specs.declared.packet.Packet.{Packet}
use Rattle.mqtt5_codec.specs.declared.packet.Packet.TheVariants as packets
use Rattle.mqtt5_connect.specs.declared.connect.Connect.{Connect}
use Rattle.mqtt5_connect.specs.declared.will.LastWill.{LastWill}
use Rattle.mqtt5_control.specs.declared.connack.ConnectReturnCode.{ConnectReturnCode}
use Rattle.mqtt5_control.specs.declared.connack.ConnectReturnCode.TheVariants as return_codes
use Rattle.mqtt5_control.specs.declared.disconnect.DisconnectReasonCode.{DisconnectReasonCode}
use Rattle.mqtt5_control.specs.declared.disconnect.DisconnectReasonCode.TheVariants as reasons
use Rattle.mqtt5_network.specs.Connection.{is_sending}
use Rattle.mqtt5_network.specs.declared.subscription.Subscription.{Subscription}
use Rattle.mqtt5_network.specs.Subscriptions.{is_of, subscribed, unsubscribed, pattern_of}
use Rattle.mqtt5_network.specs.Asking.{is_ack, identifier_of, subscription_of, subscribed_all, unsubscribed_all, subscriptions_after}
use Rattle.mqtt5_network.specs.Client.{Client, comes_to}
use Rattle.mqtt5_network.specs.Retained.{copies_for}
use Rattle.mqtt5_network.specs.Place.{message_of}
use Rattle.mqtt5_network.specs.declared.event.Will.{Will}
use Rattle.mqtt5_router.specs.Kept.{without_events, kept_of, alone, after_packet}
use Rattle.mqtt5_sessions.specs.Sessions.{Sessions, ClientState, new_state, gets, with_client, arrives, replies, passed, passes, takes_out, loses, is_due, leaves, comes, ends}
use Rattle.mqtt5_sessions.specs.Shedding.{surplus_of, taken_out}
use Rattle.mqtt5_sessions.specs.Counts.{counts}
use Rattle.mqtt5_sessions.specs.Expiry.{will_expiry, will_is_delayed}
use Rattle.mqtt5_broker.specs.declared.member.Member.{Member}
use Rattle.mqtt5_broker.specs.declared.serving.Kind.{Kind}
use Rattle.mqtt5_broker.specs.declared.serving.Kind.TheVariants as kinds
use Rattle.mqtt5_broker.specs.Moments.{has_come}
use Rattle.mqtt5_broker.specs.Cut.{Cut, Ending, Holds, Breaks, cut_up}
use Rattle.mqtt5_broker.specs.Rights.{Rights, rights_at, is_within, asked_pattern, may_subscribe, may_do, denial, suback_for, part_of}
use Rattle.mqtt5_broker.specs.Groups.{Group, groups_before, sessions_before, groups_after, sessions_after, groups_without, sessions_without}
use Rattle.mqtt5_broker.specs.Connection.{Connection, closed, opened, shut, told, heard, taken_by, learned, learned_topic, written, written_all, holding, emptied, connection_at, connection_of}
use Rattle.mqtt5_broker.specs.Broker.{Broker, at_moment, on_connection, on_member, away, gone, expiring, undue, member_at, has_ended, will_is_due, forgets, loses_client, leaves_client, publishes_will, stays_at, sessions_dated, refuses, dismisses, dismisses_of, numbers, number_in, free_number, number_of, assigned_name, number_after, user_at, owner_of, owner_at}
use Rattle.mqtt5_broker.specs.Wills.{will_of}
use Rattle.mqtt5_broker.specs.Bounds.{has_room, exceeds, ends_of, ends_over, sheds_of, trims, trims_at}
use Rattle.mqtt5_broker.specs.Aliases.{alias_used, unaliased, named}
use Rattle.mqtt5_broker.specs.Serving.{answers, kind_of, comes_to_session, arrives_from, denies, brings, goes, disconnects, serves_as, serves_by, fault_of, serves, rejects_by, receive_max_of, longest_of, silence_of, member_of, welcome, comes_in, displaced, displaces, starts_anew, begins, returns, enters, turns_away, enters_if_room, assigns_by, assigns, is_its, admits_as, admits, entry_fault, connects_by, connects, begins_with, takes_under, takes_by, takes_of, takes, first_is_over, passes_of, passes_on, passes_at}
use Rattle.mqtt5_broker.specs.Expiry.{begun, dated, counted}
use Rattle.mqtt5_broker.specs.Receiving.{takes_all, reason_for, ends_with, receives_now, receives, opens, closes_of, closes_now, closes}
use Rattle.mqtt5_broker.specs.Clock.{for_each, silences, silences_all, expires, ticks, ends_now, shuts_down}
use Rattle.mqtt5_broker.specs.Standing.{client_at, IsHere, IsStanding}
use Rattle.mqtt5_broker.specs.Within.{subscriptions_in, subscriptions_at, AreWithin, IsWithin}
use Rattle.mqtt5_broker.proofs.Standing.{nobody, heard_client, on_less, takes_standing}
use Rattle.mqtt5_broker.proofs.Clients.{Changed, changed, emptied_or, changes_count, changes_subscriptions, Fewer, out_fewer, loses_fewer, due_fewer, dates_fewer, leaves_fewer, comes_fewer, ended_state, ends_fewer, passes_fewer, pushed_subscriptions}
use Rattle.mqtt5_broker.proofs.Turned.{Like, like_same, like_turn, before_kept, after_kept, without_kept}

abbrev In : List Utf8 → Subscription → Type 0
In fs s = is_within (pattern_of s).bytes fs ≡ true

-- ---- what changes of a broker

-- its sessions have no more
fewer_within : (b : Broker) (t : Sessions) → Fewer b.sessions t → IsWithin b → IsWithin (record b { sessions = t })
fewer_within b t h w = record {
  numbers = h.count ∙ w.numbers;
  none = λ j e. by_none j e (h.each j);
  within = λ j u e. by_within j u e (h.each j);
}
  where
    by_none : (j : ℕ) → member_at j b.members ≡ None → (subscriptions_at j t ≡ []) ⊎ (subscriptions_at j t ≡ subscriptions_at j b.sessions) → subscriptions_at j t ≡ []
    by_none j e (inl q) = q
    by_none j e (inr q) = q ∙ w.none j e

    by_within : (j u : ℕ) → owner_at j b.members ≡ Some u → (subscriptions_at j t ≡ []) ⊎ (subscriptions_at j t ≡ subscriptions_at j b.sessions) → AreWithin (rights_at u b.rights).subscribes (subscriptions_at j t)
    by_within j u e (inl q) = subst (AreWithin (rights_at u b.rights).subscribes) (sym q) (All-nil (In (rights_at u b.rights).subscribes))
    by_within j u e (inr q) = subst (AreWithin (rights_at u b.rights).subscribes) (sym q) (w.within j u e)

-- its sessions have no others
like_within : (b : Broker) (t : Sessions) → Like b.sessions t → IsWithin b → IsWithin (record b { sessions = t })
like_within b t l w = record {
  numbers = l.count ∙ w.numbers;
  none = λ j e. l.none j (w.none j e);
  within = λ j u e. l.within j (rights_at u b.rights).subscribes (w.within j u e);
}

-- others take part in shared subscriptions
grouped_within : (b : Broker) (gs : List Group) → IsWithin b → IsWithin (record b { groups = gs })
grouped_within b gs w = record { numbers = w.numbers; none = w.none; within = w.within }

-- its clients are of the same users, and no fewer
pub record Alike (ms ns : List (Option Member)) : Type 0 where
  pub count : length ns ≡ length ms
  pub none : (j : ℕ) → member_at j ns ≡ None → member_at j ms ≡ None
  pub owner : (j : ℕ) → owner_at j ns ≡ owner_at j ms

alike_within : (b : Broker) (ns : List (Option Member)) → Alike b.members ns → IsWithin b → IsWithin (record b { members = ns })
alike_within b ns a w = record {
  numbers = w.numbers ∙ sym a.count;
  none = λ j e. w.none j (a.none j e);
  within = λ j u e. w.within j u (sym (a.owner j) ∙ e);
}

alike_first : (x y : Option Member) (ms : List (Option Member)) → (y ≡ None → x ≡ None) → owner_of y ≡ owner_of x → Alike (x ∷ ms) (y ∷ ms)
alike_first x y ms h k = record { count = refl; none = none; owner = owner }
  where
    none : (j : ℕ) → member_at j (y ∷ ms) ≡ None → member_at j (x ∷ ms) ≡ None
    none zero e = h e
    none (suc j) e = e

    owner : (j : ℕ) → owner_at j (y ∷ ms) ≡ owner_at j (x ∷ ms)
    owner zero = k
    owner (suc j) = refl

alike_more : (x : Option Member) (ms ns : List (Option Member)) → Alike ms ns → Alike (x ∷ ms) (x ∷ ns)
alike_more x ms ns a = record { count = ap suc a.count; none = none; owner = owner }
  where
    none : (j : ℕ) → member_at j (x ∷ ns) ≡ None → member_at j (x ∷ ms) ≡ None
    none zero e = e
    none (suc j) e = a.none j e

    owner : (j : ℕ) → owner_at j (x ∷ ns) ≡ owner_at j (x ∷ ms)
    owner zero = refl
    owner (suc j) = a.owner j

alike_same : (ms : List (Option Member)) → Alike ms ms
alike_same ms = record { count = refl; none = λ j e. e; owner = λ j. refl }

-- one says something else
alike_set : (i : ℕ) (ms : List (Option Member)) (m : Member) → m.owner ≡ owner_at i ms → Alike ms (set ms i (Some m))
alike_set i [] m h = alike_same []
alike_set zero (x ∷ ms) m h = alike_first x (Some m) ms (λ e. absurd (none-some m (sym e))) h
alike_set (suc i) (x ∷ ms) m h = alike_more x ms (set ms i (Some m)) (alike_set i ms m h)

on_none : (f : Member → Member) (x : Option Member) → option_map f x ≡ None → x ≡ None
on_none f None e = refl
on_none f (Some m) e = absurd (none-some (f m) (sym e))

on_owner : (f : Member → Member) → ((m : Member) → (f m).owner ≡ m.owner) → (x : Option Member) → owner_of (option_map f x) ≡ owner_of x
on_owner f h None = refl
on_owner f h (Some m) = h m

alike_on : (f : Member → Member) → ((m : Member) → (f m).owner ≡ m.owner) → (i : ℕ) (ms : List (Option Member)) → Alike ms (on_member i f ms)
alike_on f h i [] = alike_same []
alike_on f h zero (x ∷ ms) = alike_first x (option_map f x) ms (on_none f x) (on_owner f h x)
alike_on f h (suc i) (x ∷ ms) = alike_more x ms (on_member i f ms) (alike_on f h i ms)

expiring_owner : (expiry : Option ℕ) (m : Member) → (expiring expiry m).owner ≡ m.owner
expiring_owner None m = refl
expiring_owner (Some n) m = refl

-- its connections are others
connected_within : (d : ℕ) (f : Connection → Connection) (b : Broker) → IsWithin b → IsWithin (on_connection d f b)
connected_within d f b w = record { numbers = w.numbers; none = w.none; within = w.within }

if_within : (v : Bool) (x y : Broker) → IsWithin x → IsWithin y → IsWithin (if v then x else y)
if_within true x y w k = w
if_within false x y w k = k

-- ---- sessions that end

set_count : (i : ℕ) (ms : List (Option Member)) (x : Option Member) → length (set ms i x) ≡ length ms
set_count i [] x = refl
set_count zero (m ∷ ms) x = refl
set_count (suc i) (m ∷ ms) x = ap suc (set_count i ms x)

set_other : (i j : ℕ) (ms : List (Option Member)) (x : Option Member) → j ≢ i → member_at j (set ms i x) ≡ member_at j ms
set_other i j [] x ne = refl
set_other zero zero (m ∷ ms) x ne = absurd (ne refl)
set_other zero (suc j) (m ∷ ms) x ne = refl
set_other (suc i) zero (m ∷ ms) x ne = refl
set_other (suc i) (suc j) (m ∷ ms) x ne = set_other i j ms x (λ e. ne (ap suc e))

abbrev Or : ℕ → ℕ → List ClientState → Type 0
Or i j cs =
    (subscriptions_in j (with_client i ended_state cs) ≡ [])
    ⊎ ((j ≢ i) × (subscriptions_in j (with_client i ended_state cs) ≡ subscriptions_in j cs))

ended_within : (i : ℕ) (b : Broker) → IsWithin b → IsWithin (record b { sessions = ends i b.sessions; members = slice_set b.members i None })
ended_within i b w =
    let s : Sessions = ends i b.sessions in
    let same : (j : ℕ) → subscriptions_at j s ≡ subscriptions_in j (with_client i ended_state b.sessions.clients) =
    changes_subscriptions i ended_state (λ (c : ClientState). message_of c.will) b.sessions in
    record {
      numbers = changes_count i ended_state (λ (c : ClientState). message_of c.will) b.sessions ∙ w.numbers ∙ sym (set_count i b.members None);
      none = λ j e. by_none j e (same j) (emptied_or ended_state (λ c. refl) i j b.sessions.clients);
      within = λ j u e. by_within j u e (same j) (emptied_or ended_state (λ c. refl) i j b.sessions.clients);
    }
  where
    by_none : (j : ℕ) → member_at j (set b.members i None) ≡ None → subscriptions_at j (ends i b.sessions) ≡ subscriptions_in j (with_client i ended_state b.sessions.clients) → Or i j b.sessions.clients → subscriptions_at j (ends i b.sessions) ≡ []
    by_none j e same (inl q) = same ∙ q
    by_none j e same (inr q) = same ∙ q.1 ∙ w.none j (sym (set_other i j b.members None q.0) ∙ e)

    by_within : (j u : ℕ) → owner_at j (set b.members i None) ≡ Some u → subscriptions_at j (ends i b.sessions) ≡ subscriptions_in j (with_client i ended_state b.sessions.clients) → Or i j b.sessions.clients → AreWithin (rights_at u b.rights).subscribes (subscriptions_at j (ends i b.sessions))
    by_within j u e same (inl q) = subst (AreWithin (rights_at u b.rights).subscribes) (sym (same ∙ q)) (All-nil (In (rights_at u b.rights).subscribes))
    by_within j u e same (inr q) = subst (AreWithin (rights_at u b.rights).subscribes) (sym (same ∙ q.1)) (w.within j u (sym (ap owner_of (set_other i j b.members None q.0)) ∙ e))

-- the lifetime of a will begins
abbrev dated_will : Bool → ℕ → Broker → Broker
dated_will any i b = record b { sessions = sessions_dated any i b }

will_within : (any : Bool) (i : ℕ) (b : Broker) → IsWithin b → IsWithin (dated_will any i b)
will_within any i b w =
    fewer_within b (sessions_dated any i b) (dates_fewer i (option_map (begun (not any && will_is_delayed i b.sessions) b.moment) (will_expiry i b.sessions)) b.sessions) w

forgets_within : (i : ℕ) (b : Broker) → IsWithin b → IsWithin (forgets i b)
unfolding forgets
forgets_within i b w =
    let s : Sessions = ends i (sessions_dated true i b) in
    let ended : Broker = record b { sessions = s; members = slice_set b.members i None } in
    grouped_within (record ended { sessions = sessions_without i b.groups s }) (groups_without i b.groups)
    (like_within ended (sessions_without i b.groups s) (without_kept (Like s) (like_turn s) i b.groups s (like_same s)) (ended_within i (dated_will true i b) (will_within true i b w)))

loses_within : (i : ℕ) (b : Broker) → IsWithin b → IsWithin (loses_client i b)
unfolding loses_client
loses_within i b w =
    if_within (stays_at i b.members) _ _
    (alike_within (record b { sessions = loses i dated_ones }) (on_member i (away b.moment) b.members) (alike_on (away b.moment) (λ m. refl) i b.members)
    (fewer_within (dated_will false i b) (loses i dated_ones) (loses_fewer i dated_ones) (will_within false i b w))) (forgets_within i b w)
  where
    dated_ones : Sessions
    dated_ones = sessions_dated false i b

leaves_within : (i : ℕ) (b : Broker) → IsWithin b → IsWithin (leaves_client i b)
unfolding leaves_client
leaves_within i b w =
    let left : Broker = record b { sessions = leaves i b.sessions } in
    let k : IsWithin left = fewer_within b (leaves i b.sessions) (leaves_fewer i b.sessions) w in
    if_within (stays_at i left.members) _ _ (alike_within left (on_member i (gone b.moment) b.members) (alike_on (gone b.moment) (λ m. refl) i b.members) k) (forgets_within i left k)

goes_within : (reason : DisconnectReasonCode) (i : ℕ) (b : Broker) → IsWithin b → IsWithin (goes reason i b)
goes_within reasons.NormalDisconnection i b w = leaves_within i b w
goes_within other i b w = loses_within i b w

publishes_within : (i : ℕ) (b : Broker) → IsWithin b → IsWithin (publishes_will i b)
unfolding publishes_will
publishes_within i b w =
    let s : Sessions = sessions_dated true i b in
    alike_within (record b { sessions = is_due i s }) (on_member i undue b.members) (alike_on undue (λ m. refl) i b.members)
    (fewer_within (dated_will true i b) (is_due i s) (due_fewer i s) (will_within true i b w))

refuses_within : (d i : ℕ) (reason : DisconnectReasonCode) (b : Broker) → IsWithin b → IsWithin (refuses d i reason b)
unfolding refuses
refuses_within d i reason b w = connected_within d (told reason) (loses_client i b) (loses_within i b w)

dismisses_of_within : (o : Option ℕ) (d : ℕ) (reason : DisconnectReasonCode) (b : Broker) → IsWithin b → IsWithin (dismisses_of o d reason b)
dismisses_of_within None d reason b w = connected_within d shut b w
dismisses_of_within (Some i) d reason b w = refuses_within d i reason b w

dismisses_within : (d : ℕ) (reason : DisconnectReasonCode) (b : Broker) → IsWithin b → IsWithin (dismisses d reason b)
unfolding dismisses
dismisses_within d reason b w = if_within (connection_at d b.connections).is_open _ _ (dismisses_of_within (connection_at d b.connections).client d reason b w) w

-- ---- subscriptions after a packet

subscribed_within : (fs : List Utf8) (k : Option ℕ) (gs : List Filter) (ss : List Subscription) → list_all (λ (g : Filter). is_within (asked_pattern g).bytes fs) gs ≡ true → AreWithin fs ss → AreWithin fs (subscribed_all k gs ss)
subscribed_within fs k [] ss h w = w
subscribed_within fs k (g ∷ gs) ss h w =
    let parts = and_parts (is_within (asked_pattern g).bytes fs) (list_all (λ (g : Filter). is_within (asked_pattern g).bytes fs) gs) h in
    let s : Subscription = subscription_of k g in
    let kept : List Subscription = unsubscribed s.topic_filter ss in
    subscribed_within fs k gs (subscribed s ss) parts.1
    (All-append (In fs) kept (s ∷ []) (All-filter (λ (x : Subscription). not (is_of s.topic_filter x)) (In fs) ss w) (All-cons (In fs) s [] parts.0 (All-nil (In fs))))

unsubscribed_within : (fs : List Utf8) (gs : List Utf8) (ss : List Subscription) → AreWithin fs ss → AreWithin fs (unsubscribed_all gs ss)
unsubscribed_within fs [] ss w = w
unsubscribed_within fs (g ∷ gs) ss w = unsubscribed_within fs gs (unsubscribed g ss) (All-filter (λ (x : Subscription). not (is_of g x)) (In fs) ss w)

after_within : (u : ℕ) (rs : List Rights) (x : Packet) (ss : List Subscription) → may_do (Some u) rs x ≡ true → AreWithin (rights_at u rs).subscribes ss → AreWithin (rights_at u rs).subscribes (subscriptions_after ss x)
after_within u rs (packets.Subscribe p) ss h w = subscribed_within (rights_at u rs).subscribes (identifier_of p.properties) p.filters ss h w
after_within u rs (packets.Unsubscribe p) ss h w = unsubscribed_within (rights_at u rs).subscribes p.filters ss w
after_within u rs other ss h w = w

comes_within : (u : ℕ) (rs : List Rights) (x : Packet) (sending ack : Bool) (c : Client) → may_do (Some u) rs x ≡ true → AreWithin (rights_at u rs).subscribes c.subscriptions → AreWithin (rights_at u rs).subscribes (comes_to sending ack c x).subscriptions
comes_within u rs x true ack c h w = w
comes_within u rs x false true c h w = w
comes_within u rs x false false c h w = after_within u rs x c.subscriptions h w

-- a packet of a client that is known asks for what its user may do
module _ (i : ℕ) (x : Packet) (b : Broker) (known : member_at i b.members ≡ None → ⊥) (may : (u : ℕ) → owner_at i b.members ≡ Some u → may_do (Some u) b.rights x ≡ true) (w : IsWithin b) where
  abbrev arrived : ClientState → ClientState
  arrived c = gets (copies_for b.sessions.retained c.kept.subscriptions x) (record c { kept = without_events (kept_of (after_packet c.kept x)) })

  abbrev handed_on : ClientState → List Publish
  handed_on c = (after_packet c.kept x).receiver.handed

  same : (j : ℕ) → subscriptions_at j (arrives i x b.sessions) ≡ subscriptions_in j (with_client i arrived b.sessions.clients)
  same = changes_subscriptions i arrived handed_on b.sessions

  arrived_none : (j : ℕ) → member_at j b.members ≡ None → Changed arrived i j b.sessions.clients → subscriptions_at j (arrives i x b.sessions) ≡ []
  arrived_none j e (inl q) = same j ∙ q ∙ w.none j e
  arrived_none j e (inr q) = absurd (known (subst (λ (n : ℕ). member_at n b.members ≡ None) q.0 e))

  arrived_within : (j u : ℕ) → owner_at j b.members ≡ Some u → Changed arrived i j b.sessions.clients → AreWithin (rights_at u b.rights).subscribes (subscriptions_at j (arrives i x b.sessions))
  arrived_within j u e (inl q) = subst (AreWithin (rights_at u b.rights).subscribes) (sym (same j ∙ q)) (w.within j u e)
  arrived_within j u e (inr q) =
      let c : ClientState = q.1 in
      let before : AreWithin (rights_at u b.rights).subscribes c.kept.subscriptions = subst (AreWithin (rights_at u b.rights).subscribes) q.2 (w.within j u e) in
      subst (AreWithin (rights_at u b.rights).subscribes) (sym (same j ∙ q.3))
      (comes_within u b.rights x (is_sending x) (is_ack x) (alone c.kept) (may u (subst (λ (n : ℕ). owner_at n b.members ≡ Some u) q.0 e)) before)

  arrives_within : IsWithin (record b { sessions = arrives i x b.sessions })
  arrives_within = record {
    numbers = changes_count i arrived handed_on b.sessions ∙ w.numbers;
    none = λ j e. arrived_none j e (changed arrived i j b.sessions.clients);
    within = λ j u e. arrived_within j u e (changed arrived i j b.sessions.clients);
  }

-- where turns are given before and after it
comes_session_within : (i : ℕ) (x : Packet) (b : Broker) → (member_at i b.members ≡ None → ⊥) → ((u : ℕ) → owner_at i b.members ≡ Some u → may_do (Some u) b.rights x ≡ true) → IsWithin b → IsWithin (comes_to_session i x b)
comes_session_within i x b known may w =
    let s : Sessions = sessions_before x b.groups b.sessions in
    let turned_first : Broker = record b { sessions = s } in
    let t : Sessions = arrives i x s in
    let came : Broker = record b { sessions = t } in
    let first : IsWithin turned_first = like_within b s (before_kept (Like b.sessions) (like_turn b.sessions) x b.groups b.sessions (like_same b.sessions)) w in
    let last : IsWithin came = arrives_within i x turned_first known may first in
    grouped_within (record b { sessions = sessions_after (answers i x b) i x (groups_before x b.groups b.sessions) t }) (groups_after (answers i x b) i x (groups_before x b.groups b.sessions))
    (like_within came (sessions_after (answers i x b) i x (groups_before x b.groups b.sessions) t) (after_kept (Like t) (like_turn t) (answers i x b) i x (groups_before x b.groups b.sessions) t (like_same t)) last)

-- ---- a client that is connected

pub all_filtered : (p : Filter → Bool) (gs : List Filter) → list_all p (filter p gs) ≡ true
all_filtered p [] = refl
all_filtered p (g ∷ gs) = by (all_filtered p gs) (p g) refl
  where
    by : list_all p (filter p gs) ≡ true → (v : Bool) → p g ≡ v → list_all p (cond v (g ∷ filter p gs) (filter p gs)) ≡ true
    by rest true e = and_from (p g) (list_all p (filter p gs)) e rest
    by rest false e = rest

part_may : (u : ℕ) (o : Option ℕ) (rs : List Rights) (gs : List Filter) → o ≡ Some u → list_all (may_subscribe (Some u) rs) (filter (may_subscribe o rs) gs) ≡ true
part_may u o rs gs e = ap (λ (v : Option ℕ). list_all (may_subscribe (Some u) rs) (filter (may_subscribe v rs) gs)) e ∙ all_filtered (may_subscribe (Some u) rs) gs

module _ (d i : ℕ) (b : Broker) (known : member_at i b.members ≡ None → ⊥) (w : IsWithin b) where
  denies_within : (x : Packet) → IsWithin (denies (owner_at i b.members) d i x b)
  unfolding denies
  denies_within (packets.Publish p) = connected_within d (written_all (option_to_list (denial p.qos p.pkid))) b w
  denies_within (packets.Subscribe p) =
      connected_within d (written (suback_for (owner_at i b.members) b.rights p)) (comes_to_session i (packets.Subscribe (part_of (owner_at i b.members) b.rights p)) b)
      (comes_session_within i (packets.Subscribe (part_of (owner_at i b.members) b.rights p)) b known (λ u e. part_may u (owner_at i b.members) b.rights p.filters e) w)
  denies_within other = w

  brings_by : (v : Bool) (x : Packet) → may_do (owner_at i b.members) b.rights x ≡ v → IsWithin (if v then arrives_from d i x b else denies (owner_at i b.members) d i x b)
  unfolding arrives_from
  brings_by true x e =
      connected_within d (written_all (map (counted b.moment) (replies i x (sessions_before x b.groups b.sessions)))) (comes_to_session i x b)
      (comes_session_within i x b known (λ u q. ap (λ (o : Option ℕ). may_do o b.rights x) (sym q) ∙ e) w)
  brings_by false x e = denies_within x

  brings_within : (x : Packet) → IsWithin (brings d i x b)
  unfolding brings
  brings_within x = brings_by (may_do (owner_at i b.members) b.rights x) x refl

  disconnects_within : (reason : DisconnectReasonCode) (expiry : Option ℕ) → IsWithin (disconnects d i reason expiry b)
  unfolding disconnects
  disconnects_within reason expiry =
      let expires_so : Broker = record b { members = on_member i (expiring expiry) b.members } in
      connected_within d shut (goes reason i expires_so)
      (goes_within reason i expires_so (alike_within b (on_member i (expiring expiry) b.members) (alike_on (expiring expiry) (expiring_owner expiry) i b.members) w))

  as_within : (kind : Kind) (x : Packet) → IsWithin (serves_as kind d i x b)
  as_within kinds.Ping x = connected_within d (written (packets.PingResp (record {}))) b w
  as_within (kinds.Goodbye reason expiry) x = disconnects_within reason expiry
  as_within kinds.Message x = brings_within x

  by_within : (fault : Option DisconnectReasonCode) (x : Packet) → IsWithin (serves_by fault d i x b)
  by_within (Some reason) x = refuses_within d i reason b w
  by_within None x = as_within (kind_of x) x

  serves_within : (x : Packet) → IsWithin (serves d i x b)
  unfolding serves
  serves_within x = by_within (fault_of i x b) x

-- ---- a Connect

comes_in_within : (d i : ℕ) (present given : Bool) (q : Connect) (will : Option LastWill) (b : Broker) → IsWithin b → IsWithin (comes_in d i present given q will b)
unfolding comes_in
comes_in_within d i present given q will b w =
    let m : Option ℕ = Some (receive_max_of q.properties) in
    let its_will : Option Will = option_map will_of will in
    connected_within d (λ (l : Connection). written_all (welcome i present given q b) (taken_by i (longest_of q.properties) (silence_of b.keep_alive_max q) b.moment l)) (record b { sessions = comes i m its_will dated_ones })
    (fewer_within (dated_will false i b) (comes i m its_will dated_ones) (comes_fewer i m its_will dated_ones) (will_within false i b w))
  where
    dated_ones : Sessions
    dated_ones = sessions_dated false i b

displaced_within : (o : Option ℕ) (b : Broker) → IsWithin b → IsWithin (displaced o b)
displaced_within None b w = w
displaced_within (Some d) b w = connected_within d (told reasons.SessionTakenOver) b w

displaces_within : (i : ℕ) (b : Broker) → IsWithin b → IsWithin (displaces i b)
unfolding displaces
displaces_within i b w = displaced_within (connection_of i b.connections) b w

begins_within : (i : ℕ) (anew : Bool) (q : Connect) (will : Option LastWill) (b : Broker) → IsWithin b → IsWithin (begins i anew q will b)
unfolding begins
begins_within i anew q will b w = by anew
  where
    m : Member
    m = member_of (owner_at i b.members) q will

    by : (v : Bool) → IsWithin (record b {
      sessions = if v then sessions_without i b.groups (ends i (sessions_dated true i b)) else b.sessions;
      members = slice_set b.members i (Some m);
      groups = if v then groups_without i b.groups else b.groups;
    })
    by true =
        let dated_ones : Sessions = sessions_dated true i b in
        let s : Sessions = ends i dated_ones in
        let t : Sessions = sessions_without i b.groups s in
        grouped_within (record b { sessions = t; members = slice_set b.members i (Some m) }) (groups_without i b.groups)
        (alike_within (record b { sessions = t }) (slice_set b.members i (Some m)) (alike_set i b.members m refl)
        (like_within (record b { sessions = s }) t (without_kept (Like s) (like_turn s) i b.groups s (like_same s)) (fewer_within (dated_will true i b) s (ends_fewer i dated_ones) (will_within true i b w))))
    by false = alike_within b (slice_set b.members i (Some m)) (alike_set i b.members m refl) w

returns_within : (d i : ℕ) (q : Connect) (will : Option LastWill) (b : Broker) → IsWithin b → IsWithin (returns d i q will b)
returns_within d i q will b w = comes_in_within d i (not (starts_anew i q b)) false q will (begins i (starts_anew i q b) q will (displaces i b)) (begins_within i (starts_anew i q b) q will (displaces i b) (displaces_within i b w))

-- one client more
pushed_count : (cs : List ClientState) (c : ClientState) (ms : List (Option Member)) (m : Option Member) → length cs ≡ length ms → length (cs ++ c ∷ []) ≡ length (ms ++ m ∷ [])
pushed_count [] c [] m e = refl
pushed_count [] c (n ∷ ms) m e = absurd (cc e)
pushed_count (x ∷ cs) c [] m e = absurd (cc e)
pushed_count (x ∷ cs) c (n ∷ ms) m e = ap suc (pushed_count cs c ms m (omega (arith, e)))

pushed_none : (m : Member) (j : ℕ) (ms : List (Option Member)) → member_at j (ms ++ Some m ∷ []) ≡ None → member_at j ms ≡ None
pushed_none m j [] e = refl
pushed_none m zero (x ∷ ms) e = e
pushed_none m (suc j) (x ∷ ms) e = pushed_none m j ms e

pushed_owner : (m : Member) (j : ℕ) (ms : List (Option Member)) → (member_at j ms ≡ None) ⊎ (owner_at j (ms ++ Some m ∷ []) ≡ owner_at j ms)
pushed_owner m j [] = inl refl
pushed_owner m zero (x ∷ ms) = inr refl
pushed_owner m (suc j) (x ∷ ms) = pushed_owner m j ms

set_none : (m : Member) (i j : ℕ) (ms : List (Option Member)) → member_at j (set ms i (Some m)) ≡ None → member_at j ms ≡ None
set_none m i j [] e = refl
set_none m zero zero (x ∷ ms) e = absurd (none-some m (sym e))
set_none m zero (suc j) (x ∷ ms) e = e
set_none m (suc i) zero (x ∷ ms) e = e
set_none m (suc i) (suc j) (x ∷ ms) e = set_none m i j ms e

set_owner : (m : Member) (i j : ℕ) (ms : List (Option Member)) → (j ≡ i) ⊎ (owner_at j (set ms i (Some m)) ≡ owner_at j ms)
set_owner m i j [] = inr refl
set_owner m zero zero (x ∷ ms) = inl refl
set_owner m zero (suc j) (x ∷ ms) = inr refl
set_owner m (suc i) zero (x ∷ ms) = inr refl
set_owner m (suc i) (suc j) (x ∷ ms) = lift (set_owner m i j ms)
  where
    lift : (j ≡ i) ⊎ (owner_at j (set ms i (Some m)) ≡ owner_at j ms) → (suc j ≡ suc i) ⊎ (owner_at (suc j) (set (x ∷ ms) (suc i) (Some m)) ≡ owner_at (suc j) (x ∷ ms))
    lift (inl e) = inl (ap suc e)
    lift (inr e) = inr e

numbers_within : (m : Member) (o : Option ℕ) (b : Broker) → free_number b.members ≡ o → IsWithin b → IsWithin (numbers m o b)
numbers_within m None b e w = record {
  numbers = pushed_count b.sessions.clients (new_state b.limit) b.members (Some m) w.numbers;
  none = λ j q. pushed_subscriptions b.limit j b.sessions.clients ∙ w.none j (pushed_none m j b.members q);
  within = λ j u q. subst (AreWithin (rights_at u b.rights).subscribes) (sym (pushed_subscriptions b.limit j b.sessions.clients)) (by j u q (pushed_owner m j b.members));
}
  where
    by : (j u : ℕ) → owner_at j (b.members ++ Some m ∷ []) ≡ Some u → (member_at j b.members ≡ None) ⊎ (owner_at j (b.members ++ Some m ∷ []) ≡ owner_at j b.members) → AreWithin (rights_at u b.rights).subscribes (subscriptions_at j b.sessions)
    by j u q (inl h) = subst (AreWithin (rights_at u b.rights).subscribes) (sym (w.none j h)) (All-nil (In (rights_at u b.rights).subscribes))
    by j u q (inr h) = w.within j u (sym h ∙ q)
numbers_within m (Some i) b e w = record {
  numbers = w.numbers ∙ sym (set_count i b.members (Some m));
  none = λ j q. w.none j (set_none m i j b.members q);
  within = λ j u q. by j u q (set_owner m i j b.members);
}
  where
    free : member_at i b.members ≡ None
    free = nobody (member_at i b.members) (position-Some is_none b.members i None e).1

    by : (j u : ℕ) → owner_at j (set b.members i (Some m)) ≡ Some u → (j ≡ i) ⊎ (owner_at j (set b.members i (Some m)) ≡ owner_at j b.members) → AreWithin (rights_at u b.rights).subscribes (subscriptions_at j b.sessions)
    by j u q (inl h) = subst (AreWithin (rights_at u b.rights).subscribes) (sym (w.none j (ap (λ (n : ℕ). member_at n b.members) h ∙ free))) (All-nil (In (rights_at u b.rights).subscribes))
    by j u q (inr h) = w.within j u (sym h ∙ q)

enters_within : (d : ℕ) (given : Bool) (q : Connect) (will : Option LastWill) (b : Broker) → IsWithin b → IsWithin (enters d given q will b)
unfolding enters
enters_within d given q will b w = comes_in_within d (number_in (free_number b.members) b) false given q will _ (numbers_within (member_of (user_at d b) q will) (free_number b.members) b refl w)

turns_within : (d : ℕ) (answer : Packet) (b : Broker) → IsWithin b → IsWithin (turns_away d answer b)
turns_within d answer b w = connected_within d (λ (l : Connection). shut (written answer l)) b w

room_within : (d : ℕ) (given : Bool) (q : Connect) (will : Option LastWill) (b : Broker) → IsWithin b → IsWithin (enters_if_room d given q will b)
room_within d given q will b w = if_within (has_room b) _ _ (enters_within d given q will b w) (turns_within d (rejects_by q return_codes.QuotaExceeded) b w)

assigns_by_within : (o : Option ℕ) (d : ℕ) (q : Connect) (will : Option LastWill) (b : Broker) → IsWithin b → IsWithin (assigns_by o d q will b)
assigns_by_within (Some i) d q will b w = turns_within d (rejects_by q return_codes.ServerBusy) b w
assigns_by_within None d q will b w = room_within d true q will b w

assigns_within : (d : ℕ) (q : Connect) (will : Option LastWill) (b : Broker) → IsWithin b → IsWithin (assigns d q will b)
unfolding assigns
assigns_within d q will b w =
    assigns_by_within (number_of (assigned_name b.next_name) b.members) d (record q { client_id = assigned_name b.next_name }) will (record b { next_name = number_after b.next_name })
    (record { numbers = w.numbers; none = w.none; within = w.within })

admits_as_within : (o : Option ℕ) (d : ℕ) (q : Connect) (will : Option LastWill) (b : Broker) → IsWithin b → IsWithin (admits_as o d q will b)
admits_as_within (Some i) d q will b w = if_within (is_its d i b) _ _ (returns_within d i q will b w) (turns_within d (rejects_by q return_codes.ClientIdentifierNotValid) b w)
admits_as_within None d q will b w = room_within d false q will b w

admits_within : (d : ℕ) (q : Connect) (will : Option LastWill) (b : Broker) → IsWithin b → IsWithin (admits d q will b)
unfolding admits
admits_within d q will b w = if_within (length q.client_id.bytes == 0) _ _ (assigns_within d q will b w) (admits_as_within (number_of q.client_id b.members) d q will b w)

connects_by_within : (o : Option ConnectReturnCode) (d : ℕ) (q : Connect) (will : Option LastWill) (b : Broker) → IsWithin b → IsWithin (connects_by o d q will b)
connects_by_within (Some code) d q will b w = turns_within d (rejects_by q code) b w
connects_by_within None d q will b w = admits_within d q will b w

connects_within : (d : ℕ) (q : Connect) (will : Option LastWill) (b : Broker) → IsWithin b → IsWithin (connects d q will b)
unfolding connects
connects_within d q will b w = connects_by_within (entry_fault d q will b) d q will b w

-- ---- any packet, and bytes

begins_with_within : (d : ℕ) (x : Packet) (b : Broker) → IsWithin b → IsWithin (begins_with d x b)
begins_with_within d (packets.Connect q will login) b w = connects_within d q will b w
begins_with_within d other b w = connected_within d shut b w

is_known : (m : Option Member) → IsHere m → m ≡ None → ⊥
is_known None h e = h
is_known (Some m) h e = none-some m (sym e)

under_within : (a d i : ℕ) (x : Packet) (b : Broker) → (member_at i b.members ≡ None → ⊥) → IsWithin b → IsWithin (takes_under a d i x b)
under_within a d i (packets.Publish p) b known w =
    if_within (length p.topic == 0) _ _ (serves_within d i b known w (packets.Publish (named (learned_topic a (connection_at d b.connections)) p)))
    (serves_within d i (on_connection d (learned a p.topic) b) known (connected_within d (learned a p.topic) b w) (packets.Publish (unaliased p)))
under_within a d i other b known w = serves_within d i b known w other

alias_within : (o : Option ℕ) (d i : ℕ) (x : Packet) (b : Broker) → (member_at i b.members ≡ None → ⊥) → IsWithin b → IsWithin (takes_by o d i x b)
alias_within None d i x b known w = serves_within d i b known w x
alias_within (Some a) d i x b known w = under_within a d i x b known w

of_within : (o : Option ℕ) (d : ℕ) (x : Packet) (b : Broker) → client_at d b.connections ≡ o → IsStanding b → IsWithin b → IsWithin (takes_of o d x b)
of_within None d x b e s w = begins_with_within d x b w
of_within (Some i) d x b e s w = alias_within (alias_used b.alias_max x) d i (dated b.moment x) b (is_known (member_at i b.members) (s.here d i e)) w

takes_within : (d : ℕ) (x : Packet) (b : Broker) → IsStanding b → IsWithin b → IsWithin (takes d x b)
unfolding takes
takes_within d x b s w =
    let b_heard : Broker = on_connection d (heard b.moment) b in
    if_within (connection_at d b.connections).is_open _ _
    (of_within (connection_at d b.connections).client d x b_heard (heard_client d b.moment b.connections) (on_less d (heard b.moment) b (λ l i h. h) s) (connected_within d (heard b.moment) b w)) w

takes_all_within : (d : ℕ) (xs : List Packet) (b : Broker) → IsStanding b → IsWithin b → IsWithin (takes_all d xs b)
takes_all_within d [] b s w = w
takes_all_within d (x ∷ xs) b s w = takes_all_within d xs (takes d x b) (takes_standing d x b s) (takes_within d x b s w)

ending_within : (d : ℕ) (ending : Ending) (b : Broker) → IsWithin b → IsWithin (ends_with d ending b)
ending_within d (Holds held) b w = connected_within d (holding held) b w
ending_within d (Breaks e) b w = dismisses_within d (reason_for e) b w

pub moment_within : (at : ℕ) (b : Broker) → IsWithin b → IsWithin (at_moment at b)
moment_within at b w = record { numbers = w.numbers; none = w.none; within = w.within }

now_within : (d : ℕ) (bytes : List ℕ) (b : Broker) → IsStanding b → IsWithin b → IsWithin (receives_now d bytes b)
unfolding receives_now
now_within d bytes b s w =
    let r : Cut = cut_up (Some b.longest) ((connection_at d b.connections).held ++ bytes) [] in
    let empty : Broker = on_connection d emptied b in
    if_within (connection_at d b.connections).is_open _ _
    (ending_within d r.ending (takes_all d r.packets empty) (takes_all_within d r.packets empty (on_less d emptied b (λ l i h. h) s) (connected_within d emptied b w))) w

pub receives_within : (at d : ℕ) (bytes : List ℕ) (b : Broker) → IsStanding b → IsWithin b → IsWithin (receives at d bytes b)
receives_within at d bytes b s w = now_within d bytes (at_moment at b) (record { one = s.one; here = s.here }) (moment_within at b w)

passes_of_within : (o : Option ℕ) (d : ℕ) (b : Broker) → IsWithin b → IsWithin (passes_of o d b)
passes_of_within None d b w = w
passes_of_within (Some i) d b w =
    if_within (first_is_over i b) _ _ (fewer_within b (takes_out i b.sessions) (out_fewer i b.sessions) w)
    (connected_within d (written_all (map (counted b.moment) (passed i b.sessions))) (record b { sessions = passes i b.sessions }) (fewer_within b (passes i b.sessions) (passes_fewer i b.sessions) w))

passes_on_within : (d : ℕ) (b : Broker) → IsWithin b → IsWithin (passes_on d b)
unfolding passes_on
passes_on_within d b w = passes_of_within (connection_at d b.connections).client d b w

pub passes_within : (at d : ℕ) (b : Broker) → IsWithin b → IsWithin (passes_at at d b)
passes_within at d b w = passes_on_within d (at_moment at b) (moment_within at b w)

-- ---- connections

pub on_within : (d : ℕ) (f : Connection → Connection) (b : Broker) → IsWithin b → IsWithin (on_connection d f b)
on_within d f b w = connected_within d f b w

pub choice_within : (v : Bool) (x y : Broker) → IsWithin x → IsWithin y → IsWithin (if v then x else y)
choice_within v x y w k = if_within v x y w k

pub opens_within : (at d : ℕ) (b : Broker) → IsWithin b → IsWithin (opens at d b)
opens_within at d b w =
    let now : Broker = at_moment at b in
    if_within (connection_at d now.connections).is_open _ _ (moment_within at b w) (connected_within d (λ (l : Connection). opened now.wait now.moment) now (moment_within at b w))

closes_of_within : (o : Option ℕ) (d : ℕ) (b : Broker) → IsWithin b → IsWithin (closes_of o d b)
closes_of_within None d b w = connected_within d (λ (l : Connection). closed) b w
closes_of_within (Some i) d b w = connected_within d (λ (l : Connection). closed) (loses_client i b) (loses_within i b w)

closes_now_within : (d : ℕ) (b : Broker) → IsWithin b → IsWithin (closes_now d b)
unfolding closes_now
closes_now_within d b w = closes_of_within (connection_at d b.connections).client d b w

pub closes_within : (at d : ℕ) (b : Broker) → IsWithin b → IsWithin (closes at d b)
closes_within at d b w = closes_now_within d (at_moment at b) (moment_within at b w)

-- ---- what is due, and what exceeds the bounds

each_within : (n : ℕ) (f : ℕ → Broker → Broker) (b : Broker) → ((i : ℕ) (c : Broker) → IsWithin c → IsWithin (f i c)) → IsWithin b → IsWithin (for_each n f b)
each_within zero f b h w = w
each_within (suc n) f b h w = h n (for_each n f b) (each_within n f b h w)

silences_within : (c : ℕ) (b : Broker) → IsWithin b → IsWithin (silences c b)
unfolding silences
silences_within c b w = if_within (has_come (connection_at c b.connections).deadline b.moment) _ _ (dismisses_within c reasons.KeepAliveTimeout b w) w

expires_within : (i : ℕ) (b : Broker) → IsWithin b → IsWithin (expires i b)
unfolding expires
expires_within i b w = if_within (has_ended b.moment (member_at i b.members)) _ _ (forgets_within i b w) (if_within (will_is_due b.moment (member_at i b.members)) _ _ (publishes_within i b w) w)

pub ticks_within : (at : ℕ) (b : Broker) → IsWithin b → IsWithin (ticks at b)
ticks_within at b w =
    let now : Broker = at_moment at b in
    each_within (length (silences_all now).members) expires (silences_all now) expires_within
    (each_within (length now.connections) silences now silences_within (moment_within at b w))

ends_of_within : (o : Option ℕ) (b : Broker) → IsWithin b → IsWithin (ends_of o b)
ends_of_within None b w = w
ends_of_within (Some c) b w = connected_within c (told reasons.QuotaExceeded) b w

sheds_within : (n i : ℕ) (b : Broker) → IsWithin b → IsWithin (record b { sessions = taken_out n i b.sessions })
sheds_within zero i b w = w
sheds_within (suc n) i b w = sheds_within n i (record b { sessions = takes_out i b.sessions }) (fewer_within b (takes_out i b.sessions) (out_fewer i b.sessions) w)

ends_over_within : (i : ℕ) (b : Broker) → IsWithin b → IsWithin (ends_over i b)
ends_over_within i b w = if_within (exceeds (counts i b.sessions) b.bounds) _ _ (ends_of_within (connection_of i b.connections) (forgets i b) (forgets_within i b w)) w

trims_within : (i : ℕ) (b : Broker) → IsWithin b → IsWithin (trims i b)
unfolding trims
trims_within i b w =
    let k = sheds_within (surplus_of b.bounds.oldest b.bounds.queued b.bounds.bytes i b.sessions) i b w in
    if_within (exceeds (counts i b.sessions) b.bounds) _ _ (ends_over_within i (sheds_of i b) (record { numbers = k.numbers; none = k.none; within = k.within })) w

pub trims_at_within : (at : ℕ) (b : Broker) → IsWithin b → IsWithin (trims_at at b)
trims_at_within at b w = each_within (length b.members) trims (at_moment at b) trims_within (moment_within at b w)

ends_now_within : (c : ℕ) (b : Broker) → IsWithin b → IsWithin (ends_now c b)
unfolding ends_now
ends_now_within c b w = dismisses_within c reasons.ServerShuttingDown b w

pub shuts_down_within : (at : ℕ) (b : Broker) → IsWithin b → IsWithin (shuts_down at b)
shuts_down_within at b w = each_within (length b.connections) ends_now (at_moment at b) ends_now_within (moment_within at b w)
