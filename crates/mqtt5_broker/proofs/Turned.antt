-- What turns that are given and taken make of sessions: a list of events, by which nobody has another subscription.
use Rattle.std.proofs.Common.{◌≡◌, ℕ, Bool, true, false, List, [], ◌∷◌, ◌++◌, Option, Some, None, refl, sym, subst, ap, ◌∙◌, if◌then◌else◌, length, inl, inr}
use Rattle.std.specs.Prelude.{option_map}
use Rattle.std.specs.Str.{is_utf8}
use Rattle.std.proofs.lemmas.List.Elements.{All-cons, All-head, All-tail}
use Rattle.mqtt5_base.specs.Texts.{Utf8}
use Rattle.mqtt5_codec.specs.declared.packet.Packet.{Packet}
use Rattle.mqtt5_codec.specs.declared.packet.Packet.TheVariants as packets
use Rattle.mqtt5_network.specs.declared.subscription.Share.{Share}
use Rattle.mqtt5_network.specs.declared.subscription.Subscription.{Subscription}
use Rattle.mqtt5_network.specs.Subscriptions.{is_of, pattern_in, pattern_of, with_turn, turned}
use Rattle.mqtt5_sessions.specs.Sessions.{Sessions, with_client, with_turn_of, turns}
use Rattle.mqtt5_sessions.specs.Runs.{SessionEvent, Turns, after_event, after_events}
use Rattle.mqtt5_broker.specs.Rights.{is_within}
use Rattle.mqtt5_broker.specs.Groups.{Group, turns_of, turns_first, gives_all, meets, turns_met, rotated_for, turned_for, sessions_turned, groups_before, sessions_before, regroups, regrouped, named_in, gives_if, sessions_after, left_in, sessions_without}
use Rattle.mqtt5_broker.specs.Within.{subscriptions_in, subscriptions_at, AreWithin}
use Rattle.mqtt5_broker.proofs.Clients.{Changed, changed, changes_count, changes_subscriptions}

-- ---- any property that a turn keeps

module _ (P : Sessions → Type 0) (keeps : (i : ℕ) (f : Utf8) (on : Bool) (s : Sessions) → P s → P (turns i f on s)) where
  of_kept : (ms : List ℕ) (f : Utf8) (on : Bool) (s : Sessions) → P s → P (turns_of ms f on s)
  of_kept [] f on s p = p
  of_kept (i ∷ ms) f on s p = keeps i f on s p

  pub all_kept : (gs : List Group) (s : Sessions) → P s → P (gives_all gs s)
  all_kept [] s p = p
  all_kept (g ∷ gs) s p = all_kept gs (turns_first true g s) (of_kept g.members g.topic_filter true s p)

  pub met_kept : (on : Bool) (t : List ℕ) (gs : List Group) (s : Sessions) → P s → P (turns_met on t gs s)
  met_kept on t [] s p = p
  met_kept on t (g ∷ gs) s p = met_kept on t gs (if meets t g then turns_first on g s else s) (by (meets t g))
    where
      by : (v : Bool) → P (if v then turns_first on g s else s)
      by true = of_kept g.members g.topic_filter on s p
      by false = p

  turned_kept : (t : List ℕ) (gs : List Group) (s : Sessions) → P s → P (sessions_turned t gs s)
  turned_kept t gs s p = by (is_utf8 t)
    where
      taken : Sessions
      taken = turns_met false t gs s

      by : (v : Bool) → P (if v then turned_for t gs s else s)
      by true = met_kept true t (rotated_for t gs s) taken (met_kept false t gs s p)
      by false = p

  pub before_kept : (x : Packet) (gs : List Group) (s : Sessions) → P s → P (sessions_before x gs s)
  before_kept (packets.Publish p) gs s q = turned_kept p.topic gs s q
  before_kept other gs s q = q

  pub after_kept : (answered : Bool) (i : ℕ) (x : Packet) (gs : List Group) (s : Sessions) → P s → P (sessions_after answered i x gs s)
  after_kept answered i x gs s p = by (regroups x) answered
    where
      named : List Group
      named = named_in x (regrouped i x gs)

      by : (v a : Bool) → P (if v then gives_if a named s else s)
      by true true = all_kept named s p
      by true false = p
      by false a = p

  pub without_kept : (i : ℕ) (gs : List Group) (s : Sessions) → P s → P (sessions_without i gs s)
  without_kept i gs s p = all_kept (left_in i gs) s p

-- ---- events

pub events_append : (es fs : List SessionEvent) (s : Sessions) → after_events (es ++ fs) s ≡ after_events fs (after_events es s)
events_append [] fs s = refl
events_append (e ∷ es) fs s = events_append es fs (after_event e s)

-- events make the one of the other
abbrev pub Makes : Sessions → Sessions → Type 0
Makes s t = (es : List SessionEvent) × (t ≡ after_events es s)

pub makes_turn : (s : Sessions) (i : ℕ) (f : Utf8) (on : Bool) (t : Sessions) → Makes s t → Makes s (turns i f on t)
makes_turn s i f on t m = (m.0 ++ Turns i f on ∷ [], ap (turns i f on) m.1 ∙ sym (events_append m.0 (Turns i f on ∷ []) s))

-- ---- subscriptions

-- these have no other patterns, and where there were none, there are none
pub record Like (s t : Sessions) : Type 0 where
  pub count : length t.clients ≡ length s.clients
  pub none : (j : ℕ) → subscriptions_at j s ≡ [] → subscriptions_at j t ≡ []
  pub within : (j : ℕ) (fs : List Utf8) → AreWithin fs (subscriptions_at j s) → AreWithin fs (subscriptions_at j t)

pub like_same : (s : Sessions) → Like s s
like_same s = record { count = refl; none = λ j e. e; within = λ j fs h. h }

turned_pattern : (on : Bool) (s : Subscription) → pattern_of (with_turn on s) ≡ pattern_of s
turned_pattern on s = by s.share
  where
    by : (o : Option Share) → pattern_in (option_map (λ (h : Share). record h { turn = on }) o) s.topic_filter ≡ pattern_in o s.topic_filter
    by None = refl
    by (Some h) = refl

abbrev In : List Utf8 → Subscription → Type 0
In fs s = is_within (pattern_of s).bytes fs ≡ true

turned_within : (f : Utf8) (on : Bool) (fs : List Utf8) (ss : List Subscription) → AreWithin fs ss → AreWithin fs (turned f on ss)
turned_within f on fs [] w = w
turned_within f on fs (s ∷ ss) w =
    All-cons (In fs) (if is_of f s then with_turn on s else s) (turned f on ss) (by (is_of f s)) (turned_within f on fs ss (All-tail (In fs) s ss w))
  where
    by : (v : Bool) → In fs (if v then with_turn on s else s)
    by true = ap (λ (p : Utf8). is_within p.bytes fs) (turned_pattern on s) ∙ All-head (In fs) s ss w
    by false = All-head (In fs) s ss w

pub like_turn : (s : Sessions) (i : ℕ) (f : Utf8) (on : Bool) (t : Sessions) → Like s t → Like s (turns i f on t)
like_turn s i f on t l = record {
  count = changes_count i (with_turn_of f on) (λ c. []) t ∙ l.count;
  none = λ j e. by_none j (l.none j e) (changed (with_turn_of f on) i j t.clients);
  within = λ j fs h. by_within j fs (l.within j fs h) (changed (with_turn_of f on) i j t.clients);
}
  where
    same : (j : ℕ) → subscriptions_at j (turns i f on t) ≡ subscriptions_in j (with_client i (with_turn_of f on) t.clients)
    same = changes_subscriptions i (with_turn_of f on) (λ c. []) t

    by_none : (j : ℕ) → subscriptions_at j t ≡ [] → Changed (with_turn_of f on) i j t.clients → subscriptions_at j (turns i f on t) ≡ []
    by_none j e (inl q) = same j ∙ q ∙ e
    by_none j e (inr q) = same j ∙ q.3 ∙ ap (turned f on) (sym q.2 ∙ e)

    by_within : (j : ℕ) (fs : List Utf8) → AreWithin fs (subscriptions_at j t) → Changed (with_turn_of f on) i j t.clients → AreWithin fs (subscriptions_at j (turns i f on t))
    by_within j fs h (inl q) = subst (AreWithin fs) (sym (same j ∙ q)) h
    by_within j fs h (inr q) = subst (AreWithin fs) (sym (same j ∙ q.3)) (turned_within f on fs (q.1).kept.subscriptions (subst (AreWithin fs) q.2 h))

-- ---- packets that change who takes part, and others

pub regrouped_before : (x : Packet) (gs : List Group) (s : Sessions) → regroups x ≡ true → (sessions_before x gs s ≡ s) × (groups_before x gs s ≡ gs)
regrouped_before (packets.Publish p) gs s e = absurd cc
regrouped_before other gs s e = (refl, refl)
