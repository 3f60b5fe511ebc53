-- The subscriptions of a client, and what the broker forwards to it under them (MQTT 5.0 sections
-- 3.3.4, 3.8, 3.10 and 4.8.2).
use Rattle.std.specs.Prelude.{ℕ, Bool, true, false, not, nat_eq, ◌&&◌, filter, map, List, []}
use Rattle.std.specs.Prelude.{◌∷◌, ◌++◌}
use Rattle.std.specs.Prelude.{Option, Some, None, option_map, if◌then◌else◌}
use Rattle.std.specs.List.{filter_map, list_all}
use Rattle.std.specs.Cmp.Lexicographic.{pointwise}
use Rattle.mqtt5_base.specs.Texts.{Utf8}
use Rattle.mqtt5_base.specs.declared.quality.QoS.{QoS}
use Rattle.mqtt5_publish.specs.declared.publish.Publish.{Publish}
use Rattle.mqtt5_progress.specs.Subscribers.{hits}
use Rattle.mqtt5_network.specs.Forwarded.{greater, forwarded, identified}
use Rattle.mqtt5_network.specs.declared.subscription.Share.{Share}
use Rattle.mqtt5_network.specs.declared.subscription.Subscription.{Subscription}

-- ---- how they change

-- whether a subscription is of this topic filter: their texts are the same (3.8.4)
abbrev pub is_of : Utf8 → Subscription → Bool
is_of topic_filter s = pointwise nat_eq s.topic_filter.bytes topic_filter.bytes

-- the subscriptions without the one of a filter (3.10.4)
abbrev pub unsubscribed : Utf8 → List Subscription → List Subscription
unsubscribed topic_filter ss = filter (λ s. not (is_of topic_filter s)) ss

-- with one more, which replaces the one of its filter (3.8.4)
abbrev pub subscribed : Subscription → List Subscription → List Subscription
subscribed s ss = unsubscribed s.topic_filter ss ++ s ∷ []

-- ---- shared ones

-- whether it is the client's turn, which it always is where the subscription isn't shared (4.8.2)
abbrev pub has_turn : Option Share → Bool
has_turn None = true
has_turn (Some h) = h.turn

-- the filter that topics are matched with: of a shared one that behind the share name (4.8.2)
abbrev pub pattern_in : Option Share → Utf8 → Utf8
pattern_in None topic_filter = topic_filter
pattern_in (Some h) topic_filter = h.topic_filter

abbrev pub pattern_of : Subscription → Utf8
pattern_of s = pattern_in s.share s.topic_filter

-- with its turn given to the client, or taken
abbrev pub with_turn : Bool → Subscription → Subscription
with_turn turn s = record s {
  share = option_map (λ (h : Share). record h { turn = turn }) s.share;
}

-- the subscriptions, of which the one of a filter has that
abbrev pub turned : Utf8 → Bool → List Subscription → List Subscription
turned topic_filter turn ss =
    map (λ (s : Subscription). if is_of topic_filter s then with_turn turn s else s) ss

-- without anybody's turn
abbrev pub without_turns : List Subscription → List Subscription
without_turns ss = map (with_turn false) ss

-- ---- what is forwarded under them

-- whether a subscription holds for a publish: it is the client's turn, the filter matches (4.7), and
-- the client didn't publish it itself, where it asked for No Local (3.8.3.1)
abbrev pub holds_for : Bool → Subscription → Publish → Bool
holds_for own s p =
    has_turn s.share && (not (own && s.no_local) && hits (pattern_of s ∷ []) p)

-- the greatest QoS that is granted for a publish, if a subscription holds for it (3.3.4)
abbrev pub granted_for : Bool → List Subscription → Publish → Option QoS
granted_for own [] p = None
granted_for own (s ∷ ss) p =
    if holds_for own s p then Some (greater s.granted (granted_for own ss p))
    else granted_for own ss p

-- those that hold for it
abbrev pub holding : Bool → List Subscription → Publish → List Subscription
holding own ss p = filter (λ s. holds_for own s p) ss

-- the identifiers that these have, in order (3.8.2.1.2)
abbrev pub identifiers_of : List Subscription → List ℕ
identifiers_of ss = filter_map (λ (s : Subscription). s.identifier) ss

-- whether each of them asks for Retain As Published (3.8.3.1)
abbrev pub keep_retain : List Subscription → Bool
keep_retain ss = list_all (λ (s : Subscription). s.retain_as_published) ss

-- a publish as it is forwarded under those that hold for it: with their identifiers (3.3.4), and with
-- its retain where each of them asks for that (3.3.1.3)
abbrev pub forwarded_under : List Subscription → QoS → Publish → Publish
forwarded_under ss granted p =
    identified (identifiers_of ss)
    (record (forwarded granted p) { retain = p.retain && keep_retain ss })

-- what is forwarded of it: once, at the lesser of both QoS, however many subscriptions hold for it
-- (3.3.4, 3.8.4)
abbrev pub forwarded_to : Bool → List Subscription → Publish → Option Publish
forwarded_to own ss p =
    option_map (λ q. forwarded_under (holding own ss p) q p) (granted_for own ss p)
