-- The messages that a broker retains, and what a Subscribe gets of them (MQTT 5.0 sections 3.3.1.3,
-- 3.8.3.1 and 3.8.4).
use Rattle.std.specs.Prelude.{ℕ, Bool, true, false, not, nat_eq, ◌&&◌, filter, List, [], ◌∷◌}
use Rattle.std.specs.Prelude.{◌++◌, Option, Some, None, is_none, if◌then◌else◌}
use Rattle.std.specs.List.{filter_map, list_any}
use Rattle.std.specs.Option.{option_to_list}
use Rattle.std.specs.Cmp.Lexicographic.{pointwise}
use Rattle.mqtt5_base.specs.Texts.{Utf8}
use Rattle.mqtt5_publish.specs.declared.publish.Publish.{Publish}
use Rattle.mqtt5_subscribe.specs.declared.filter.Filter.{Filter}
use Rattle.mqtt5_subscribe.specs.declared.filter.RetainForwardRule.{RetainForwardRule}
use Rattle.mqtt5_subscribe.specs.declared.filter.RetainForwardRule.TheVariants as rules
use Rattle.mqtt5_codec.specs.declared.packet.Packet.{Packet}
use Rattle.mqtt5_codec.specs.declared.packet.Packet.TheVariants as packets
use Rattle.mqtt5_progress.specs.Subscribers.{hits}
use Rattle.mqtt5_network.specs.Forwarded.{forwarded, identified}
use Rattle.mqtt5_network.specs.declared.subscription.Subscription.{Subscription}
use Rattle.mqtt5_network.specs.Subscriptions.{is_of, subscribed, pattern_of}
use Rattle.mqtt5_network.specs.Asking.{identifier_of, share_of, subscription_of}

-- ---- what is retained

-- whether a publish is to this topic
abbrev pub is_to : List ℕ → Publish → Bool
is_to topic p = pointwise nat_eq p.topic topic

-- what is retained of a publish that asks for it: nothing where its payload is empty (3.3.1.3)
abbrev pub kept_of : List ℕ → Publish → List Publish
kept_of [] p = []
kept_of (b ∷ bs) p = p ∷ []

-- what is retained after one more is handed on, which replaces the one of its topic, if it asks for
-- that (3.3.1.3)
abbrev pub retains : List Publish → Publish → List Publish
retains kept p =
    if p.retain then filter (λ q. not (is_to p.topic q)) kept ++ kept_of p.payload p else kept

-- after all these, in order
abbrev pub retained_after : List Publish → List Publish → List Publish
retained_after kept [] = kept
retained_after kept (p ∷ ps) = retained_after (retains kept p) ps

-- of what was handed on
abbrev pub retained_of : List Publish → List Publish
retained_of handed = retained_after [] handed

-- ---- the last of a topic

abbrev pub some_of : List ℕ → Publish → Option Publish
some_of [] p = None
some_of (b ∷ bs) p = Some p

-- the last publish that was handed on to a topic and asks to be retained, after one more; none
-- where that is empty (3.3.1.3)
abbrev pub last_with : List ℕ → Option Publish → Publish → Option Publish
last_with topic last p = if p.retain && is_to topic p then some_of p.payload p else last

-- after all these, in order
abbrev pub last_after : List ℕ → Option Publish → List Publish → Option Publish
last_after topic last [] = last
last_after topic last (p ∷ ps) = last_after topic (last_with topic last p) ps

-- ---- copies

-- a retained message as it is copied for a subscription: with retain, at the lesser of both QoS, and
-- with its identifier (3.3.1.3, 3.3.4, 3.8.4)
abbrev pub copied_under : Subscription → Publish → Publish
copied_under s p =
    identified (option_to_list s.identifier) (record (forwarded s.granted p) { retain = true })

-- the copy, if its filter matches
abbrev pub copy_for : Subscription → Publish → Option Publish
copy_for s p = if hits (pattern_of s ∷ []) p then Some (copied_under s p) else None

-- whether a filter gets copies, by its Retain Handling: of each Subscribe, of one for a filter that
-- has no subscription yet, or never (3.8.3.1)
abbrev pub gets_copies : RetainForwardRule → Utf8 → List Subscription → Bool
gets_copies rules.OnEverySubscribe topic_filter ss = true
gets_copies rules.OnNewSubscribe topic_filter ss = not (list_any (is_of topic_filter) ss)
gets_copies rules.Never topic_filter ss = false

-- the copies of these retained messages for a filter: none for a shared subscription
abbrev pub copies_of : List Publish → Option ℕ → List Subscription → Filter → List Publish
copies_of kept identifier ss f =
    if is_none (share_of f.path) && gets_copies f.retain_forward_rule f.path ss
    then filter_map (copy_for (subscription_of identifier f)) kept else []

-- for each filter, in order
abbrev pub copies_all : List Publish → Option ℕ → List Filter → List Subscription → List Publish
copies_all kept identifier [] ss = []
copies_all kept identifier (f ∷ fs) ss =
    copies_of kept identifier ss f
    ++ copies_all kept identifier fs (subscribed (subscription_of identifier f) ss)

-- for a packet that arrives
abbrev pub copies_for : List Publish → List Subscription → Packet → List Publish
copies_for kept ss (packets.Subscribe p) =
    copies_all kept (identifier_of p.properties) p.filters ss
copies_for kept ss other = []

-- for the first of a way, if there is one
abbrev pub copies_first : List Publish → List Subscription → List Packet → List Publish
copies_first kept ss [] = []
copies_first kept ss (x ∷ way) = copies_for kept ss x
