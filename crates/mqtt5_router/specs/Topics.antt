-- This file serves the logic alone: what is granted for a publish to a topic that was judged to be
-- text.
use Rattle.std.specs.Prelude.{ℕ, Bool, not, ◌&&◌, ◌||◌, List, [], ◌∷◌, Option, Some, None}
use Rattle.std.specs.Prelude.{if◌then◌else◌}
use Rattle.std.specs.Option.{option_to_list}
use Rattle.mqtt5_base.specs.declared.quality.QoS.{QoS}
use Rattle.mqtt5_base.specs.Topics.{topic_matches}
use Rattle.mqtt5_publish.specs.declared.publish.Publish.{Publish}
use Rattle.mqtt5_network.specs.Forwarded.{greater}
use Rattle.mqtt5_network.specs.declared.subscription.Subscription.{Subscription}
use Rattle.mqtt5_network.specs.Subscriptions.{has_turn, pattern_of, holds_for}

-- whether a subscription holds for one
abbrev pub holds_to : Bool → Subscription → List ℕ → Bool
holds_to own s topic =
    has_turn s.share && (not (own && s.no_local) && topic_matches topic (pattern_of s).bytes)

-- the identifier of a subscription that holds for a publish, if it has one
abbrev pub identifier_for : Bool → Publish → Subscription → List ℕ
identifier_for own p s = if holds_for own s p then option_to_list s.identifier else []

-- whether a subscription asks for Retain As Published, or doesn't hold for a publish
abbrev pub keeps_retain : Bool → Publish → Subscription → Bool
keeps_retain own p s = s.retain_as_published || not (holds_for own s p)

-- the greatest QoS that is granted for one, if a subscription holds for it
abbrev pub granted_to : Bool → List Subscription → List ℕ → Option QoS
granted_to own [] topic = None
granted_to own (s ∷ ss) topic =
    if holds_to own s topic then Some (greater s.granted (granted_to own ss topic))
    else granted_to own ss topic
