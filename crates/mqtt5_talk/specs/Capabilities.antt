-- What a ConnAck says that the broker takes (MQTT 5.0 section 3.2.2.3), and what it forbids.
use Rattle.std.specs.Prelude.{◌≡◌, ◌⊎◌, ℕ, Bool, true, false, not, ◌&&◌, nat_lt, nat_eq, codes}
use Rattle.std.specs.Prelude.{List, ◌∷◌, Contains, All, Option, Some, None, is_some}
use Rattle.std.specs.Prelude.{if◌then◌else◌}
use Rattle.std.specs.List.{starts_with}
use Rattle.mqtt5_base.specs.Topics.{has_wildcards}
use Rattle.mqtt5_base.specs.Views.{qos_number}
use Rattle.mqtt5_codec.specs.declared.packet.Packet.TheVariants as packets
use Rattle.mqtt5_inflight.specs.declared.event.Event.{Event}
use Rattle.mqtt5_inflight.specs.declared.event.Event.TheVariants as events
use Rattle.mqtt5_control.specs.declared.connack.ConnAckProperties.{ConnAckProperties}
use Rattle.mqtt5_publish.specs.declared.publish.Publish.{Publish}
use Rattle.mqtt5_subscribe.specs.declared.filter.Filter.{Filter}
use Rattle.mqtt5_subscribe.specs.declared.subscribe.Subscribe.{Subscribe}
use Rattle.mqtt5_subscribe.specs.declared.subscribe.SubscribeProperties.{SubscribeProperties}
use Rattle.mqtt5_talk.specs.declared.capabilities.Capabilities.{Capabilities}
use Rattle.mqtt5_talk.specs.declared.capabilities.Forbidden.{Forbidden}
use Rattle.mqtt5_talk.specs.declared.capabilities.Forbidden.TheVariants as forbidden

-- an option of 0 says that something isn't there; without it, it is
abbrev pub is_available : Option ℕ → Bool
is_available None = true
is_available (Some n) = not (nat_eq n 0)

-- what the properties of a ConnAck say: a maximum QoS (3.2.2.3.4), whether there are retained
-- messages (3.2.2.3.5), wildcards (3.2.2.3.11), subscription identifiers (3.2.2.3.12) and shared
-- subscriptions (3.2.2.3.13), and its own keep alive (3.2.2.3.14)
abbrev pub capabilities_of : Option ConnAckProperties → Capabilities
capabilities_of None = record {
  max_qos = None;
  retain = true;
  wildcards = true;
  identifiers = true;
  shared = true;
  keep_alive = None;
}
capabilities_of (Some set) = record {
  max_qos = set.max_qos;
  retain = is_available set.retain_available;
  wildcards = is_available set.wildcard_subscription_available;
  identifiers = is_available set.subscription_identifiers_available;
  shared = is_available set.shared_subscription_available;
  keep_alive = set.server_keep_alive;
}

-- what the ConnAck says that is the first event
abbrev pub capabilities_in : List Event → Capabilities
capabilities_in (events.Incoming (packets.ConnAck ack) ∷ rest) = capabilities_of ack.properties
capabilities_in others = capabilities_of None

-- a QoS is over the maximum
abbrev pub is_over : Option ℕ → ℕ → Bool
is_over None quality = false
is_over (Some max) quality = nat_lt max quality

-- why a message may not be sent, where it may not
abbrev pub forbidden_message : Capabilities → Publish → Option Forbidden
forbidden_message c p =
    if is_over c.max_qos (qos_number p.qos) then Some (forbidden.QoS (qos_number p.qos))
    else if p.retain && not c.retain then Some forbidden.Retain
    else None

-- the filter of a shared subscription (4.8.2)
abbrev pub is_shared : List ℕ → Bool
is_shared path = starts_with nat_eq path (codes "$share/")

-- why a filter may not be subscribed to, where it may not
abbrev pub forbidden_filter : Capabilities → List ℕ → Option Forbidden
forbidden_filter c path =
    if has_wildcards path && not c.wildcards then Some forbidden.Wildcard
    else if is_shared path && not c.shared then Some forbidden.Shared
    else None

-- why the properties of a Subscribe may not be sent, where they may not
abbrev pub forbidden_identifier : Capabilities → Option SubscribeProperties → Option Forbidden
forbidden_identifier c None = None
forbidden_identifier c (Some set) =
    if is_some set.id && not c.identifiers then Some forbidden.Identifier else None

-- a Subscribe may be sent: so may each filter, and its identifier
abbrev pub IsPermitted : Capabilities → Subscribe → Type 0
IsPermitted c s =
    All (λ f. forbidden_filter c f.path.bytes ≡ None) s.filters
    × (forbidden_identifier c s.properties ≡ None)

-- it may not, for this
abbrev pub ForbidsSubscribe : Capabilities → Subscribe → Forbidden → Type 0
ForbidsSubscribe c s why =
    ((f : Filter) × Contains s.filters f × (forbidden_filter c f.path.bytes ≡ Some why))
    ⊎ (forbidden_identifier c s.properties ≡ Some why)
