-- The properties of a packet that came, and of a Publish that is asked for (MQTT 5.0 section
-- 2.2.2.2), each under its identifier.
use Rattle.std.specs.Prelude.{ℕ, List, [], ◌∷◌, Option, Some, None, option_map}
use Rattle.std.specs.Option.{option_flatten}
use Rattle.mqtt5_base.specs.Texts.{Utf8}
use Rattle.mqtt5_base.specs.Grammar.{entry_of}
use Rattle.mqtt5_base.specs.declared.ack_properties.AckProperties.{AckProperties}
use Rattle.mqtt5_publish.specs.declared.publish.PublishProperties.{PublishProperties}
use Rattle.mqtt5_control.specs.declared.connack.ConnAckProperties.{ConnAckProperties}
use Rattle.mqtt5_control.specs.declared.disconnect.DisconnectProperties.{DisconnectProperties}
use Rattle.mqtt5_control.specs.declared.auth.AuthProperties.{AuthProperties}
use Rattle.mqtt5_codec.specs.declared.packet.Packet.{Packet}
use Rattle.mqtt5_codec.specs.declared.packet.Packet.TheVariants as packets
use Rattle.mqtt5_inflight.specs.declared.event.Event.{Event}
use Rattle.mqtt5_inflight.specs.declared.event.Event.TheVariants as events
use Rattle.mqtt5_inflight.specs.declared.event.Request.{Request}
use Rattle.mqtt5_inflight.specs.declared.event.Request.TheVariants as requests

-- what a table has under an identifier, where it has it
abbrev pub at_id : {A : Type 0} → List (ℕ × Option A) → ℕ → Option A
at_id table id = option_flatten (entry_of table id)

-- what a set has that may be absent
abbrev pub of_set : {P A : Type 0} → (P → List A) → Option P → List A
of_set f None = []
of_set f (Some p) = f p

-- the bytes of a text that may be absent
abbrev pub bytes_of : Option Utf8 → Option (List ℕ)
bytes_of text = option_map (λ t. t.bytes) text

-- ---- numbers

-- of a ConnAck (3.2.2.3)
abbrev pub connack_numbers : ConnAckProperties → List (ℕ × Option ℕ)
connack_numbers p =
    (17, p.session_expiry_interval)
    ∷ (19, p.server_keep_alive)
    ∷ (33, p.receive_max)
    ∷ (34, p.topic_alias_max)
    ∷ (36, p.max_qos)
    ∷ (37, p.retain_available)
    ∷ (39, p.max_packet_size)
    ∷ (40, p.wildcard_subscription_available)
    ∷ (41, p.subscription_identifiers_available)
    ∷ (42, p.shared_subscription_available)
    ∷ []

-- of a Publish (3.3.2.3)
abbrev pub publish_numbers : PublishProperties → List (ℕ × Option ℕ)
publish_numbers p =
    (1, p.payload_format_indicator) ∷ (2, p.message_expiry_interval) ∷ (35, p.topic_alias) ∷ []

-- of a Disconnect (3.14.2.2)
abbrev pub disconnect_numbers : DisconnectProperties → List (ℕ × Option ℕ)
disconnect_numbers p = (17, p.session_expiry_interval) ∷ []

-- of a packet
abbrev pub numbers_of : Packet → List (ℕ × Option ℕ)
numbers_of (packets.ConnAck a) = of_set connack_numbers a.properties
numbers_of (packets.Publish p) = of_set publish_numbers p.properties
numbers_of (packets.Disconnect d) = of_set disconnect_numbers d.properties
numbers_of packet = []

-- ---- texts and binary data

-- of a ConnAck (3.2.2.3)
abbrev pub connack_contents : ConnAckProperties → List (ℕ × Option (List ℕ))
connack_contents p =
    (18, bytes_of p.assigned_client_identifier)
    ∷ (21, bytes_of p.authentication_method)
    ∷ (22, p.authentication_data)
    ∷ (26, bytes_of p.response_information)
    ∷ (28, bytes_of p.server_reference)
    ∷ (31, bytes_of p.reason_string)
    ∷ []

-- of a Publish (3.3.2.3)
abbrev pub publish_contents : PublishProperties → List (ℕ × Option (List ℕ))
publish_contents p =
    (3, bytes_of p.content_type) ∷ (8, bytes_of p.response_topic) ∷ (9, p.correlation_data) ∷ []

-- of an ack (3.4.2.2, 3.5.2.2, 3.6.2.2, 3.7.2.2, 3.9.2.1, 3.11.2.1)
abbrev pub ack_contents : AckProperties → List (ℕ × Option (List ℕ))
ack_contents p = (31, bytes_of p.reason_string) ∷ []

-- of a Disconnect (3.14.2.2)
abbrev pub disconnect_contents : DisconnectProperties → List (ℕ × Option (List ℕ))
disconnect_contents p = (28, bytes_of p.server_reference) ∷ (31, bytes_of p.reason_string) ∷ []

-- of an Auth (3.15.2.2)
abbrev pub auth_contents : AuthProperties → List (ℕ × Option (List ℕ))
auth_contents p = (21, bytes_of p.method) ∷ (22, p.auth_data) ∷ (31, bytes_of p.reason) ∷ []

-- of a packet
abbrev pub contents_of : Packet → List (ℕ × Option (List ℕ))
contents_of (packets.ConnAck a) = of_set connack_contents a.properties
contents_of (packets.Publish p) = of_set publish_contents p.properties
contents_of (packets.PubAck a) = of_set ack_contents a.properties
contents_of (packets.PubRec a) = of_set ack_contents a.properties
contents_of (packets.PubRel a) = of_set ack_contents a.properties
contents_of (packets.PubComp a) = of_set ack_contents a.properties
contents_of (packets.SubAck a) = of_set ack_contents a.properties
contents_of (packets.UnsubAck a) = of_set ack_contents a.properties
contents_of (packets.Disconnect d) = of_set disconnect_contents d.properties
contents_of (packets.Auth a) = of_set auth_contents a.properties
contents_of packet = []

-- ---- lists

-- the user properties of a packet (2.2.2.2), in their order
abbrev pub pairs_of : Packet → List (Utf8 × Utf8)
pairs_of (packets.ConnAck a) = of_set (λ p. p.user_properties) a.properties
pairs_of (packets.Publish p) = of_set (λ s. s.user_properties) p.properties
pairs_of (packets.PubAck a) = of_set (λ p. p.user_properties) a.properties
pairs_of (packets.PubRec a) = of_set (λ p. p.user_properties) a.properties
pairs_of (packets.PubRel a) = of_set (λ p. p.user_properties) a.properties
pairs_of (packets.PubComp a) = of_set (λ p. p.user_properties) a.properties
pairs_of (packets.SubAck a) = of_set (λ p. p.user_properties) a.properties
pairs_of (packets.UnsubAck a) = of_set (λ p. p.user_properties) a.properties
pairs_of (packets.Disconnect d) = of_set (λ p. p.user_properties) d.properties
pairs_of (packets.Auth a) = of_set (λ p. p.user_properties) a.properties
pairs_of packet = []

-- the identifiers of the subscriptions that a Publish matches (3.3.2.3.8)
abbrev pub subscriptions_of : Packet → List ℕ
subscriptions_of (packets.Publish p) = of_set (λ s. s.subscription_identifiers) p.properties
subscriptions_of packet = []

-- ---- of an event: those of the packet that came

abbrev pub number_in : Event → ℕ → Option ℕ
number_in (events.Incoming packet) id = at_id (numbers_of packet) id
number_in (events.Outgoing o) id = None

abbrev pub content_in : Event → ℕ → Option (List ℕ)
content_in (events.Incoming packet) id = at_id (contents_of packet) id
content_in (events.Outgoing o) id = None

abbrev pub pairs_in : Event → List (Utf8 × Utf8)
pairs_in (events.Incoming packet) = pairs_of packet
pairs_in (events.Outgoing o) = []

abbrev pub subscriptions_in : Event → List ℕ
subscriptions_in (events.Incoming packet) = subscriptions_of packet
subscriptions_in (events.Outgoing o) = []

-- ---- of a request: those of the Publish that it asks for

abbrev pub number_asked : Request → ℕ → Option ℕ
number_asked (requests.Publish p) id = at_id (of_set publish_numbers p.properties) id
number_asked request id = None

abbrev pub content_asked : Request → ℕ → Option (List ℕ)
content_asked (requests.Publish p) id = at_id (of_set publish_contents p.properties) id
content_asked request id = None

abbrev pub pairs_asked : Request → List (Utf8 × Utf8)
pairs_asked (requests.Publish p) = of_set (λ s. s.user_properties) p.properties
pairs_asked request = []
