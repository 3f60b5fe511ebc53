-- A Publish as the values of its row (MQTT 5.0 section 3.3).
use Rattle.std.specs.Prelude.{ℕ, ◌+◌, ◌*◌, [], ◌∷◌, option_map, None}
use Rattle.mqtt5_base.specs.Grammar.{number, content, Found, plain, properties}
use Rattle.mqtt5_base.specs.Views.{qos_number, bit, numbers, contents, texts, pairs, identifiers}
use Rattle.mqtt5_base.specs.Layout.{WrittenPacket, plainly}
use Rattle.mqtt5_publish.specs.declared.publish.PublishProperties.{PublishProperties}
use Rattle.mqtt5_publish.specs.declared.publish.Publish.{Publish}

-- the set without values (3.3.2.3)
abbrev pub no_publish_properties : PublishProperties
no_publish_properties = record {
  payload_format_indicator = None;
  message_expiry_interval = None;
  topic_alias = None;
  response_topic = None;
  correlation_data = None;
  user_properties = [];
  subscription_identifiers = [];
  content_type = None;
}

-- the values of the properties (3.3.2.3)
abbrev pub publish_found : PublishProperties → Found
publish_found s =
    numbers s.payload_format_indicator
    ∷ numbers s.message_expiry_interval
    ∷ numbers s.topic_alias
    ∷ texts s.response_topic
    ∷ contents s.correlation_data
    ∷ pairs s.user_properties
    ∷ identifiers s.subscription_identifiers
    ∷ texts s.content_type
    ∷ []

-- the type and the flags (3.3.1)
abbrev pub publish_first : Publish → ℕ
publish_first p = 48 + 8 * bit p.dup + 2 * qos_number p.qos + bit p.retain

-- a Publish as it is written: dup, QoS and retain, the topic, the identifier, the properties and
-- the payload
abbrev pub publish_packet : Publish → WrittenPacket
publish_packet p =
    plainly (publish_first p)
    (plain (number (bit p.dup))
    ∷ plain (number (qos_number p.qos))
    ∷ plain (number (bit p.retain))
    ∷ plain (content p.topic)
    ∷ plain (number p.pkid)
    ∷ properties (option_map publish_found p.properties)
    ∷ plain (content p.payload)
    ∷ [])
