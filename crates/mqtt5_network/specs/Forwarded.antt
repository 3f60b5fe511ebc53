-- A publish as a broker forwards it (MQTT 5.0 sections 3.3.1 to 3.3.4 and 3.8.4).
use Rattle.std.specs.Prelude.{ℕ, Bool, false, List, [], ◌∷◌, Option, Some, None, option_map}
use Rattle.mqtt5_base.specs.declared.quality.QoS.{QoS}
use Rattle.mqtt5_base.specs.declared.quality.QoS.TheVariants.{AtMostOnce, AtLeastOnce, ExactlyOnce}
use Rattle.mqtt5_publish.specs.declared.publish.Publish.{Publish}
use Rattle.mqtt5_publish.specs.declared.publish.PublishProperties.{PublishProperties}
use Rattle.mqtt5_publish.specs.Publishes.{no_publish_properties}

-- the lesser of two QoS
abbrev pub lesser : QoS → QoS → QoS
lesser AtMostOnce q = AtMostOnce
lesser AtLeastOnce AtMostOnce = AtMostOnce
lesser AtLeastOnce q = AtLeastOnce
lesser ExactlyOnce q = q

-- the greater of a QoS and another one, if there is one
abbrev pub greater : QoS → Option QoS → QoS
greater q None = q
greater q (Some AtMostOnce) = q
greater AtMostOnce (Some r) = r
greater AtLeastOnce (Some r) = r
greater ExactlyOnce (Some r) = ExactlyOnce

-- without a topic alias (3.3.2.3.4) and the publisher's subscription identifiers (3.3.2.3.8)
abbrev pub passed_on : PublishProperties → PublishProperties
passed_on set = record set { topic_alias = None; subscription_identifiers = [] }

-- a publish as it is forwarded under a granted QoS: with the lesser QoS (3.8.4), its id is still to
-- be given (2.2.1), it is sent for the first time (3.3.1.1), and it isn't retained (3.3.1.3)
abbrev pub forwarded : QoS → Publish → Publish
forwarded granted p = record p {
  qos = lesser p.qos granted;
  pkid = 0;
  dup = false;
  retain = false;
  properties = option_map passed_on p.properties;
}

-- the properties that there are, or none
abbrev pub set_of : Option PublishProperties → PublishProperties
set_of None = no_publish_properties
set_of (Some set) = set

-- with these subscription identifiers (3.3.2.3.8)
abbrev pub with_identifiers : List ℕ → Option PublishProperties → Option PublishProperties
with_identifiers [] properties = properties
with_identifiers (n ∷ ns) properties =
    Some (record (set_of properties) { subscription_identifiers = n ∷ ns })

abbrev pub identified : List ℕ → Publish → Publish
identified ns p = record p { properties = with_identifiers ns p.properties }

-- whether there is one that passes a test
abbrev pub passes : (Publish → Bool) → Option Publish → Bool
passes test None = false
passes test (Some p) = test p
