-- This file serves the logic alone: a property as its identifier and its value (MQTT 5.0 section
-- 2.2.2.2).
use Rattle.std.specs.Prelude.{ℕ}
use Rattle.mqtt5_base.specs.Grammar.{Atom, number, content, couple}
use Rattle.mqtt5_base.specs.declared.property.Property.{Property}
use Rattle.mqtt5_base.specs.declared.property.Property.TheVariants.{PayloadFormatIndicator}
use Rattle.mqtt5_base.specs.declared.property.Property.TheVariants.{MessageExpiryInterval}
use Rattle.mqtt5_base.specs.declared.property.Property.TheVariants.{ContentType, ResponseTopic}
use Rattle.mqtt5_base.specs.declared.property.Property.TheVariants.{CorrelationData}
use Rattle.mqtt5_base.specs.declared.property.Property.TheVariants.{SubscriptionIdentifier}
use Rattle.mqtt5_base.specs.declared.property.Property.TheVariants.{SessionExpiryInterval}
use Rattle.mqtt5_base.specs.declared.property.Property.TheVariants.{AssignedClientIdentifier}
use Rattle.mqtt5_base.specs.declared.property.Property.TheVariants.{ServerKeepAlive}
use Rattle.mqtt5_base.specs.declared.property.Property.TheVariants.{AuthenticationMethod}
use Rattle.mqtt5_base.specs.declared.property.Property.TheVariants.{AuthenticationData}
use Rattle.mqtt5_base.specs.declared.property.Property.TheVariants.{RequestProblemInformation}
use Rattle.mqtt5_base.specs.declared.property.Property.TheVariants.{WillDelayInterval}
use Rattle.mqtt5_base.specs.declared.property.Property.TheVariants.{RequestResponseInformation}
use Rattle.mqtt5_base.specs.declared.property.Property.TheVariants.{ResponseInformation}
use Rattle.mqtt5_base.specs.declared.property.Property.TheVariants.{ServerReference, ReasonString}
use Rattle.mqtt5_base.specs.declared.property.Property.TheVariants.{ReceiveMaximum}
use Rattle.mqtt5_base.specs.declared.property.Property.TheVariants.{TopicAliasMaximum, TopicAlias}
use Rattle.mqtt5_base.specs.declared.property.Property.TheVariants.{MaximumQos, RetainAvailable}
use Rattle.mqtt5_base.specs.declared.property.Property.TheVariants.{UserProperty, MaximumPacketSize}
use Rattle.mqtt5_base.specs.declared.property.Property.TheVariants.{WildcardSubscriptionAvailable}
use Rattle.mqtt5_base.specs.declared.property.Property.TheVariants.{SubscriptionIdentifierAvailable}
use Rattle.mqtt5_base.specs.declared.property.Property.TheVariants.{SharedSubscriptionAvailable}

-- a property's identifier, and its value
abbrev pub item_of : Property → ℕ × Atom
item_of (PayloadFormatIndicator x) = (1, number x)
item_of (MessageExpiryInterval x) = (2, number x)
item_of (ContentType x) = (3, content x.bytes)
item_of (ResponseTopic x) = (8, content x.bytes)
item_of (CorrelationData x) = (9, content x)
item_of (SubscriptionIdentifier x) = (11, number x)
item_of (SessionExpiryInterval x) = (17, number x)
item_of (AssignedClientIdentifier x) = (18, content x.bytes)
item_of (ServerKeepAlive x) = (19, number x)
item_of (AuthenticationMethod x) = (21, content x.bytes)
item_of (AuthenticationData x) = (22, content x)
item_of (RequestProblemInformation x) = (23, number x)
item_of (WillDelayInterval x) = (24, number x)
item_of (RequestResponseInformation x) = (25, number x)
item_of (ResponseInformation x) = (26, content x.bytes)
item_of (ServerReference x) = (28, content x.bytes)
item_of (ReasonString x) = (31, content x.bytes)
item_of (ReceiveMaximum x) = (33, number x)
item_of (TopicAliasMaximum x) = (34, number x)
item_of (TopicAlias x) = (35, number x)
item_of (MaximumQos x) = (36, number x)
item_of (RetainAvailable x) = (37, number x)
item_of (UserProperty k v) = (38, couple k.bytes v.bytes)
item_of (MaximumPacketSize x) = (39, number x)
item_of (WildcardSubscriptionAvailable x) = (40, number x)
item_of (SubscriptionIdentifierAvailable x) = (41, number x)
item_of (SharedSubscriptionAvailable x) = (42, number x)
