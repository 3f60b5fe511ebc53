-- What a source gives that adds properties to the messages of another.
use Rattle.std.specs.Prelude.{◌≡◌, Option, option_map}
use Rattle.mqtt5_publish.specs.declared.publish.Publish.{Publish}
use Rattle.mqtt5_publish.specs.declared.publish.PublishProperties.{PublishProperties}

-- a message with these properties (MQTT 5.0 section 3.3.2.3)
abbrev pub with_properties : Option PublishProperties → Publish → Publish
with_properties set p = record p { properties = set }

-- the source below gave a message, and this is that message with these properties; or neither is
-- there
abbrev pub GivesWith : {S : Type 0} → (S → Option Publish → S → Type 0) → Option PublishProperties
    → S → Option Publish → S → Type 0
GivesWith gives set s message t =
    (plain : Option Publish) × gives s plain t × (message ≡ option_map (with_properties set) plain)
