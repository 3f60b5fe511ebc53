-- The message that a client publishes first (MQTT 5.0 section 3.3).
use Rattle.std.specs.Prelude.{[], ◌∷◌, false, None}
use Rattle.mqtt5_base.specs.declared.quality.QoS.TheVariants.{AtLeastOnce}
use Rattle.mqtt5_publish.specs.declared.publish.Publish.{Publish}

-- "hi" to "a/b", at QoS 1
abbrev pub first_message : Publish
first_message = record {
  dup = false;
  qos = AtLeastOnce;
  retain = false;
  topic = 97 ∷ 47 ∷ 98 ∷ [];
  pkid = 0;
  payload = 104 ∷ 105 ∷ [];
  properties = None;
}
