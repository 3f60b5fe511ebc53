-- What a broker publishes in a client's name once its connection is lost (MQTT 5.0 sections 3.1.2.5
-- and 3.1.3.2).
use Rattle.std.specs.Prelude.{ℕ, ◌==◌, false, not, Option, Some, None, option_map}
use Rattle.mqtt5_publish.specs.declared.publish.Publish.{Publish}
use Rattle.mqtt5_publish.specs.declared.publish.PublishProperties.{PublishProperties}
use Rattle.mqtt5_publish.specs.Publishes.{no_publish_properties}
use Rattle.mqtt5_connect.specs.declared.will.LastWill.{LastWill}
use Rattle.mqtt5_connect.specs.declared.will.LastWillProperties.{LastWillProperties}
use Rattle.mqtt5_network.specs.declared.event.Will.{Will}
use Rattle.mqtt5_broker.specs.Expiry.{uncounted}

-- its properties, but for the delay
abbrev pub published_properties : LastWillProperties → PublishProperties
published_properties set = record no_publish_properties {
  payload_format_indicator = set.payload_format_indicator;
  message_expiry_interval = option_map uncounted set.message_expiry_interval;
  content_type = set.content_type;
  response_topic = set.response_topic;
  correlation_data = set.correlation_data;
  user_properties = set.user_properties;
}

-- the publish
abbrev pub published_by : LastWill → Publish
published_by w = record {
  dup = false;
  qos = w.qos;
  retain = w.retain;
  topic = w.topic;
  pkid = 0;
  payload = w.message;
  properties = option_map published_properties w.properties;
}

-- after how many seconds (3.1.3.2.2)
abbrev pub or_zero : Option ℕ → ℕ
or_zero None = 0
or_zero (Some n) = n

abbrev pub delay_of : Option LastWillProperties → ℕ
delay_of None = 0
delay_of (Some set) = or_zero set.delay_interval

-- of the will of a connection, if it has one
abbrev pub delay_in : Option LastWill → ℕ
delay_in None = 0
delay_in (Some w) = delay_of w.properties

-- the will of a connection
abbrev pub will_of : LastWill → Will
will_of w = record {
  publish = published_by w;
  delayed = not (delay_of w.properties == 0);
}
