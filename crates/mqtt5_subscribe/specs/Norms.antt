-- What Subscribe, SubAck, Unsubscribe and UnsubAck are read as after they were written (MQTT 5.0
-- sections 2.2.2.1 and 3.9.3).
use Rattle.std.specs.Prelude.{map}
use Rattle.mqtt5_base.specs.Tidy.{tidy}
use Rattle.mqtt5_base.specs.AckSets.{ack_found}
use Rattle.mqtt5_subscribe.specs.declared.subscribe.Subscribe.{Subscribe}
use Rattle.mqtt5_subscribe.specs.declared.suback.SubAck.{SubAck}
use Rattle.mqtt5_subscribe.specs.declared.unsubscribe.Unsubscribe.{Unsubscribe}
use Rattle.mqtt5_subscribe.specs.declared.unsuback.UnsubAck.{UnsubAck}
use Rattle.mqtt5_subscribe.specs.Subscribes.{subscribe_found}
use Rattle.mqtt5_subscribe.specs.SubAcks.{suback_settled}
use Rattle.mqtt5_subscribe.specs.Unsubscribes.{unsubscribe_found}

-- an empty property set is none (2.2.2.1)
abbrev pub subscribe_norm : Subscribe → Subscribe
subscribe_norm p = record p { properties = tidy subscribe_found p.properties }

-- the same, and a failure is read as unspecified (3.9.3)
abbrev pub suback_norm : SubAck → SubAck
suback_norm p = record p {
  return_codes = map suback_settled p.return_codes;
  properties = tidy ack_found p.properties;
}

-- the same as of a Subscribe
abbrev pub unsubscribe_norm : Unsubscribe → Unsubscribe
unsubscribe_norm p = record p { properties = tidy unsubscribe_found p.properties }

-- the same as of a Subscribe
abbrev pub unsuback_norm : UnsubAck → UnsubAck
unsuback_norm p = record p { properties = tidy ack_found p.properties }
