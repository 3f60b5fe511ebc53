-- This file serves the logic alone: packets from the values of their rows.
use Rattle.std.specs.Prelude.{ℕ, ◌==◌, option_map, if◌then◌else◌}
use Rattle.mqtt5_base.specs.Grammar.{Found, Content, number_in}
use Rattle.mqtt5_base.specs.FromValues.{one_text, all_pairs, here_in, found_in, qos_of, one_number}
use Rattle.mqtt5_base.specs.FromValues.{one_content, all_numbers, content_in, ack_set}
use Rattle.mqtt5_publish.specs.declared.puback.PubAckReason.{PubAckReason}
use Rattle.mqtt5_publish.specs.declared.pubrel.PubRelReason.{PubRelReason}
use Rattle.mqtt5_publish.specs.declared.puback.PubAck.{PubAck}
use Rattle.mqtt5_publish.specs.declared.pubrec.PubRec.{PubRec}
use Rattle.mqtt5_publish.specs.declared.pubrel.PubRel.{PubRel}
use Rattle.mqtt5_publish.specs.declared.pubcomp.PubComp.{PubComp}
use Rattle.mqtt5_publish.specs.declared.publish.PublishProperties.{PublishProperties}
use Rattle.mqtt5_publish.specs.declared.publish.Publish.{Publish}
use Rattle.mqtt5_publish.specs.declared.puback.PubAckReason.TheVariants as answers
use Rattle.mqtt5_publish.specs.declared.pubrel.PubRelReason.TheVariants as releases

-- ---- acks

-- the reason of a code, of a PubAck and of a PubRec (3.4.2.1, 3.5.2.1)
abbrev pub puback_reason : ℕ → PubAckReason
puback_reason n =
    if n == 16 then answers.NoMatchingSubscribers
    else if n == 128 then answers.UnspecifiedError
    else if n == 131 then answers.ImplementationSpecificError
    else if n == 135 then answers.NotAuthorized
    else if n == 144 then answers.TopicNameInvalid
    else if n == 145 then answers.PacketIdentifierInUse
    else if n == 151 then answers.QuotaExceeded
    else if n == 153 then answers.PayloadFormatInvalid
    else answers.Success

-- of a PubRel and of a PubComp (3.6.2.1, 3.7.2.1)
abbrev pub pubrel_reason : ℕ → PubRelReason
pubrel_reason n = if n == 146 then releases.PacketIdentifierNotFound else releases.Success

-- the PubAck of the row's values
abbrev pub puback_of : Content → PubAck
puback_of c = record {
  pkid = number_in c.0 0;
  reason = puback_reason (number_in c.0 1);
  properties = option_map ack_set (found_in c.0 2);
}

-- the PubRec of the row's values
abbrev pub pubrec_of : Content → PubRec
pubrec_of c = record {
  pkid = number_in c.0 0;
  reason = puback_reason (number_in c.0 1);
  properties = option_map ack_set (found_in c.0 2);
}

-- the PubRel of the row's values
abbrev pub pubrel_of : Content → PubRel
pubrel_of c = record {
  pkid = number_in c.0 0;
  reason = pubrel_reason (number_in c.0 1);
  properties = option_map ack_set (found_in c.0 2);
}

-- the PubComp of the row's values
abbrev pub pubcomp_of : Content → PubComp
pubcomp_of c = record {
  pkid = number_in c.0 0;
  reason = pubrel_reason (number_in c.0 1);
  properties = option_map ack_set (found_in c.0 2);
}

-- ---- Publish

-- the properties of their values
abbrev pub publish_set : Found → PublishProperties
publish_set f = record {
  payload_format_indicator = one_number (here_in f 0);
  message_expiry_interval = one_number (here_in f 1);
  topic_alias = one_number (here_in f 2);
  response_topic = one_text (here_in f 3);
  correlation_data = one_content (here_in f 4);
  user_properties = all_pairs (here_in f 5);
  subscription_identifiers = all_numbers (here_in f 6);
  content_type = one_text (here_in f 7);
}

-- the Publish of the row's values
abbrev pub publish_of : Content → Publish
publish_of c = record {
  dup = number_in c.0 0 == 1;
  qos = qos_of (number_in c.0 1);
  retain = number_in c.0 2 == 1;
  topic = content_in c.0 3;
  pkid = number_in c.0 4;
  payload = content_in c.0 6;
  properties = option_map publish_set (found_in c.0 5);
}
