-- This file serves the logic alone: packets from the values of their rows.
use Rattle.std.specs.Prelude.{ℕ, ◌==◌, List, [], ◌∷◌, map, option_map, if◌then◌else◌}
use Rattle.mqtt5_base.specs.Grammar.{Found, Value, Group, optional, several, Content, number_in}
use Rattle.mqtt5_base.specs.Texts.{text_of, Utf8}
use Rattle.mqtt5_base.specs.FromValues.{qos_of, one_number, all_pairs, here_in, content_in}
use Rattle.mqtt5_base.specs.FromValues.{found_in}
use Rattle.mqtt5_subscribe.specs.declared.filter.RetainForwardRule.{RetainForwardRule}
use Rattle.mqtt5_subscribe.specs.declared.filter.RetainForwardRule.TheVariants.{OnEverySubscribe}
use Rattle.mqtt5_subscribe.specs.declared.filter.RetainForwardRule.TheVariants.{OnNewSubscribe}
use Rattle.mqtt5_subscribe.specs.declared.filter.RetainForwardRule.TheVariants.{Never}
use Rattle.mqtt5_subscribe.specs.declared.filter.Filter.{Filter}
use Rattle.mqtt5_subscribe.specs.declared.subscribe.SubscribeProperties.{SubscribeProperties}
use Rattle.mqtt5_subscribe.specs.declared.subscribe.Subscribe.{Subscribe}
use Rattle.mqtt5_base.specs.FromValues.{ack_set}
use Rattle.mqtt5_subscribe.specs.declared.suback.SubscribeReasonCode.{SubscribeReasonCode}
use Rattle.mqtt5_subscribe.specs.declared.suback.SubAck.{SubAck}
use Rattle.mqtt5_subscribe.specs.declared.unsubscribe.UnsubscribeProperties.{UnsubscribeProperties}
use Rattle.mqtt5_subscribe.specs.declared.unsubscribe.Unsubscribe.{Unsubscribe}
use Rattle.mqtt5_subscribe.specs.declared.unsuback.UnsubAckReason.{UnsubAckReason}
use Rattle.mqtt5_subscribe.specs.declared.unsuback.UnsubAck.{UnsubAck}
use Rattle.mqtt5_subscribe.specs.declared.suback.SubscribeReasonCode.TheVariants as answers
use Rattle.mqtt5_subscribe.specs.declared.unsuback.UnsubAckReason.TheVariants as ends

-- ---- what they share

-- the items of the list
abbrev pub items_in : List Group → List (List Value)
items_in [] = []
items_in (optional o ∷ gs) = []
items_in (several items ∷ gs) = items

-- ---- Subscribe

-- the retain handling option of a number
abbrev pub rule_of : ℕ → RetainForwardRule
rule_of n = if n == 1 then OnNewSubscribe else (if n == 2 then Never else OnEverySubscribe)

-- the filter of an item's values
abbrev pub filter_of : List Value → Filter
filter_of vs = record {
  path = text_of (content_in vs 0);
  qos = qos_of (number_in vs 1);
  nolocal = number_in vs 2 == 1;
  preserve_retain = number_in vs 3 == 1;
  retain_forward_rule = rule_of (number_in vs 4);
}

-- the properties of their values
abbrev pub subscribe_set : Found → SubscribeProperties
subscribe_set f = record {
  id = one_number (here_in f 0);
  user_properties = all_pairs (here_in f 1);
}

-- the Subscribe of the row's values
abbrev pub subscribe_of : Content → Subscribe
subscribe_of c = record {
  pkid = number_in c.0 0;
  filters = map filter_of (items_in c.1);
  properties = option_map subscribe_set (found_in c.0 1);
}

-- ---- SubAck

-- the reason of a code (3.9.3)
abbrev pub suback_reason : ℕ → SubscribeReasonCode
suback_reason n =
    if n == 128 then answers.Unspecified
    else if n == 131 then answers.ImplementationSpecific
    else if n == 135 then answers.NotAuthorized
    else if n == 143 then answers.TopicFilterInvalid
    else if n == 145 then answers.PkidInUse
    else if n == 151 then answers.QuotaExceeded
    else if n == 158 then answers.SharedSubscriptionsNotSupported
    else if n == 161 then answers.SubscriptionIdNotSupported
    else if n == 162 then answers.WildcardSubscriptionsNotSupported
    else answers.Success (qos_of n)

-- the reason of an item's values
abbrev pub suback_reason_in : List Value → SubscribeReasonCode
suback_reason_in vs = suback_reason (number_in vs 0)

-- the SubAck of the row's values
abbrev pub suback_of : Content → SubAck
suback_of c = record {
  pkid = number_in c.0 0;
  return_codes = map suback_reason_in (items_in c.1);
  properties = option_map ack_set (found_in c.0 1);
}

-- ---- Unsubscribe

-- the filter of an item's values
abbrev pub path_of : List Value → Utf8
path_of vs = text_of (content_in vs 0)

-- the properties of their values
abbrev pub unsubscribe_set : Found → UnsubscribeProperties
unsubscribe_set f = record { user_properties = all_pairs (here_in f 0) }

-- the Unsubscribe of the row's values
abbrev pub unsubscribe_of : Content → Unsubscribe
unsubscribe_of c = record {
  pkid = number_in c.0 0;
  filters = map path_of (items_in c.1);
  properties = option_map unsubscribe_set (found_in c.0 1);
}

-- ---- UnsubAck

-- the reason of a code (3.11.3)
abbrev pub unsuback_reason : ℕ → UnsubAckReason
unsuback_reason n =
    if n == 17 then ends.NoSubscriptionExisted
    else if n == 128 then ends.UnspecifiedError
    else if n == 131 then ends.ImplementationSpecificError
    else if n == 135 then ends.NotAuthorized
    else if n == 143 then ends.TopicFilterInvalid
    else if n == 145 then ends.PacketIdentifierInUse
    else ends.Success

-- the reason of an item's values
abbrev pub unsuback_reason_in : List Value → UnsubAckReason
unsuback_reason_in vs = unsuback_reason (number_in vs 0)

-- the UnsubAck of the row's values
abbrev pub unsuback_of : Content → UnsubAck
unsuback_of c = record {
  pkid = number_in c.0 0;
  reasons = map unsuback_reason_in (items_in c.1);
  properties = option_map ack_set (found_in c.0 1);
}
