-- Packets are what is made again of their values.
use Rattle.std.proofs.Common.{◌≡◌, List, [], ◌∷◌, map, refl, ◌∙◌, rules}
use Rattle.mqtt5_base.specs.Codes.{text_back}
use Rattle.mqtt5_base.specs.Texts.{Utf8}
use Rattle.mqtt5_base.specs.Grammar.{Value}
use Rattle.mqtt5_base.specs.Layout.{Written, content_of_packet, all_kept}
use Rattle.mqtt5_base.proofs.ViewsBack.{qos_back, bit_back, numbers_back, pairs_back, set_back}
use Rattle.mqtt5_base.specs.AckSets.{ack_found}
use Rattle.mqtt5_base.specs.FromValues.{ack_set}
use Rattle.mqtt5_base.proofs.AckSets.{ack_set_back}
use Rattle.mqtt5_subscribe.specs.declared.filter.RetainForwardRule.{RetainForwardRule}
use Rattle.mqtt5_subscribe.specs.declared.filter.Filter.{Filter}
use Rattle.mqtt5_subscribe.specs.declared.subscribe.SubscribeProperties.{SubscribeProperties}
use Rattle.mqtt5_subscribe.specs.declared.subscribe.Subscribe.{Subscribe}
use Rattle.mqtt5_subscribe.specs.declared.suback.SubscribeReasonCode.{SubscribeReasonCode}
use Rattle.mqtt5_subscribe.specs.declared.suback.SubAck.{SubAck}
use Rattle.mqtt5_subscribe.specs.declared.unsubscribe.UnsubscribeProperties.{UnsubscribeProperties}
use Rattle.mqtt5_subscribe.specs.declared.unsubscribe.Unsubscribe.{Unsubscribe}
use Rattle.mqtt5_subscribe.specs.declared.unsuback.UnsubAckReason.{UnsubAckReason}
use Rattle.mqtt5_subscribe.specs.declared.unsuback.UnsubAck.{UnsubAck}
use Rattle.mqtt5_subscribe.specs.Subscribes.{rule_number, filter_written, subscribe_found, subscribe_packet}
use Rattle.mqtt5_subscribe.specs.FromValues.{rule_of, filter_of, subscribe_set, subscribe_of, suback_reason, suback_reason_in, suback_of, path_of, unsubscribe_set, unsubscribe_of, unsuback_reason, unsuback_reason_in, unsuback_of}
use Rattle.mqtt5_subscribe.specs.SubAcks.{suback_code, suback_item, suback_settled, suback_packet}
use Rattle.mqtt5_subscribe.specs.Unsubscribes.{path_written, unsubscribe_found, unsubscribe_packet}
use Rattle.mqtt5_subscribe.specs.UnsubAcks.{unsuback_code, unsuback_item, unsuback_packet}
use Rattle.mqtt5_subscribe.specs.Norms.{suback_norm}

-- ---- lists

-- items that are made of the values of others
items_made : {A : Type 0} (written : A → Written) (made : List Value → A) (as_read : A → A) → ((x : A) → made (written x).kept ≡ as_read x) → (xs : List A) → map made (all_kept (map written xs)) ≡ map as_read xs
items_made written made as_read back [] = refl
items_made written made as_read back (x ∷ xs) = λ i. back x i ∷ items_made written made as_read back xs i

-- items are those of their values where each is
items_back : {A : Type 0} (written : A → Written) (made : List Value → A) → ((x : A) → made (written x).kept ≡ x) → (xs : List A) → map made (all_kept (map written xs)) ≡ xs
items_back written made back [] = refl
items_back written made back (x ∷ xs) = λ i. back x i ∷ items_back written made back xs i

-- ---- Subscribe

-- a rule is that of its number
rule_back : (r : RetainForwardRule) → rule_of (rule_number r) ≡ r
rule_back = search rules

-- a filter is the one of its values
filter_back : (f : Filter) → filter_of (filter_written f).kept ≡ f
filter_back f = λ i. record {
  path = text_back f.path i;
  qos = qos_back f.qos i;
  nolocal = bit_back f.nolocal i;
  preserve_retain = bit_back f.preserve_retain i;
  retain_forward_rule = rule_back f.retain_forward_rule i;
}

-- the properties are those of their values
subscribe_set_back : (s : SubscribeProperties) → subscribe_set (subscribe_found s) ≡ s
subscribe_set_back s = λ i. record { id = numbers_back s.id i; user_properties = pairs_back s.user_properties i }

-- A Subscribe is the one of its values.
pub subscribe_back : (p : Subscribe) → subscribe_of (content_of_packet (subscribe_packet p)) ≡ p
subscribe_back p = λ i. record { pkid = p.pkid; filters = items_back filter_written filter_of filter_back p.filters i; properties = set_back subscribe_found subscribe_set subscribe_set_back p.properties i }

-- ---- SubAck

-- a reason is that of its code, but for a failure, which has the code of another
suback_reason_back : (r : SubscribeReasonCode) → suback_reason (suback_code r) ≡ suback_settled r
suback_reason_back = search rules

-- a reason that is read again is read again as itself
pub settled_twice : (r : SubscribeReasonCode) → suback_settled (suback_settled r) ≡ suback_settled r
settled_twice = search rules

-- the same of each of a list
pub all_settled_twice : (rs : List SubscribeReasonCode) → map suback_settled (map suback_settled rs) ≡ map suback_settled rs
all_settled_twice [] = refl
all_settled_twice (r ∷ rs) = λ i. settled_twice r i ∷ all_settled_twice rs i

-- A SubAck without a failure is the one of its values.
pub suback_back : (p : SubAck) → map suback_settled p.return_codes ≡ p.return_codes → suback_of (content_of_packet (suback_packet p)) ≡ p
suback_back p settled =
    let reasons = items_made suback_item suback_reason_in suback_settled suback_reason_back p.return_codes ∙ settled in
    λ i. record { pkid = p.pkid; return_codes = reasons i; properties = set_back ack_found ack_set ack_set_back p.properties i }

-- The norm of a SubAck is the one of its values.
pub suback_norm_back : (p : SubAck) → suback_of (content_of_packet (suback_packet (suback_norm p))) ≡ suback_norm p
suback_norm_back p = suback_back (suback_norm p) (all_settled_twice p.return_codes)

-- ---- Unsubscribe

-- a filter is the one of its values
path_back : (t : Utf8) → path_of (path_written t).kept ≡ t
path_back t = text_back t

-- the properties are those of their values
unsubscribe_set_back : (s : UnsubscribeProperties) → unsubscribe_set (unsubscribe_found s) ≡ s
unsubscribe_set_back s = λ i. record { user_properties = pairs_back s.user_properties i }

-- An Unsubscribe is the one of its values.
pub unsubscribe_back : (p : Unsubscribe) → unsubscribe_of (content_of_packet (unsubscribe_packet p)) ≡ p
unsubscribe_back p = λ i. record { pkid = p.pkid; filters = items_back path_written path_of path_back p.filters i; properties = set_back unsubscribe_found unsubscribe_set unsubscribe_set_back p.properties i }

-- ---- UnsubAck

-- a reason is that of its code
unsuback_reason_back : (r : UnsubAckReason) → unsuback_reason (unsuback_code r) ≡ r
unsuback_reason_back = search rules

-- An UnsubAck is the one of its values.
pub unsuback_back : (p : UnsubAck) → unsuback_of (content_of_packet (unsuback_packet p)) ≡ p
unsuback_back p = λ i. record { pkid = p.pkid; reasons = items_back unsuback_item unsuback_reason_in unsuback_reason_back p.reasons i; properties = set_back ack_found ack_set ack_set_back p.properties i }
