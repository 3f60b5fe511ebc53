-- Each reason's code is one of its packet's.
use Rattle.std.proofs.Common.{◌≡◌, true, rules}
use Rattle.mqtt5_base.specs.Grammar.{number, passes}
use Rattle.mqtt5_subscribe.specs.declared.suback.SubscribeReasonCode.{SubscribeReasonCode}
use Rattle.mqtt5_subscribe.specs.declared.unsuback.UnsubAckReason.{UnsubAckReason}
use Rattle.mqtt5_subscribe.specs.SubAcks.{suback_code}
use Rattle.mqtt5_subscribe.specs.UnsubAcks.{unsuback_code}
use Rattle.mqtt5_subscribe.specs.Rows.{suback_codes, unsuback_codes}

pub suback_known : (r : SubscribeReasonCode) → passes suback_codes (number (suback_code r)) ≡ true
suback_known = search rules

pub unsuback_known : (r : UnsubAckReason) → passes unsuback_codes (number (unsuback_code r)) ≡ true
unsuback_known = search rules
