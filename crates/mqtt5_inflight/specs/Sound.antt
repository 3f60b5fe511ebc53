-- This file serves the logic alone: the derived `==` of requests, events, slots and errors finds
-- equal values alone.
use Rattle.std.proofs.Common.{rules}
use Rattle.mqtt5_base.specs.Sound.{Sound, number_sound, option_sound, text_sound}
use Rattle.mqtt5_base.specs.Variants.{enum_sound, no_field, one_field, two_fields}
use Rattle.mqtt5_base.specs.ErrorSound.{error_sound}
use Rattle.mqtt5_publish.specs.Sound.{publish_sound, puback_sound, pubrec_sound, pubrel_sound}
use Rattle.mqtt5_publish.specs.Sound.{pubcomp_sound}
use Rattle.mqtt5_subscribe.specs.Sound.{subscribe_sound, suback_sound, unsubscribe_sound}
use Rattle.mqtt5_subscribe.specs.Sound.{unsuback_sound}
use Rattle.mqtt5_control.specs.Sound.{connack_reason_sound, disconnect_reason_sound}
use Rattle.mqtt5_codec.specs.Sound.{packet_sound}
use Rattle.mqtt5_inflight.specs.contracts.event.Request as requests
use Rattle.mqtt5_inflight.specs.contracts.event.RequestPartialEq.TheImpl as request
use Rattle.mqtt5_inflight.specs.contracts.event.Outgoing as outgoing
use Rattle.mqtt5_inflight.specs.contracts.event.OutgoingPartialEq.TheImpl as told
use Rattle.mqtt5_inflight.specs.contracts.event.Event as events
use Rattle.mqtt5_inflight.specs.contracts.event.EventPartialEq.TheImpl as event
use Rattle.mqtt5_inflight.specs.contracts.slot.Slot as slots
use Rattle.mqtt5_inflight.specs.contracts.slot.SlotPartialEq.TheImpl as slot
use Rattle.mqtt5_inflight.specs.contracts.error.StateError as faults
use Rattle.mqtt5_inflight.specs.contracts.error.StateErrorPartialEq.TheImpl as fault

pub request_sound : Sound request.eq-value.it
request_sound = enum_sound requests.enum _ (search (
  rules,
  no_field,
  one_field publish_sound,
  one_field puback_sound,
  one_field pubrec_sound,
  one_field pubrel_sound,
  one_field pubcomp_sound,
  one_field subscribe_sound,
  one_field suback_sound,
  one_field unsubscribe_sound,
  one_field unsuback_sound,
))

pub outgoing_sound : Sound told.eq-value.it
outgoing_sound = enum_sound outgoing.enum _ (search (rules, no_field, one_field number_sound))

pub event_sound : Sound event.eq-value.it
event_sound =
    enum_sound events.enum _ (search (rules, one_field packet_sound, one_field outgoing_sound))

pub slot_sound : Sound slot.eq-value.it
slot_sound = enum_sound slots.enum _ (search (rules, no_field, one_field publish_sound))

pub state_error_sound : Sound fault.eq-value.it
state_error_sound = enum_sound faults.enum _ (search (
  rules,
  no_field,
  one_field number_sound,
  one_field error_sound,
  one_field connack_reason_sound,
  two_fields number_sound number_sound,
  two_fields disconnect_reason_sound (option_sound text_sound),
))
