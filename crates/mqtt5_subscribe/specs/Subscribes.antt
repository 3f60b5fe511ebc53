-- A Subscribe as the values of its row (MQTT 5.0 section 3.8).
use Rattle.std.specs.Prelude.{ℕ, ◌+◌, ◌*◌, List, [], ◌∷◌, map, option_map, Result, None}
use Rattle.mqtt5_base.specs.declared.error.Error.{Error}
use Rattle.mqtt5_base.specs.Grammar.{text, number, Found, plain, one, Group, several, Part, each}
use Rattle.mqtt5_base.specs.Fields.{repeated}
use Rattle.mqtt5_base.specs.Views.{qos_number, bit, numbers, pairs, text_atom}
use Rattle.mqtt5_base.specs.Layout.{Written, WrittenPacket, all_kept, steps_writing}
use Rattle.mqtt5_subscribe.specs.declared.filter.RetainForwardRule.{RetainForwardRule}
use Rattle.mqtt5_subscribe.specs.declared.filter.RetainForwardRule.TheVariants.{OnEverySubscribe}
use Rattle.mqtt5_subscribe.specs.declared.filter.RetainForwardRule.TheVariants.{OnNewSubscribe}
use Rattle.mqtt5_subscribe.specs.declared.filter.RetainForwardRule.TheVariants.{Never}
use Rattle.mqtt5_subscribe.specs.declared.filter.Filter.{Filter}
use Rattle.mqtt5_subscribe.specs.declared.subscribe.SubscribeProperties.{SubscribeProperties}
use Rattle.mqtt5_subscribe.specs.declared.subscribe.Subscribe.{Subscribe}
use Rattle.mqtt5_subscribe.specs.Rows.{option_steps}
use Rattle.mqtt5_subscribe.specs.Lists.{listed_packet}

-- ---- a filter (3.8.3)

-- each retain handling option's number (3.8.3.1)
abbrev pub rule_number : RetainForwardRule → ℕ
rule_number OnEverySubscribe = 0
rule_number OnNewSubscribe = 1
rule_number Never = 2

-- the byte of the options, whose reserved bits are 0 (3.8.3.1)
abbrev pub filter_options : Filter → ℕ
filter_options f =
    qos_number f.qos + 4 * bit f.nolocal + 8 * bit f.preserve_retain
    + 16 * rule_number f.retain_forward_rule

-- the path and the options; the byte is written, its bits are read
abbrev pub filter_written : Filter → Written
filter_written f = record {
  raws = plain (number (filter_options f)) ∷ [];
  kept =
      plain (text_atom f.path)
      ∷ plain (number (qos_number f.qos))
      ∷ plain (number (bit f.nolocal))
      ∷ plain (number (bit f.preserve_retain))
      ∷ plain (number (rule_number f.retain_forward_rule))
      ∷ [];
}

-- filters to the end
abbrev pub filters_part : Part
filters_part = each (one text) option_steps

-- filters as they are read
abbrev pub filters_group : List Filter → Group
filters_group fs = several (all_kept (map filter_written fs))

-- a filter's bytes, or why it isn't writable
abbrev pub filter_writing : Filter → Result (List ℕ) Error
filter_writing f = steps_writing (repeated (one text) option_steps) 0 (filter_written f)

-- ---- the packet

-- the set without values (3.8.2.1)
abbrev pub no_subscribe_properties : SubscribeProperties
no_subscribe_properties = record { id = None; user_properties = [] }

-- the values of the properties (3.8.2.1)
abbrev pub subscribe_found : SubscribeProperties → Found
subscribe_found s = numbers s.id ∷ pairs s.user_properties ∷ []

-- a Subscribe as it is written; the first byte has a flag that is always set (3.8.1)
abbrev pub subscribe_packet : Subscribe → WrittenPacket
subscribe_packet p =
    listed_packet 130 p.pkid (option_map subscribe_found p.properties)
    (map filter_written p.filters)
