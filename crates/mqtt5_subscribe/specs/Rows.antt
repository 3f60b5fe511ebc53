-- The rows of Subscribe, SubAck, Unsubscribe and UnsubAck (MQTT 5.0 sections 3.8 to 3.11).
use Rattle.std.specs.Prelude.{false, List, [], ◌∷◌}
use Rattle.mqtt5_base.specs.declared.error.Error.TheVariants.{EmptySubscription, InvalidQoS}
use Rattle.mqtt5_base.specs.declared.error.Error.TheVariants.{InvalidRetainForwardRule}
use Rattle.mqtt5_base.specs.declared.error.Error.TheVariants.{InvalidSubscribeReasonCode}
use Rattle.mqtt5_base.specs.declared.error.Error.TheVariants.{MalformedPacket}
use Rattle.mqtt5_base.specs.Grammar.{u8, u16, text, Entry, single, several_of, Test, any_of, Field}
use Rattle.mqtt5_base.specs.Grammar.{one, checked, block, read, bits, always, Step, raw, note}
use Rattle.mqtt5_base.specs.Grammar.{judge, more, each, Row, there, bit_of, is_qos}
use Rattle.mqtt5_base.specs.AckSets.{ack_table}

-- ---- what they share

-- the identifier, the properties, whether an item is wanted, and a field and steps again and again
-- to the end (3.8 to 3.11)
abbrev pub listed_row : List Entry → List Step → Field → List Step → Row
listed_row table wanted first others = record {
  steps = there (one u16) ∷ there (block table) ∷ wanted;
  parts = each first others ∷ [];
  bare = false;
  brief = false;
}

-- ---- Subscribe (3.8)

-- the properties of a Subscribe, in the order of writing (3.8.2.1)
abbrev pub subscribe_table : List Entry
subscribe_table = single 11 ∷ several_of 38 ∷ []

-- a retain handling option (3.8.3.1)
abbrev pub is_rule : Test
is_rule = any_of (0 ∷ 1 ∷ 2 ∷ [])

-- The options behind a filter's path: retain handling and then the QoS are judged; QoS, no local,
-- retain as published and retain handling are kept. The two reserved bits are ignored (3.8.3.1).
abbrev pub option_steps : List Step
option_steps =
    raw u8
    ∷ judge always (bits (read 1) 16 4) is_rule InvalidRetainForwardRule
    ∷ judge always (bits (read 1) 1 4) is_qos InvalidQoS
    ∷ note (bits (read 1) 1 4)
    ∷ note (bit_of (read 1) 4)
    ∷ note (bit_of (read 1) 8)
    ∷ note (bits (read 1) 16 4)
    ∷ []

-- a Subscribe, with one filter at least (3.8.3)
abbrev pub subscribe_row : Row
subscribe_row = listed_row subscribe_table (more EmptySubscription ∷ []) (one text) option_steps

-- ---- SubAck (3.9) and UnsubAck (3.11)

-- one reason code at least, each of which is judged (3.9.3, 3.11.3)
abbrev pub codes_row : Test → Row
codes_row codes =
    listed_row ack_table (more MalformedPacket ∷ []) (checked u8 codes InvalidSubscribeReasonCode)
    []

-- the reason codes of a SubAck (3.9.3)
abbrev pub suback_codes : Test
suback_codes = any_of (0 ∷ 1 ∷ 2 ∷ 128 ∷ 131 ∷ 135 ∷ 143 ∷ 145 ∷ 151 ∷ 158 ∷ 161 ∷ 162 ∷ [])

-- a SubAck (3.9)
abbrev pub suback_row : Row
suback_row = codes_row suback_codes

-- those of an UnsubAck (3.11.3)
abbrev pub unsuback_codes : Test
unsuback_codes = any_of (0 ∷ 17 ∷ 128 ∷ 131 ∷ 135 ∷ 143 ∷ 145 ∷ [])

-- an UnsubAck (3.11)
abbrev pub unsuback_row : Row
unsuback_row = codes_row unsuback_codes

-- ---- Unsubscribe (3.10)

-- the properties of an Unsubscribe (3.10.2.1)
abbrev pub unsubscribe_table : List Entry
unsubscribe_table = several_of 38 ∷ []

-- an Unsubscribe, also without filters, where 3.10.3 asks for one
abbrev pub unsubscribe_row : Row
unsubscribe_row = listed_row unsubscribe_table [] (one text) []
