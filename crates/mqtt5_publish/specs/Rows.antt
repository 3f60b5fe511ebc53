-- The rows of Publish, of the acks and of the pings (MQTT 5.0 sections 3.3 to 3.7, 3.12 and 3.13).
use Rattle.std.specs.Prelude.{true, false, List, [], ◌∷◌, None}
use Rattle.mqtt5_base.specs.declared.error.Error.TheVariants.{InvalidConnectReturnCode, InvalidQoS}
use Rattle.mqtt5_base.specs.declared.error.Error.TheVariants.{PacketIdZero}
use Rattle.mqtt5_base.specs.Grammar.{u8, u16, bytes, number, Entry, single, several_of, Test}
use Rattle.mqtt5_base.specs.Grammar.{any_of, not_zero, plain, properties, one, checked, block}
use Rattle.mqtt5_base.specs.Grammar.{remainder, given, read, whole, bits, always, longer, set}
use Rattle.mqtt5_base.specs.Grammar.{field, note, judge, Row, there, bit_of, is_qos, steps_row}
use Rattle.mqtt5_base.specs.AckSets.{ack_table}

-- ---- Publish (3.3)

-- the properties of a Publish, in the order of writing (3.3.2.3)
abbrev pub publish_table : List Entry
publish_table =
    single 1 ∷ single 2 ∷ single 35 ∷ single 8 ∷ single 9 ∷ several_of 38 ∷ several_of 11 ∷ single 3
    ∷ []

-- dup, QoS and retain of the first byte, the topic, where the QoS is 1 or 2 the identifier, which
-- isn't 0 (2.2.1), the properties and the payload
abbrev pub publish_row : Row
publish_row =
    steps_row
    (note (bit_of given 8)
    ∷ note (bits given 2 4)
    ∷ note (bit_of given 1)
    ∷ judge always (whole (read 1)) is_qos InvalidQoS
    ∷ there (one bytes)
    ∷ field (set (whole (read 1))) (checked u16 not_zero (λ _. PacketIdZero)) (plain (number 0))
    ∷ there (block publish_table)
    ∷ there remainder
    ∷ [])

-- ---- PubAck, PubRec, PubRel and PubComp (3.4 to 3.7)

-- the identifier; a body of two bytes ends there, with success; the reason code; a body of three
-- bytes ends there; the properties; the reason code is judged last
abbrev pub ack_row : Test → List Entry → Row
ack_row codes table = record {
  steps =
      there (one u16)
      ∷ field (longer 2) (one u8) (plain (number 0))
      ∷ field (longer 3) (block table) (properties None)
      ∷ judge always (whole (read 1)) codes InvalidConnectReturnCode
      ∷ [];
  parts = [];
  bare = false;
  brief = true;
}

-- the reason codes of a PubAck and of a PubRec (3.4.2.1, 3.5.2.1)
abbrev pub puback_codes : Test
puback_codes = any_of (0 ∷ 16 ∷ 128 ∷ 131 ∷ 135 ∷ 144 ∷ 145 ∷ 151 ∷ 153 ∷ [])

-- those of a PubRel and of a PubComp (3.6.2.1, 3.7.2.1)
abbrev pub pubrel_codes : Test
pubrel_codes = any_of (0 ∷ 146 ∷ [])

-- PubAck and PubRec
abbrev pub puback_row : Row
puback_row = ack_row puback_codes ack_table

-- PubRel and PubComp
abbrev pub pubrel_row : Row
pubrel_row = ack_row pubrel_codes ack_table

-- ---- PingReq and PingResp (3.12, 3.13)

-- nothing; a body is ignored
abbrev pub ping_row : Row
ping_row = record { steps = []; parts = []; bare = true; brief = false }
