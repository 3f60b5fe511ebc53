-- The row of Connect (MQTT 5.0 section 3.1).
use Rattle.std.specs.Prelude.{ℕ, false, List, [], ◌∷◌}
use Rattle.mqtt5_base.specs.declared.error.Error.TheVariants.{IncorrectPacketFormat}
use Rattle.mqtt5_base.specs.declared.error.Error.TheVariants.{InvalidProtocol, InvalidProtocolLevel}
use Rattle.mqtt5_base.specs.declared.error.Error.TheVariants.{InvalidQoS}
use Rattle.mqtt5_base.specs.Grammar.{u8, u16, bytes, text, content, Entry, single, several_of}
use Rattle.mqtt5_base.specs.Grammar.{spells, plain, one, block, given, read, whole, bits, always}
use Rattle.mqtt5_base.specs.Grammar.{set, Step, field, raw, note, judge, Part, choice, filled, Row}
use Rattle.mqtt5_base.specs.Grammar.{there, bit_of, is, is_qos}

-- the properties of a Connect, in the order of writing (3.1.2.11)
abbrev pub connect_table : List Entry
connect_table =
    single 17 ∷ single 33 ∷ single 39 ∷ single 34 ∷ single 25 ∷ single 23 ∷ several_of 38
    ∷ single 21 ∷ single 22 ∷ []

-- the properties of a will (3.1.3.2)
abbrev pub will_table : List Entry
will_table = single 24 ∷ single 1 ∷ single 2 ∷ single 3 ∷ single 8 ∷ single 9 ∷ several_of 38 ∷ []

-- "MQTT" (3.1.2.1)
abbrev pub protocol : List ℕ
protocol = 77 ∷ 81 ∷ 84 ∷ 84 ∷ []

-- ---- parts, each under the connect flags at a place among the row's values (3.1.2.3)

-- without a will its QoS and its retain are 0 (3.1.2.6, 3.1.2.7)
abbrev pub no_will : List Step
no_will = judge always (bits given 8 8) (is 0) (λ _. IncorrectPacketFormat) ∷ []

-- the properties, the topic and the message; the QoS and retain of the flags (3.1.3.2 to 3.1.3.4)
abbrev pub will_steps : List Step
will_steps =
    there (block will_table)
    ∷ there (one bytes)
    ∷ there (one bytes)
    ∷ judge always (bits given 8 4) is_qos InvalidQoS
    ∷ note (bits given 8 4)
    ∷ note (bit_of given 32)
    ∷ []

-- the will where its flag is set (3.1.2.5)
abbrev pub will_part : ℕ → Part
will_part k = choice k (set (bit_of given 4)) no_will will_steps

-- the user name and the password, each where its flag is set (3.1.3.5, 3.1.3.6)
abbrev pub login_steps : List Step
login_steps =
    field (set (bit_of given 128)) (one text) (plain (content []))
    ∷ field (set (bit_of given 64)) (one text) (plain (content [])) ∷ []

-- the login; one of two empty texts is none (3.1.2.8, 3.1.2.9)
abbrev pub login_part : ℕ → Part
login_part k = filled k login_steps

-- ---- Connect (3.1)

-- what follows the flags: clean start of them, the keep alive, the properties and the client
-- identifier (3.1.2.4, 3.1.2.10, 3.1.2.11, 3.1.3.1)
abbrev pub connect_fields : List Step
connect_fields =
    note (bit_of (read 2) 2) ∷ there (one u16) ∷ there (block connect_table) ∷ there (one text) ∷ []

-- the will and then the login (3.1.3)
abbrev pub connect_parts : List Part
connect_parts = will_part 2 ∷ login_part 2 ∷ []

-- the protocol's name and version, which are judged once both are read, the flags, the fields, the
-- will and the login
abbrev pub connect_row : Row
connect_row = record {
  steps =
      raw text
      ∷ raw u8
      ∷ judge always (whole (read 0)) (spells protocol) (λ _. InvalidProtocol)
      ∷ judge always (whole (read 1)) (is 5) InvalidProtocolLevel
      ∷ raw u8
      ∷ connect_fields;
  parts = connect_parts;
  bare = false;
  brief = false;
}
