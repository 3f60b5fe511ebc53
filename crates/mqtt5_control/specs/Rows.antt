-- The rows of ConnAck, Disconnect and Auth (MQTT 5.0 sections 3.2, 3.14 and 3.15).
use Rattle.std.specs.Prelude.{true, false, List, [], ◌∷◌, None}
use Rattle.mqtt5_base.specs.declared.error.Error.TheVariants.{InvalidConnectReturnCode}
use Rattle.mqtt5_base.specs.declared.error.Error.TheVariants.{InvalidPacketType, MalformedPacket}
use Rattle.mqtt5_base.specs.Grammar.{u8, number, Entry, single, several_of, Test, any_of, plain}
use Rattle.mqtt5_base.specs.Grammar.{properties, one, checked, block, given, read, whole, bits}
use Rattle.mqtt5_base.specs.Grammar.{always, longer, field, raw, note, judge, Row, there, bit_of}
use Rattle.mqtt5_base.specs.Grammar.{is, steps_row}

-- ---- ConnAck (3.2)

-- the properties of a ConnAck, in the order of writing (3.2.2.3)
abbrev pub connack_table : List Entry
connack_table =
    single 17 ∷ single 33 ∷ single 36 ∷ single 37 ∷ single 39 ∷ single 18 ∷ single 34 ∷ single 31
    ∷ several_of 38 ∷ single 40 ∷ single 41 ∷ single 42
    ∷ single 19 ∷ single 26 ∷ single 28 ∷ single 21 ∷ single 22 ∷ []

-- the reason codes of a ConnAck (3.2.2.2)
abbrev pub connack_codes : Test
connack_codes =
    any_of
    (0 ∷ 128 ∷ 129 ∷ 130 ∷ 131 ∷ 132 ∷ 133 ∷ 134 ∷ 135 ∷ 136 ∷ 137 ∷ 138 ∷ 140 ∷ 144 ∷ 149 ∷ 151
    ∷ 153 ∷ 154 ∷ 155 ∷ 156 ∷ 157 ∷ 159 ∷ [])

-- the flags, of which the session present flag is kept (3.2.2.1.1), the reason code and the
-- properties; the reason code is judged last
abbrev pub connack_row : Row
connack_row =
    steps_row
    (raw u8 ∷ note (bit_of (read 0) 1) ∷ there (one u8) ∷ there (block connack_table)
    ∷ judge always (whole (read 2)) connack_codes InvalidConnectReturnCode ∷ [])

-- ---- Disconnect (3.14)

-- the properties of a Disconnect, in the order of writing (3.14.2.2)
abbrev pub disconnect_table : List Entry
disconnect_table = single 17 ∷ single 31 ∷ several_of 38 ∷ single 28 ∷ []

-- the reason codes of a Disconnect (3.14.2.1)
abbrev pub disconnect_codes : Test
disconnect_codes =
    any_of
    (0 ∷ 4 ∷ 128 ∷ 129 ∷ 130 ∷ 131 ∷ 135 ∷ 137 ∷ 139 ∷ 141 ∷ 142 ∷ 143 ∷ 144 ∷ 147 ∷ 148 ∷ 149 ∷ 150
    ∷ 151 ∷ 152 ∷ 153 ∷ 154 ∷ 155 ∷ 156 ∷ 157 ∷ 158 ∷ 159 ∷ 160 ∷ 161 ∷ 162 ∷ [])

-- the type and the flags, which are 0 (3.14.1); an empty body is a normal disconnection; the reason
-- code; a body of one byte ends there; the properties
abbrev pub disconnect_row : Row
disconnect_row = record {
  steps =
      judge always (bits given 16 16) (is 14) InvalidPacketType
      ∷ judge always (bits given 1 16) (is 0) (λ _. MalformedPacket)
      ∷ field (longer 0) (checked u8 disconnect_codes InvalidConnectReturnCode) (plain (number 0))
      ∷ field (longer 1) (block disconnect_table) (properties None)
      ∷ [];
  parts = [];
  bare = true;
  brief = true;
}

-- ---- Auth (3.15)

-- the properties of an Auth, in the order of writing (3.15.2.2)
abbrev pub auth_table : List Entry
auth_table = single 21 ∷ single 22 ∷ single 31 ∷ several_of 38 ∷ []

-- the reason codes of an Auth (3.15.2.1)
abbrev pub auth_codes : Test
auth_codes = any_of (0 ∷ 24 ∷ 25 ∷ [])

-- an empty body is success; the reason code and the properties (3.15.2.1)
abbrev pub auth_row : Row
auth_row = record {
  steps =
      field (longer 0) (checked u8 auth_codes (λ _. MalformedPacket)) (plain (number 0))
      ∷ field (longer 0) (block auth_table) (properties None) ∷ [];
  parts = [];
  bare = true;
  brief = false;
}
