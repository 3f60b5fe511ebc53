-- Whole frames: the first byte, the remaining length and the body (MQTT 5.0 sections 2.1 and 3).
use Rattle.std.specs.Prelude.{◌≡◌, ℕ, ◌/◌, Bool, true, false, not, ◌&&◌, List, ◌∷◌, ◌++◌, length}
use Rattle.std.specs.Prelude.{Some, None, ◌==◌, ◌⊎◌}
use Rattle.mqtt5_base.specs.declared.error.Error.{Error}
use Rattle.mqtt5_base.specs.declared.error.Error.TheVariants.{InvalidPacketType, PayloadRequired}
use Rattle.mqtt5_base.specs.VarInt.{VarInt}
use Rattle.mqtt5_base.specs.Grammar.{entry_of, Row, Content}
use Rattle.mqtt5_base.specs.Fields.{IsRow}
use Rattle.mqtt5_base.specs.Faults.{RowFault}

-- a table has the row of each packet type that is read (2.1.2)
abbrev pub Rows : Type 0
Rows = List (ℕ × Row)

-- whether a body is missing that the type needs (3)
abbrev pub lacks_body : Row → List ℕ → Bool
lacks_body row body = length body == 0 && not row.bare

-- The frame's type, in the high half of its first byte (2.1.2), has a row, and the body is that
-- row's of the packet (3); bytes after the last field are ignored.
abbrev pub IsFrame : Rows → ℕ → List ℕ → Content → Type 0
IsFrame rows first body p =
    (row : Row) × (entry_of rows (first / 16) ≡ Some row) × (lacks_body row body ≡ false)
    × (rest : List ℕ) × IsRow row first (length body) body p rest

-- no type that is read (2.1.2), no body where one is needed, or the row's first fault (3)
abbrev pub FrameFault : Rows → ℕ → List ℕ → Error → Type 0
FrameFault rows first body e =
    ((entry_of rows (first / 16) ≡ None) × (e ≡ InvalidPacketType (first / 16)))
    ⊎ ((row : Row) × (entry_of rows (first / 16) ≡ Some row)
    × (((lacks_body row body ≡ true) × (e ≡ PayloadRequired))
    ⊎ ((lacks_body row body ≡ false) × RowFault row first (length body) body e)))

-- these bytes are a first byte, the length of the body and the body (2.1)
abbrev pub IsWhole : List ℕ → ℕ → List ℕ → Type 0
IsWhole frame first body =
    (len : List ℕ) × (frame ≡ first ∷ (len ++ body)) × VarInt len (length body)
