-- The properties that have a number, and those that have bytes (MQTT 5.0 section 2.2.2.2).
use Rattle.std.specs.Prelude.{ℕ, ◌<◌, List, Option, Some, None, ⊤}
use Rattle.std.specs.Str.{IsUtf8}
use Rattle.mqtt5_base.specs.Grammar.{Kind, u8, u16, u32, varint, bytes, text, pair, kinds, entry_of}

-- a number that is a value of a kind (1.5)
abbrev pub IsNumber : Option Kind → ℕ → Type 0
IsNumber (Some u8) n = n < 256
IsNumber (Some u16) n = n < 65536
IsNumber (Some u32) n = ⊤
IsNumber (Some varint) n = n < 268435456
IsNumber other n = ⊥

-- bytes that are a value of a kind: binary data, or a text (1.5.4, 1.5.6)
abbrev pub IsContent : Option Kind → List ℕ → Type 0
IsContent (Some bytes) bs = ⊤
IsContent (Some text) bs = IsUtf8 bs
IsContent other bs = ⊥

-- a number, or bytes, that the property with an identifier may have
abbrev pub MayBe : ℕ → ℕ → Type 0
MayBe id n = IsNumber (entry_of kinds id) n

abbrev pub MayHave : ℕ → List ℕ → Type 0
MayHave id bs = IsContent (entry_of kinds id) bs
