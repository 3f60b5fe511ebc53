-- The fixed header (MQTT 5.0 section 2.1.1).
use Rattle.std.specs.Prelude.{◌≡◌, ℕ, ◌+◌, List, length, take, drop, Result, Ok, Err}
use Rattle.mqtt5_base.specs.declared.error.Error.{Error}
use Rattle.mqtt5_base.specs.declared.error.Error.TheVariants.{InvalidPacketType}
use Rattle.mqtt5_base.specs.declared.header.FixedHeader.{FixedHeader}
use Rattle.mqtt5_base.specs.declared.header.PacketType.{PacketType}
use Rattle.mqtt5_base.specs.declared.header.PacketType.TheVariants as types
use Rattle.mqtt5_base.specs.Front.{Front, Whole, front_of_error}
use Rattle.mqtt5_base.specs.Frames.{IsWhole}

-- how many bytes the frame has
abbrev pub frame_len : FixedHeader → ℕ
frame_len h = h.fixed_header_len + h.remaining_len

-- each packet type's number (2.1.2)
abbrev pub type_number : PacketType → ℕ
type_number types.Connect = 1
type_number types.ConnAck = 2
type_number types.Publish = 3
type_number types.PubAck = 4
type_number types.PubRec = 5
type_number types.PubRel = 6
type_number types.PubComp = 7
type_number types.Subscribe = 8
type_number types.SubAck = 9
type_number types.Unsubscribe = 10
type_number types.UnsubAck = 11
type_number types.PingReq = 12
type_number types.PingResp = 13
type_number types.Disconnect = 14
type_number types.Auth = 15

-- the type is that number, or there is none of it
abbrev pub IsType : Result PacketType Error → ℕ → Type 0
IsType (Ok t) n = type_number t ≡ n
IsType (Err e) n = (n ≡ 0) × (e ≡ InvalidPacketType 0)

-- a header is that of the frame: its first byte, and the lengths before and of its body
pub record IsHeader (h : FixedHeader) (frame : List ℕ) : Type 0 where
  pub whole : IsWhole frame h.byte1 (drop h.fixed_header_len frame)
  pub remaining : length (drop h.fixed_header_len frame) ≡ h.remaining_len
  pub len : length frame ≡ frame_len h

-- the frame's header, or the error of a front without one
abbrev pub Checks : Result FixedHeader Error → List ℕ → Front → Type 0
Checks (Ok h) stream f =
    (f ≡ Whole (take (frame_len h) stream) (drop (frame_len h) stream))
    × IsHeader h (take (frame_len h) stream)
Checks (Err e) stream f = f ≡ front_of_error e
