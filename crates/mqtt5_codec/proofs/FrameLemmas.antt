-- The first byte of a whole frame.
use Rattle.std.proofs.Common.{◌≡◌, ℕ, List, drop, ap}
use Rattle.mqtt5_base.specs.declared.header.FixedHeader.{FixedHeader}
use Rattle.mqtt5_base.specs.Frames.{IsWhole}
use Rattle.mqtt5_base.specs.Headers.{IsHeader}
use Rattle.mqtt5_codec.specs.PacketsIn.{first_of}

-- A whole frame begins with its first byte.
pub first_of_whole : (frame : List ℕ) (first : ℕ) (body : List ℕ) → IsWhole frame first body → first_of frame ≡ first
first_of_whole frame first body w = ap first_of w.1

-- A frame with a header begins with the header's first byte.
pub first_of_header : (h : FixedHeader) (frame : List ℕ) → IsHeader h frame → first_of frame ≡ h.byte1
first_of_header h frame is = first_of_whole frame h.byte1 (drop h.fixed_header_len frame) is.whole
