-- What the reading of whole frames promises (MQTT 5.0 sections 2.1 and 3).
use Rattle.std.specs.Prelude.{ℕ, List}
use Rattle.mqtt5_base.specs.Frames.{IsWhole}
use Rattle.mqtt5_base.specs.Laws.{Reads, ExactlyOne}
use Rattle.mqtt5_codec.specs.Packets.{IsFrameOf, IsFaultOf}
use Rattle.mqtt5_codec.specs.PacketsIn.{packet_in}

-- Of every whole frame exactly one of a packet and a fault holds, and reading answers it.
pub record IsFrames : Type 0 where
  pub reads : (frame : List ℕ) (first : ℕ) (body : List ℕ) → IsWhole frame first body
      → Reads (packet_in frame) (IsFrameOf frame) (IsFaultOf frame)
  pub one : (frame : List ℕ) (first : ℕ) (body : List ℕ) → IsWhole frame first body
      → ExactlyOne (IsFrameOf frame) (IsFaultOf frame)
