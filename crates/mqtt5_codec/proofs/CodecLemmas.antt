-- What a packet's own reading says of the codec's.
use Rattle.std.proofs.Common.{◌≡◌, ℕ, List, take, drop, Option, Some, None, Result, Ok, Err, ◌⊎◌, sym, ap, subst, ◌∙◌, inl, inr}
use Rattle.mqtt5_base.specs.declared.error.Error.{Error}
use Rattle.mqtt5_base.specs.declared.error.Error.TheVariants.{OutOfMemory}
use Rattle.mqtt5_base.specs.declared.header.FixedHeader.{FixedHeader}
use Rattle.mqtt5_base.specs.Headers.{IsHeader}
use Rattle.mqtt5_base.specs.Front.{Front, Whole}
use Rattle.mqtt5_base.specs.FrontAt.{front}
use Rattle.mqtt5_base.specs.Frames.{IsWhole}
use Rattle.mqtt5_base.proofs.FrontLemmas.{front_is}
use Rattle.mqtt5_codec.specs.declared.packet.Packet.{Packet}
use Rattle.mqtt5_codec.specs.Packets.{IsFrameOf, IsFaultOf}
use Rattle.mqtt5_codec.specs.PacketsIn.{packet_in}
use Rattle.mqtt5_codec.specs.Codecs.{FailsFrame, ReadsPacket, Decodes}
use Rattle.mqtt5_codec.specs.Taken.{ReadsBody}
use Rattle.mqtt5_codec.proofs.FrameLaws.{frames_read}
use Rattle.mqtt5_codec.proofs.ReadingLemmas.{frame_read, frame_fault}

-- what is said of the frame at the front is said of a whole frame
whole_at : {X : Type 0} (limit : Option ℕ) (s frame new : List ℕ) → front limit s ≡ Whole frame new → ((first : ℕ) (body : List ℕ) → IsWhole frame first body → X) → X
whole_at limit s frame new h f = let w = (front_is limit).shape s frame new h in f w.0 w.1 w.2

-- the packet of the frame that was taken out is what reading answers
pub taken_packet : (limit : Option ℕ) (s frame new : List ℕ) (p : Packet) → front limit s ≡ Whole frame new → IsFrameOf frame p → packet_in frame ≡ Ok p
taken_packet limit s frame new p h is = whole_at limit s frame new h (λ first body w. ((frames_read frame first body w).value p).1 is)

-- and so is its fault
pub taken_fault : (limit : Option ℕ) (s frame new : List ℕ) (e : Error) → front limit s ≡ Whole frame new → IsFaultOf frame e → packet_in frame ≡ Err e
taken_fault limit s frame new e h is = whole_at limit s frame new h (λ first body w. ((frames_read frame first body w).fault e).1 is)

-- a whole frame that reading answers is of that packet
pub packet_taken : (limit : Option ℕ) (s frame new : List ℕ) (p : Packet) → front limit s ≡ Whole frame new → packet_in frame ≡ Ok p → IsFrameOf frame p
packet_taken limit s frame new p h is = whole_at limit s frame new h (λ first body w. ((frames_read frame first body w).value p).0 is)

-- a frame that was taken out and read is what decoding answers
pub decoded : (limit : Option ℕ) (n : ℕ) (s new : List ℕ) (h : FixedHeader) (r : Result (Option Packet) Error) → front limit s ≡ Whole (take n s) (drop n s) → IsHeader h (take n s) → new ≡ drop n s → ReadsBody r h.byte1 (drop h.fixed_header_len (take n s)) → Decodes r limit s new
decoded limit n s new h (Ok (Some p)) f is left g = (take n s, f ∙ ap (λ rest. Whole (take n s) rest) (sym left), frame_read h (take n s) is p g)
decoded limit n s new h (Ok None) f is left g = elim g [ ]
decoded limit n s new h (Err e) f is left g = inl (by (frame_fault h (take n s) is e g))
  where
    by : IsFaultOf (take n s) e ⊎ (e ≡ OutOfMemory) → FailsFrame e limit s new
    by (inl fault) = inl (take n s, f ∙ ap (λ rest. Whole (take n s) rest) (sym left), fault)
    by (inr memory) = inr (memory, (take n s, drop n s, f, inr left))

-- where a frame is at the front, an error of decoding is one of reading
pub reads_fault : (limit : Option ℕ) (s new frame rest : List ℕ) (e : Error) → front limit s ≡ Whole frame rest → Decodes (Err e) limit s new → ReadsPacket (Err e) limit s new
reads_fault limit s new frame rest e w (inl fails) = inl fails
reads_fault limit s new frame rest e w (inr bad) = elim (subst Frameless (sym bad.0 ∙ w) (tt {0})) [ ]
  where
    Frameless : Front → Type 0
    Frameless (Whole frame rest) = ⊥
    Frameless f = Unit {0}
