-- The packet of a frame that was read by its type's own reader.
use Rattle.std.proofs.Common.{◌≡◌, ℕ, ◌/◌, List, drop, Some, Result, Ok, Err, IfOk, ◌⊎◌, inl, inr, refl, sym, ap, subst, ◌∙◌}
use Rattle.mqtt5_base.specs.declared.error.Error.{Error}
use Rattle.mqtt5_base.specs.declared.header.FixedHeader.{FixedHeader}
use Rattle.mqtt5_base.specs.Grammar.{Content}
use Rattle.mqtt5_base.specs.Headers.{IsHeader}
use Rattle.mqtt5_base.specs.Answers.{Gives, Says}
use Rattle.mqtt5_base.proofs.AnswersLemmas.{said}
use Rattle.mqtt5_base.specs.Reading.{◌>>=◌, frame_values}
use Rattle.mqtt5_base.proofs.HeaderLemmas.{frame_at_header}
use Rattle.mqtt5_codec.specs.declared.packet.Packet.{Packet}
use Rattle.mqtt5_codec.specs.Packets.{packet_rows, packet_type, packet_content, IsRead, IsFrameOf, IsFaultOf}
use Rattle.mqtt5_base.specs.declared.error.Error.TheVariants.{OutOfMemory, InvalidPacketType}
use Rattle.mqtt5_codec.specs.Taken.{ReadsBody}
use Rattle.mqtt5_codec.specs.PacketsIn.{packet_of, first_of, packet_in}
use Rattle.mqtt5_codec.proofs.FrameLemmas.{first_of_header}
use Rattle.mqtt5_codec.proofs.FrameLaws.{packet_back, frames_read}

-- the packet of a frame is that of its body's values
packet_in_header : (h : FixedHeader) (frame : List ℕ) → IsHeader h frame → packet_in frame ≡ (frame_values packet_rows h.byte1 (drop h.fixed_header_len frame) >>= λ c. Ok (packet_of (h.byte1 / 16) c))
unfolding packet_in
packet_in_header h frame is =
    ap (λ (r : Result Content Error). r >>= λ c. Ok (packet_of (first_of frame / 16) c)) (frame_at_header packet_rows h frame is)
    ∙ ap (λ (b : ℕ). frame_values packet_rows h.byte1 (drop h.fixed_header_len frame) >>= λ c. Ok (packet_of (b / 16) c)) (first_of_header h frame is)

-- what was read by its type's reader is the packet of the frame
packet_given : (h : FixedHeader) (frame : List ℕ) → IsHeader h frame → (r : Result Packet Error) → Gives packet_content r (frame_values packet_rows h.byte1 (drop h.fixed_header_len frame)) → IfOk r (λ p. packet_type p ≡ h.byte1 / 16) → IfOk r IsRead → Gives (λ p. p) r (packet_in frame)
packet_given h frame is (Ok p) g k known = packet_in_header h frame is ∙ rw g (ap (λ (n : ℕ). Ok (packet_of n (packet_content p))) (sym k) ∙ ap (λ (q : Packet). Ok q) (packet_back p known))
packet_given h frame is (Err e) g k known = λ none. packet_in_header h frame is ∙ rw (g none) refl

-- so the frame is of it, or the error its fault
packet_read : (h : FixedHeader) (frame : List ℕ) → IsHeader h frame → (r : Result Packet Error) → Gives packet_content r (frame_values packet_rows h.byte1 (drop h.fixed_header_len frame)) → IfOk r (λ p. packet_type p ≡ h.byte1 / 16) → IfOk r IsRead → Says (λ p. p) r (IsFrameOf frame) (IsFaultOf frame)
packet_read h frame is r g k known = said (λ p. p) r (frames_read frame h.byte1 (drop h.fixed_header_len frame) is.whole) (packet_given h frame is r g k known)

-- an error is want of memory, or isn't
memory_or : {A : Type 0} (e : Error) → ((e ≡ OutOfMemory → ⊥) → A) → A ⊎ (e ≡ OutOfMemory)
memory_or OutOfMemory f = inr refl
memory_or e f = inl (f (λ same. subst Other same (tt {0})))
  where
    Other : Error → Type 0
    Other OutOfMemory = ⊥
    Other e = Unit {0}

-- so is a frame of what its type's reader answered
pub frame_read : (h : FixedHeader) (frame : List ℕ) → IsHeader h frame → (p : Packet) → ReadsBody (Ok (Some p)) h.byte1 (drop h.fixed_header_len frame) → IsFrameOf frame p
frame_read h frame is p g = packet_read h frame is (Ok p) g.0 g.1 g.2

-- or its error is the fault, or want of memory
pub frame_fault : (h : FixedHeader) (frame : List ℕ) → IsHeader h frame → (e : Error) → ReadsBody (Err e) h.byte1 (drop h.fixed_header_len frame) → IsFaultOf frame e ⊎ (e ≡ OutOfMemory)
frame_fault h frame is e g = memory_or e (packet_read h frame is (Err e) g _ _)

-- a frame of type 0
pub no_type : (first : ℕ) (body : List ℕ) → first / 16 ≡ 0 → frame_values packet_rows first body ≡ Err (InvalidPacketType 0)
unfolding frame_values
no_type first body none = rw none (ap (λ (n : ℕ). Err (InvalidPacketType n)) none)
