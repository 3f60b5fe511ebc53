-- The first byte and the body of a whole frame.
use Rattle.std.proofs.Common.{◌≡◌, ℕ, List, [], ◌∷◌, ◌++◌, length, drop, refl, sym, ap, ◌∙◌}
use Rattle.std.proofs.lemmas.List.{drop_at}
use Rattle.mqtt5_base.specs.declared.header.FixedHeader.{FixedHeader}
use Rattle.mqtt5_base.specs.VarInt.{VarInt}
use Rattle.mqtt5_base.specs.Lengths.{length_at}
use Rattle.mqtt5_base.specs.Frames.{Rows, IsWhole}
use Rattle.mqtt5_base.specs.Headers.{IsHeader}
use Rattle.mqtt5_base.specs.Reading.{frame_values, body_in, frame_at}
use Rattle.mqtt5_base.proofs.VarIntLemmas.{var_int_finds}

-- the body is what is behind the remaining length
body_shown : (len body : List ℕ) → VarInt len (length body) → body_in (length_at 4 (len ++ body)) (len ++ body) ≡ body
body_shown len body h = rw (var_int_finds len body (length body) h) (drop_at len body (length len) refl)

-- the body of a frame, by its remaining length
abbrev body_of : List ℕ → List ℕ
body_of [] = []
body_of (b ∷ bs) = body_in (length_at 4 bs) bs

-- a whole frame has its body
body_found : (frame : List ℕ) (first : ℕ) (body : List ℕ) → IsWhole frame first body → body_of frame ≡ body
body_found frame first body w = ap body_of w.1 ∙ body_shown w.0 body w.2

-- A whole frame has one first byte and one body.
pub one_whole : (frame : List ℕ) (f g : ℕ) (b c : List ℕ) → IsWhole frame f b → IsWhole frame g c → (f ≡ g) × (b ≡ c)
one_whole frame f g b c v w = (first (sym v.1 ∙ w.1), sym (body_found frame f b v) ∙ body_found frame g c w)
  where
    first : f ∷ (v.0 ++ b) ≡ g ∷ (w.0 ++ c) → f ≡ g
    first e = cc

-- A whole frame is read as its body under its first byte.
pub frame_at_whole : (rows : Rows) (frame : List ℕ) (first : ℕ) (body : List ℕ) → IsWhole frame first body → frame_at rows frame ≡ frame_values rows first body
unfolding frame_at
frame_at_whole rows frame first body w = ap (frame_at rows) w.1 ∙ ap (frame_values rows first) (body_shown w.0 body w.2)

-- A frame with a header is read as what is behind the header under its first byte.
pub frame_at_header : (rows : Rows) (h : FixedHeader) (frame : List ℕ) → IsHeader h frame → frame_at rows frame ≡ frame_values rows h.byte1 (drop h.fixed_header_len frame)
frame_at_header rows h frame is = frame_at_whole rows frame h.byte1 (drop h.fixed_header_len frame) is.whole
