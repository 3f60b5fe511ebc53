-- Texts that are made of bytes.
use Rattle.std.proofs.Common.{◌≡◌, ℕ, Bool, true, false, List, [], refl, sym, ap, ◌∙◌}
use Rattle.std.specs.Str.{is_utf8}
use Rattle.mqtt5_base.specs.Texts.{Utf8, text_by, text_of}
use Rattle.mqtt5_base.specs.Codes.{text_back}

pub text_is : (t : Utf8) (bs : List ℕ) → t.bytes ≡ bs → t ≡ text_of bs
text_is t bs e = sym (text_back t) ∙ ap text_of e

-- of bytes that aren't UTF-8 the empty one
empty_by : (bs : List ℕ) (b : Bool) (e : is_utf8 bs ≡ b) → b ≡ false → (text_by bs b e).bytes ≡ []
unfolding text_by
empty_by bs true e h = absurd cc
empty_by bs false e h = refl

pub text_none : (bs : List ℕ) → is_utf8 bs ≡ false → text_of [] ≡ text_of bs
unfolding text_of
text_none bs h = sym (text_is (text_by bs (is_utf8 bs) refl) [] (empty_by bs (is_utf8 bs) refl h))
