-- Text: bytes that are UTF-8 (MQTT 5.0 section 1.5.4).
use Rattle.std.specs.Prelude.{◌≡◌, ℕ, Bool, true, false, List, [], refl}
use Rattle.std.specs.Str.{is_utf8}
use Rattle.std.proofs.lemmas.Str.{is_utf8-from_IsUtf8, IsUtf8-nil}

-- a text is its bytes, which are UTF-8
pub record Utf8 : Type 0 where
  pub bytes : List ℕ
  pub is_text : is_utf8 bytes ≡ true

-- the text of these bytes, if they are UTF-8; else the empty text
unfoldable pub text_by : (bs : List ℕ) (b : Bool) → is_utf8 bs ≡ b → Utf8
text_by bs true e = record { bytes = bs; is_text = e }
text_by bs false e = record { bytes = []; is_text = is_utf8-from_IsUtf8 [] IsUtf8-nil }

-- the text of bytes; of bytes that aren't UTF-8 the empty one
unfoldable pub text_of : List ℕ → Utf8
text_of bs = text_by bs (is_utf8 bs) refl
