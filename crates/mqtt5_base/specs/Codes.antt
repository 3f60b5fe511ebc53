-- This file serves the logic alone: a text is known by its bytes.
use Rattle.std.specs.Prelude.{◌≡◌, ℕ, Bool, true, false, List, refl}
use Rattle.std.specs.Str.{is_utf8}
use Rattle.std.specs.Coded.{Coded, code_by, coded_list, coded_ℕ}
use Rattle.std.proofs.Common.{sym, ap, ◌∙◌}
use Rattle.std.proofs.Math.Bool.{Bool-set}
use Rattle.std.proofs.lemmas.Bool.{false≢true}
use Rattle.mqtt5_base.specs.Texts.{Utf8, text_by, text_of}

same_by : (bs : List ℕ) (b : Bool) (e : is_utf8 bs ≡ b) (h : is_utf8 bs ≡ true)
    → text_by bs b e ≡ record { bytes = bs; is_text = h }
unfolding text_by
same_by bs true e h = λ i. record { bytes = bs; is_text = Bool-set (is_utf8 bs) true e h i }
same_by bs false e h = absurd (false≢true (sym e ∙ h))

-- a text is that of its bytes
pub text_back : (t : Utf8) → text_of t.bytes ≡ t
unfolding text_of
text_back t = same_by t.bytes (is_utf8 t.bytes) refl t.is_text

-- texts can be told apart by their bytes
abbrev pub utf8_code : Coded Utf8
utf8_code = code_by (List ℕ) (coded_list coded_ℕ) (λ t. t.bytes) text_of text_back

-- texts of the same bytes are the same
pub same_text : (t u : Utf8) → t.bytes ≡ u.bytes → t ≡ u
same_text t u h = sym (text_back t) ∙ ap text_of h ∙ text_back u
