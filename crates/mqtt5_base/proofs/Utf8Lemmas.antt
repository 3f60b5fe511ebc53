-- The test for UTF-8 decides whether bytes are a text.
use Rattle.std.proofs.Common.{◌≡◌, ℕ, Bool, true, false, List, refl}
use Rattle.std.specs.Str.{is_utf8, IsUtf8}
use Rattle.std.proofs.lemmas.Str.{is_utf8-from_IsUtf8, IsUtf8-from_is_utf8}

pub no_text : (bs : List ℕ) → (IsUtf8 bs → ⊥) → is_utf8 bs ≡ false
no_text bs h = by_test (is_utf8 bs) (λ e. h (IsUtf8-from_is_utf8 bs e))
  where
    by_test : (b : Bool) → (b ≡ true → ⊥) → b ≡ false
    by_test true h = absurd (h refl)
    by_test false h = refl

pub ruleset utf8 = (is_utf8-from_IsUtf8, no_text)
