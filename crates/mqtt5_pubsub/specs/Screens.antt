-- What a screen counts.
use Rattle.std.specs.Prelude.{◌≡◌, ℕ, ◌+◌, ◌<◌, Bool}
use Rattle.mqtt5_base.specs.Views.{bit}

-- one message more where it was shown, unless the count is at its greatest
abbrev pub Counts : Bool → ℕ → ℕ → Type 0
Counts is_shown count more =
    count + bit is_shown < 18_446_744_073_709_551_616 → more ≡ count + bit is_shown
