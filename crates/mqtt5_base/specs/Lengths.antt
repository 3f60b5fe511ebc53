-- This file serves the logic alone: a variable byte integer at the front of bytes, looked at from
-- left to right.
use Rattle.std.specs.Prelude.{◌≡◌, ℕ, zero, suc, ◌+◌, ◌*◌, ◌%◌, List, [], ◌∷◌, Result, Ok, Err}
use Rattle.std.specs.Prelude.{nat_lt, if◌then◌else◌, ◌⊎◌}
use Rattle.mqtt5_base.specs.declared.error.Error.{Error}
use Rattle.mqtt5_base.specs.declared.error.Error.TheVariants.{InsufficientBytes}
use Rattle.mqtt5_base.specs.declared.error.Error.TheVariants.{MalformedRemainingLength}

-- What stands at the front of bytes: four bytes that each say that another follows, bytes that
-- don't end, or a number and the count of its bytes.
pub data Length : Type 0 where
  Overlong : Length
  Unfinished : Length
  Finished : (count n : ℕ) → Length

-- the same with a byte in front that says that another follows
abbrev pub after_byte : ℕ → Length → Length
after_byte b Overlong = Overlong
after_byte b Unfinished = Unfinished
after_byte b (Finished count n) = Finished (count + 1) (b % 128 + 128 * n)

-- what stands at the front, of which so many bytes at most are looked at
unfoldable pub length_at : ℕ → List ℕ → Length
length_at zero bs = Overlong
length_at (suc most) [] = Unfinished
length_at (suc most) (b ∷ bs) =
    if nat_lt b 128 then Finished 1 b else after_byte b (length_at most bs)

-- what a function found there, or why it found none
abbrev pub Lengths : Result (ℕ × ℕ) Error → Length → Type 0
Lengths (Ok r) l = l ≡ Finished r.0 r.1
Lengths (Err e) l =
    ((l ≡ Unfinished) × (e ≡ InsufficientBytes 1))
    ⊎ ((l ≡ Overlong) × (e ≡ MalformedRemainingLength))
