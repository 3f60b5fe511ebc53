-- This file serves the logic alone: the front of a stream, looked at from left to right; which it
-- is IsFound says.
use Rattle.std.specs.Prelude.{ℕ, ◌+◌, ◌-◌, List, [], ◌∷◌, length, take, drop, Option, Some, None}
use Rattle.std.specs.Prelude.{nat_lt, if◌then◌else◌}
use Rattle.mqtt5_base.specs.declared.error.Error.TheVariants.{MalformedRemainingLength}
use Rattle.mqtt5_base.specs.declared.error.Error.TheVariants.{PayloadSizeLimitExceeded}
use Rattle.mqtt5_base.specs.Lengths.{Length, Overlong, Unfinished, Finished, length_at}
use Rattle.mqtt5_base.specs.Front.{Front, Bad, More, Whole}

-- a frame of n bytes is whole once they are there
abbrev pub cut : ℕ → List ℕ → Front
cut n stream =
    if nat_lt (length stream) n then More (n - length stream)
    else Whole (take n stream) (drop n stream)

-- the limit is compared with the remaining length, before the frame is whole
abbrev pub within : Option ℕ → ℕ → ℕ → List ℕ → Front
within None count n stream = cut (1 + count + n) stream
within (Some max) count n stream =
    if nat_lt max n then Bad (PayloadSizeLimitExceeded n max) else cut (1 + count + n) stream

-- by the remaining length (2.1.4): four bytes that go on are bad, and bytes that don't end need one
-- more
abbrev pub by_remaining : Option ℕ → Length → List ℕ → Front
by_remaining limit Overlong stream = Bad MalformedRemainingLength
by_remaining limit Unfinished stream = More 1
by_remaining limit (Finished count n) stream = within limit count n stream

-- the first byte, then the remaining length, then so many bytes
unfoldable pub front : Option ℕ → List ℕ → Front
front limit [] = More 2
front limit (b ∷ bs) = by_remaining limit (length_at 4 bs) (b ∷ bs)
