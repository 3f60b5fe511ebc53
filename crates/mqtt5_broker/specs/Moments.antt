-- Moments: numbers of milliseconds of any clock, none of which is greater than 64 bits are (MQTT 5.0
-- sections 3.1.2.10, 3.1.2.11.2 and 3.1.3.2.2).
use Rattle.std.specs.Prelude.{ℕ, ◌+◌, ◌*◌, ◌==◌, min, Bool, false, Option, Some, None}
use Rattle.std.specs.Prelude.{if◌then◌else◌, nat_le}

-- so many milliseconds after a moment
abbrev pub after : ℕ → ℕ → ℕ
after count at = min (at + count) 18446744073709551615

-- so many seconds after it
abbrev pub seconds_after : ℕ → ℕ → ℕ
seconds_after count at = after (1000 * count) at

-- a moment that may be none has come
abbrev pub has_come : Option ℕ → ℕ → Bool
has_come None now = false
has_come (Some at) now = nat_le at now

-- the earlier of two
abbrev pub earlier : Option ℕ → Option ℕ → Option ℕ
earlier None other = other
earlier (Some at) None = Some at
earlier (Some at) (Some other) = Some (min at other)

-- so many milliseconds after a moment, where 0 is none at all
abbrev pub unless_zero : ℕ → ℕ → Option ℕ
unless_zero count at = if count == 0 then None else Some (after count at)
