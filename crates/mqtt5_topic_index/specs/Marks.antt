-- The marks of topic filters (MQTT 5.0 section 4.7).
use Rattle.std.specs.Prelude.{ℕ, zero, suc, ◌+◌, ◌*◌, ◌%◌, ◌==◌, Bool, ◌||◌, List, [], ◌∷◌}
use Rattle.std.specs.Prelude.{if◌then◌else◌}

-- the mark of a text with one byte more, modulo 2^64
abbrev pub mixed : ℕ → ℕ → ℕ
mixed m b = (m * 1099511628211 % 18446744073709551616 + (b + 1)) % 18446744073709551616

-- whether a byte makes its level a wildcard (4.7.1)
abbrev pub is_wild : ℕ → Bool
is_wild b = b == 43 || b == 35

-- of what is left of a filter, so many bytes of which count: where it stands in a level that has the
-- first mark at its start, and the second so far, the mark of the levels up to the last one that ends
-- before a wildcard. The end of the filter ends a level as a `/` does
abbrev pub mark_from : ℕ → ℕ → ℕ → List ℕ → ℕ
mark_from zero start m bs = start
mark_from (suc n) start m [] = mixed m 47
mark_from (suc n) start m (b ∷ bs) =
    if is_wild b then start
    else if b == 47 then mark_from n (mixed m b) (mixed m b) bs
    else mark_from n start (mixed m b) bs

-- how many bytes of a filter and of a topic count
unfoldable pub reach : ℕ
reach = 128

-- the mark of a filter: of its levels before the first wildcard, among those bytes
abbrev pub mark_of : List ℕ → ℕ
mark_of f = mark_from reach 0 0 f
