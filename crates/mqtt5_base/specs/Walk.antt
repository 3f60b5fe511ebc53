-- This file serves the logic alone: how many bytes a walk over a topic and a filter, or over one
-- of them, goes on within the first level, and what it finds behind that.
use Rattle.std.specs.Prelude.{ℕ, Bool, true, false, not, ◌&&◌, ◌||◌, List, [], ◌∷◌, ◌==◌}
use Rattle.std.specs.List.{common_prefix_len, position_or_len}
use Rattle.mqtt5_base.specs.Topics.{levels, match_levels, are_valid, has_wildcards}

-- how many bytes at the start of both are equal and in the first level
abbrev pub common_len : List ℕ → List ℕ → ℕ
common_len = common_prefix_len (λ t f. t == f && not (t == 47))

-- how many bytes the first level has
abbrev pub level_len : List ℕ → ℕ
level_len = position_or_len (λ b. b == 47)

-- how many bytes at the start are neither `/` nor a wildcard
abbrev pub plain_len : List ℕ → ℕ
plain_len = position_or_len (λ b. b == 47 || has_wildcards (b ∷ []))

-- whether what is left behind a level, and behind one that covers it, matches: nothing of both, or
-- what follows a `/`
abbrev pub match_behind : List ℕ → List ℕ → Bool
match_behind [] [] = true
match_behind [] (c ∷ f) = c == 47 && match_levels [] (levels f)
match_behind (b ∷ t) [] = false
match_behind (b ∷ t) (c ∷ f) = b == 47 && (c == 47 && match_levels (levels t) (levels f))

-- whether what is left of a filter behind the plain bytes of a level is valid: nothing, or what
-- follows a `/`
abbrev pub valid_behind : List ℕ → Bool
valid_behind [] = true
valid_behind (b ∷ f) = b == 47 && are_valid (levels f)
