-- The version of the library.
use Rattle.std.specs.Prelude.{ℕ, List, [], ◌∷◌}

-- 0.1.0, in ASCII
abbrev pub version : List ℕ
version = 48 ∷ 46 ∷ 49 ∷ 46 ∷ 48 ∷ []
