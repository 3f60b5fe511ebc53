-- Variable byte integers (MQTT 5.0 section 1.5.5).
use Rattle.std.specs.Prelude.{◌≡◌, ℕ, zero, suc, ◌+◌, ◌*◌, ◌/◌, ◌%◌, ◌<◌, ◌≤◌, List, [], ◌∷◌}
use Rattle.std.specs.Prelude.{length, nat_lt, if◌then◌else◌}

-- the highest bit of each byte but the last says that another follows
abbrev pub IsEnded : List ℕ → Type 0
IsEnded [] = ⊥
IsEnded (b ∷ []) = b < 128
IsEnded (b ∷ c ∷ bs) = (128 ≤ b) × IsEnded (c ∷ bs)

-- seven bits of each byte, the lowest first
abbrev pub sevens : List ℕ → ℕ
sevens [] = 0
sevens (b ∷ bs) = b % 128 + 128 * sevens bs

-- these one to four bytes stand for that number; also such as aren't the shortest
abbrev pub VarInt : List ℕ → ℕ → Type 0
VarInt bs n = (length bs ≤ 4) × IsEnded bs × (n ≡ sevens bs)

-- the shortest bytes of a number, with so many at most before the last
abbrev pub var_int_in : ℕ → ℕ → List ℕ
var_int_in zero n = n ∷ []
var_int_in (suc k) n = if nat_lt n 128 then n ∷ [] else (n % 128 + 128) ∷ var_int_in k (n / 128)

-- the shortest bytes of a number, up to 268,435,455
unfoldable pub var_int : ℕ → List ℕ
var_int n = var_int_in 3 n
