-- What a function wrote to a buffer.
use Rattle.std.specs.Prelude.{◌≡◌, ℕ, ◌+◌, ◌≤◌, List, ◌∷◌, ◌++◌, length, Result, Ok, Err, ◌⊎◌}
use Rattle.bytes.specs.Filled.{Filled}
use Rattle.mqtt5_base.specs.declared.error.Error.{Error}
use Rattle.mqtt5_base.specs.declared.error.Error.TheVariants.{OutOfMemory}
use Rattle.mqtt5_base.specs.VarInt.{var_int}

-- the bytes are at the buffer's end, in room that was there
pub record Puts (old new : Filled) (bs : List ℕ) : Type 0 where
  pub items : new.items ≡ old.items ++ bs
  pub spare : new.spare + length bs ≡ old.spare

-- These bytes were appended and this answered of them; or nothing was appended, for want of memory,
-- or for the reason why there are no such bytes.
abbrev pub Writes : {A : Type 0} → (List ℕ → A) → Result (List ℕ) Error → Result A Error → List ℕ
    → List ℕ → Type 0
Writes answer value (Ok a) old new =
    (bytes : List ℕ) × (value ≡ Ok bytes) × (a ≡ answer bytes) × (new ≡ old ++ bytes)
Writes answer value (Err e) old new =
    (new ≡ old) × (((e ≡ OutOfMemory) × ((bytes : List ℕ) × (value ≡ Ok bytes))) ⊎ (value ≡ Err e))

-- A frame's first byte and remaining length were appended, with room for its body, and the whole
-- frame's length answered, unless memory ran out; then the bytes are unchanged.
abbrev pub Starts : ℕ → ℕ → Result ℕ Error → Filled → Filled → Type 0
Starts first len (Ok n) old new =
    (n ≡ 1 + length (var_int len) + len) × (new.items ≡ old.items ++ first ∷ var_int len)
    × (len ≤ new.spare)
Starts first len (Err e) old new = (e ≡ OutOfMemory) × (new.items ≡ old.items)
