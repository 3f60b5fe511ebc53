-- A bit of a byte, as a number and as a test.
use Rattle.std.proofs.Common.{◌≡◌, ℕ, zero, suc, ◌%◌, ◌<◌, eqb, refl, arith}
use Rattle.mqtt5_base.specs.Views.{bit}

small : (n : ℕ) → n < 2 → n ≡ bit (eqb n 1)
small zero lt = refl
small (suc zero) lt = refl
small (suc (suc n)) lt = absurd (omega arith)

pub bit_of_mod : (n : ℕ) → n % 2 ≡ bit (eqb (n % 2) 1)
bit_of_mod n = small (n % 2) (omega arith)
