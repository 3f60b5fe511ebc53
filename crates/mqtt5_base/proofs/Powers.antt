-- Powers of 128.
use Rattle.std.proofs.Common.{◌≡◌, ℕ, zero, suc, ◌-◌, ◌*◌, ◌^◌, ◌<◌, ◌≤◌, refl, arith}

-- one byte of a variable byte integer more
pub power : (k : ℕ) → 0 < k → k ≤ 4 → (128 ^ k ≡ 128 * 128 ^ (k - 1)) × (128 ^ k ≤ 268435456) × (128 ≤ 128 ^ k)
power zero lt le = absurd (omega arith)
power (suc zero) lt le = (refl, omega arith, omega arith)
power (suc (suc zero)) lt le = (refl, omega arith, omega arith)
power (suc (suc (suc zero))) lt le = (refl, omega arith, omega arith)
power (suc (suc (suc (suc zero)))) lt le = (refl, omega arith, omega arith)
power (suc (suc (suc (suc (suc k))))) lt le = absurd (omega arith)
