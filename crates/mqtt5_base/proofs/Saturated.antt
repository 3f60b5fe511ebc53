-- How long the shortest form of a number is.
use Rattle.std.proofs.Common.{◌≡◌, ℕ, ◌≤◌, min, length, arith}
use Rattle.std.proofs.lemmas.Bool.Decides.{nat_tests}
use Rattle.mqtt5_base.specs.VarInt.{var_int}

-- a number that is saturated has as many bytes, since from 2,097,152 on all have four
pub length_saturated : (n : ℕ) → length (var_int (min n 18446744073709551615)) ≡ length (var_int n)
unfolding var_int
length_saturated n = grind (arith, nat_tests)

-- four bytes at most
pub length_small : (n : ℕ) → length (var_int n) ≤ 4
unfolding var_int
length_small n = grind (arith, nat_tests)

pub ruleset lengths = (length_saturated, length_small)
