-- Examples of the documents: what the definitions compute to. Each lemma's comment has the bytes in hexadecimal.
use Rattle.std.proofs.Common.{◌≡◌, [], ◌∷◌, Some, None, Ok, refl}
use Rattle.mqtt5_base.specs.declared.error.Error.TheVariants.{MalformedRemainingLength, PayloadSizeLimitExceeded}
use Rattle.mqtt5_base.specs.Front.{Bad, More}
use Rattle.mqtt5_base.specs.FrontAt.{front}
use Rattle.mqtt5_base.specs.Reading.{var_int_at}
use Rattle.mqtt5_base.specs.VarInt.{var_int}
use Rattle.mqtt5_base.specs.Lengths.{Finished, length_at}

-- ---- the shortest bytes of the least and the greatest number of each length

-- 0 is 00
least_of_one : var_int 0 ≡ 0 ∷ []
unfolding var_int
least_of_one = refl

-- 127 is 7F
greatest_of_one : var_int 127 ≡ 127 ∷ []
unfolding var_int
greatest_of_one = refl

-- 128 is 80 01
least_of_two : var_int 128 ≡ 128 ∷ 1 ∷ []
unfolding var_int
least_of_two = refl

-- 16,383 is FF 7F
greatest_of_two : var_int 16383 ≡ 255 ∷ 127 ∷ []
unfolding var_int
greatest_of_two = refl

-- 16,384 is 80 80 01
least_of_three : var_int 16384 ≡ 128 ∷ 128 ∷ 1 ∷ []
unfolding var_int
least_of_three = refl

-- 2,097,151 is FF FF 7F
greatest_of_three : var_int 2097151 ≡ 255 ∷ 255 ∷ 127 ∷ []
unfolding var_int
greatest_of_three = refl

-- 2,097,152 is 80 80 80 01
least_of_four : var_int 2097152 ≡ 128 ∷ 128 ∷ 128 ∷ 1 ∷ []
unfolding var_int
least_of_four = refl

-- 268,435,455 is FF FF FF 7F
greatest_of_four : var_int 268435455 ≡ 255 ∷ 255 ∷ 255 ∷ 127 ∷ []
unfolding var_int
greatest_of_four = refl

-- ---- bytes that aren't the shortest

-- 80 00 is two bytes of 0
long_zero : length_at 4 (128 ∷ 0 ∷ []) ≡ Finished 2 0
unfolding length_at
long_zero = refl

-- 80 00 is read as 0, and nothing is left
long_zero_read : var_int_at (128 ∷ 0 ∷ []) ≡ Ok (0, [])
unfolding var_int_at length_at
long_zero_read = refl

-- ---- fronts without a limit

-- of nothing
front_of_nothing : front None [] ≡ More 2
unfolding front
front_of_nothing = refl

-- of 30
front_of_first_byte : front None (48 ∷ []) ≡ More 1
unfolding front length_at
front_of_first_byte = refl

-- of 30 80
front_of_unfinished_length : front None (48 ∷ 128 ∷ []) ≡ More 1
unfolding front length_at
front_of_unfinished_length = refl

-- of 30 0A
front_without_body : front None (48 ∷ 10 ∷ []) ≡ More 10
unfolding front length_at
front_without_body = refl

-- of 30 80 80 80 80
front_of_long_length : front None (48 ∷ 128 ∷ 128 ∷ 128 ∷ 128 ∷ []) ≡ Bad MalformedRemainingLength
unfolding front length_at
front_of_long_length = refl

-- ---- fronts under a limit

-- of 32 0A, under a limit of 9
front_over_limit : front (Some 9) (50 ∷ 10 ∷ []) ≡ Bad (PayloadSizeLimitExceeded 10 9)
unfolding front length_at
front_over_limit = refl

-- of 32 0A, under a limit of 10
front_at_limit : front (Some 10) (50 ∷ 10 ∷ []) ≡ More 10
unfolding front length_at
front_at_limit = refl
