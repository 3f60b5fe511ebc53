-- What a call answers, as a number.
use Rattle.std.specs.Prelude.{ℕ}

-- it is done
abbrev pub done : ℕ
done = 0

-- memory is refused
abbrev pub out_of_memory : ℕ
out_of_memory = 12

-- the handle has no broker
abbrev pub no_broker : ℕ
no_broker = 200

-- an argument isn't taken
abbrev pub bad_argument : ℕ
bad_argument = 201

-- the handle has a broker already
abbrev pub has_broker : ℕ
has_broker = 202
