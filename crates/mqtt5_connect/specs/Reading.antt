-- This file serves the logic alone: what is read of a Connect's name, and behind its flags.
use Rattle.std.specs.Prelude.{ℕ, Bool, List, [], ◌∷◌, Result, Ok}
use Rattle.std.specs.Str.{bytes_eq}
use Rattle.mqtt5_base.specs.declared.error.Error.{Error}
use Rattle.mqtt5_base.specs.Grammar.{number, content, plain, Value, Group, Content, Known}
use Rattle.mqtt5_base.specs.Reading.{◌>>=◌, text_at, read_steps, parts_at}
use Rattle.mqtt5_connect.specs.Rows.{protocol, connect_fields, connect_parts}

-- whether the text at the front is the protocol's name
abbrev pub name_at : List ℕ → Result (Bool × List ℕ) Error
name_at bs = text_at bs >>= λ t. Ok (bytes_eq t.0 protocol, t.1)

-- what is known once the flags were read; neither the frame's first byte nor its length is used
abbrev pub known_flags : ℕ → Known
known_flags flags = record {
  first = 16;
  length = 0;
  values = plain (content protocol) ∷ plain (number 5) ∷ plain (number flags) ∷ [];
  kept = [];
}

-- the fields
abbrev pub fields_at : ℕ → List ℕ → Result (List Value × List ℕ) Error
fields_at flags bs = read_steps connect_fields (known_flags flags) bs >>= λ k. Ok (k.0.kept, k.1)

-- the will and the login
abbrev pub groups_at : ℕ → List ℕ → Result (List Group × List ℕ) Error
groups_at flags bs = parts_at connect_parts (known_flags flags).values bs

-- the rest of the row
abbrev pub after_flags : ℕ → List ℕ → Result Content Error
after_flags flags bs = fields_at flags bs >>= λ v. groups_at flags v.1 >>= λ g. Ok (v.0, g.0)
