-- This file serves the logic alone: the body of an ack as its writer makes it.
use Rattle.std.specs.Prelude.{ℕ, ◌==◌, ◌&&◌, Bool, List, [], ◌∷◌, ◌++◌, Option, is_none}
use Rattle.std.specs.Prelude.{if◌then◌else◌}
use Rattle.std.specs.Int.{w16, to_be_bytes}
use Rattle.mqtt5_base.specs.Grammar.{Entry, Found}
use Rattle.mqtt5_base.specs.Layout.{block_bytes}

-- Success without properties is written as the identifier alone.
abbrev pub ack_is_short : ℕ → Option Found → Bool
ack_is_short code p = code == 0 && is_none p

-- the identifier, and unless it is short the reason code and the properties
abbrev pub ack_body : List Entry → ℕ → ℕ → Option Found → List ℕ
ack_body table id code p =
    to_be_bytes w16 id ++ (if ack_is_short code p then [] else code ∷ block_bytes table p)
