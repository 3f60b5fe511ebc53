-- This file serves the logic alone: the body of a Disconnect as its writer makes it.
use Rattle.std.specs.Prelude.{ℕ, ◌==◌, ◌&&◌, Bool, Option, is_none}
use Rattle.mqtt5_base.specs.Grammar.{Found}

-- A normal disconnection without properties is written without a body (3.14.2.1).
abbrev pub disconnect_is_bare : ℕ → Option Found → Bool
disconnect_is_bare code p = code == 0 && is_none p
