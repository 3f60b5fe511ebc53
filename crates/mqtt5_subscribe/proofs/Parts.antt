-- Writing the items of a list one after the other, as a loop does.
use Rattle.std.proofs.Common.{◌≡◌, ◌+◌, ◌≤◌, true, List, ◌++◌, length}
use Rattle.bytes.specs.Filled.{Filled}
use Rattle.mqtt5_base.specs.Grammar.{Step}
use Rattle.mqtt5_base.specs.Layout.{Written, listed_bytes, listed_fit}

-- what is left of the items fits, and written after what stands here gives what is to be written from the start
pub record IsPart (steps : List Step) (old now : Filled) (whole rest : List Written) : Type 0 where
  pub fits : listed_fit steps rest ≡ true
  pub items : now.items ++ listed_bytes steps rest ≡ old.items ++ listed_bytes steps whole
  pub spare : now.spare + length (listed_bytes steps whole) ≡ old.spare + length (listed_bytes steps rest)
  pub room : length (listed_bytes steps rest) ≤ now.spare
