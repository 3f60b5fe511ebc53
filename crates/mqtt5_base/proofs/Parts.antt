-- Writing the values of a property one after the other, as a loop does.
use Rattle.std.proofs.Common.{◌≡◌, ℕ, ◌+◌, ◌≤◌, true, List, ◌++◌, length}
use Rattle.bytes.specs.Filled.{Filled}
use Rattle.mqtt5_base.specs.Grammar.{Kind, Atom}
use Rattle.mqtt5_base.specs.Layout.{tagged, all_fit}

-- what is left of the values fits, and written after what stands here gives what is to be written from the start
pub record IsPart (id : ℕ) (k : Kind) (old now : Filled) (whole rest : List Atom) : Type 0 where
  pub fits : all_fit k rest ≡ true
  pub items : now.items ++ tagged id k rest ≡ old.items ++ tagged id k whole
  pub spare : now.spare + length (tagged id k whole) ≡ old.spare + length (tagged id k rest)
  pub room : length (tagged id k rest) ≤ now.spare
