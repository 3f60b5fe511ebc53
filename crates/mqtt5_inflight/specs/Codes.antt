-- This file serves the logic alone: the values of this crate's types can be told apart.
use Rattle.std.specs.Prelude.{ℕ, List, refl}
use Rattle.std.specs.Coded.{Coded, code_by, coded×, coded_list, coded_ℕ}
use Rattle.std.specs.Ordering.{nat_cmp}
use Rattle.std.specs.FinMap as map
use Rattle.std.specs.FinSet as set
use Rattle.mqtt5_inflight.specs.contracts.slot.Slot as slot
use Rattle.mqtt5_inflight.specs.InUse.{InUse}

-- maps of ids
abbrev pub coded_in_use : Coded InUse
coded_in_use = map.code coded_ℕ slot.the_row.coded

-- the same, and how high an id may be
pub record IdMap : Type 0 where
  pub limit : ℕ
  pub in_use : InUse

abbrev pub coded_ids : Coded IdMap
coded_ids =
    code_by (ℕ × InUse) (coded× coded_ℕ coded_in_use) (λ m. (m.limit, m.in_use))
    (λ p. record { limit = p.0; in_use = p.1 }) (λ _. refl)

-- topics of aliases
abbrev pub coded_aliases : Coded (map.FinMap nat_cmp (List ℕ))
coded_aliases = map.code coded_ℕ (coded_list coded_ℕ)

-- sets of ids
abbrev pub coded_incoming : Coded (set.FinSet nat_cmp)
coded_incoming = set.code coded_ℕ
