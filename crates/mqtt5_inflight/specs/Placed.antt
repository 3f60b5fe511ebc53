-- This file serves the logic alone: what is known of each id in use, which stands in a place of its
-- own.
use Rattle.std.specs.Prelude.{◌≡◌, ℕ, List, Option, Some, None, map, unwrap_or, is_some, IsSome}
use Rattle.std.specs.Prelude.{count_by, slice_index_or}
use Rattle.std.specs.Ordering.{nat_cmp}
use Rattle.std.specs.FinMap.{FinMap, get, len, entries, from_entries}
use Rattle.mqtt5_inflight.specs.declared.slot.Slot.{Slot}
use Rattle.mqtt5_inflight.specs.declared.slot.Slot.TheVariants.{Released}
use Rattle.mqtt5_inflight.specs.InUse.{InUse}
use Rattle.mqtt5_inflight.specs.Paged.{Places}

-- a map with each value changed
unfoldable pub map_values : {X Y : Type 0} → (X → Y) → FinMap nat_cmp X → FinMap nat_cmp Y
map_values {X} {Y} f m = from_entries (map {A = ℕ × X} {B = ℕ × Y} (λ e. (e.0, f e.1)) (entries m))

-- what stands in a place
abbrev pub slot_in : List (Option Slot) → ℕ → Slot
slot_in slots place = unwrap_or (slice_index_or slots place None) Released

-- the ids in use, and what is known of each
abbrev pub held_in : List (Option Slot) → Places → InUse
held_in slots places = map_values (slot_in slots) places

-- each id in use has a place of its own, where something stands, and nothing else stands anywhere
pub record IsPlaced (slots : List (Option Slot)) (places : Places) : Type 0 where
  pub stands : (id place : ℕ) → get places id ≡ Some place
      → IsSome (slice_index_or slots place None)
  pub apart : (i j place : ℕ) → get places i ≡ Some place → get places j ≡ Some place → i ≡ j
  pub counted : count_by is_some slots ≡ len places
