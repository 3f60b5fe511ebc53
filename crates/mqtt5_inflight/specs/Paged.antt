-- This file serves the logic alone: pages of packet identifiers as one map, from each id in use to
-- its place.
use Rattle.std.specs.Prelude.{◌≡◌, ◌≢◌, ℕ, zero, suc, ◌+◌, ◌/◌, ◌%◌, ◌^◌, List, [], ◌∷◌, Option}
use Rattle.std.specs.Prelude.{Some, None, slice_index_or}
use Rattle.std.specs.Ordering.{nat_cmp}
use Rattle.std.specs.FinMap as map
use Rattle.std.specs.BTreeMap as tree
use Rattle.std.specs.BTreeMap.{BTreeMap}

-- the places of the ids of a page, in their order
abbrev pub Offsets : Type 0
Offsets = List (Option ℕ)

-- the place of each id in use
abbrev pub Places : Type 0
Places = map.FinMap nat_cmp ℕ

-- no id of the page is in use
abbrev pub IsBlank : Offsets → Type 0
IsBlank page = (offset : ℕ) → slice_index_or page offset None ≡ None

-- a place in a page, if that is there
abbrev pub place_in : Option Offsets → ℕ → Option ℕ
place_in None offset = None
place_in (Some page) offset = slice_index_or page offset None

-- the place of an id: 64 ids in a row share a page
abbrev pub place_at : BTreeMap ℕ Offsets → ℕ → Option ℕ
place_at pages id = place_in (tree.get nat_cmp pages (id / 64)) (id % 64)

-- the same pages, where one id's place is another
pub record SetsPlace (old new : BTreeMap ℕ Offsets) (id : ℕ) (place : Option ℕ) : Type 0 where
  pub here : place_at new id ≡ place
  pub others : (q : ℕ) → q ≢ id → place_at new q ≡ place_at old q

-- the same places
abbrev pub SamePlaces : BTreeMap ℕ Offsets → BTreeMap ℕ Offsets → Type 0
SamePlaces old new = (q : ℕ) → place_at new q ≡ place_at old q

-- an entry in front, if it is there
abbrev pub entry_before : {X : Type 0} → ℕ → Option X → List (ℕ × X) → List (ℕ × X)
entry_before i None es = es
entry_before i (Some x) es = (i, x) ∷ es

-- of n keys from i on, those at which f gives a value
abbrev pub rising : {X : Type 0} → (ℕ → Option X) → ℕ → ℕ → List (ℕ × X)
rising f i zero = []
rising f i (suc n) = entry_before i (f i) (rising f (i + 1) n)

-- the keys below n at which f gives a value
unfoldable pub map_below : {X : Type 0} → ℕ → (ℕ → Option X) → map.FinMap nat_cmp X
map_below n f = map.from_sorted (rising f 0 n)

-- the place of each id in use
abbrev pub places_of : BTreeMap ℕ Offsets → Places
places_of pages = map_below (2 ^ 16) (place_at pages)
