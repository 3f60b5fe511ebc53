-- Pages of ids as one map: what a change of the pages makes of it.
use Rattle.std.proofs.Common.{◌≡◌, ℕ, ◌<◌, ◌^◌, ◌/◌, ◌%◌, Some, None, ap, ◌∙◌, ◌≤◌, ⊎_elim}
use Rattle.std.proofs.lemmas.Bool.{cases_lt}
use Rattle.std.specs.FinMap.{get, insert, remove, empty}
use Rattle.std.specs.Map.{lookup}
use Rattle.std.specs.Ordering.{nat_cmp}
use Rattle.std.specs.Prelude.{slice_index_or}
use Rattle.std.specs.BTreeMap as tree
use Rattle.std.specs.BTreeMap.{BTreeMap, IsEmpty, is_at}
use Rattle.mqtt5_inflight.specs.Paged.{Offsets, place_in, place_at, places_of, SetsPlace, SamePlaces}
use Rattle.mqtt5_inflight.proofs.Below.{get_below, get_past, below_same, below_insert, below_remove, below_empty}

pub no_pages : (m : BTreeMap ℕ Offsets) → IsEmpty m → places_of m ≡ empty
no_pages m e = below_empty (place_at m) (2 ^ 16) (λ q. ap (λ es. place_in (lookup (is_at (nat_cmp (q / 64))) es) (q % 64)) e)

pub get_place : (m : BTreeMap ℕ Offsets) (id : ℕ) → id < 2 ^ 16 → get (places_of m) id ≡ place_at m id
get_place m id h = get_below (place_at m) (2 ^ 16) id h

-- the place of an id where its page is there, and where it is not
pub in_page : (m : BTreeMap ℕ Offsets) (id number : ℕ) (page : Offsets) → id / 64 ≡ number → tree.get nat_cmp m number ≡ Some page → place_at m id ≡ slice_index_or page (id % 64) None
in_page m id number page e there = ap (λ k. place_in (tree.get nat_cmp m k) (id % 64)) e ∙ ap (λ o. place_in o (id % 64)) there

pub no_page : (m : BTreeMap ℕ Offsets) (id : ℕ) → tree.get nat_cmp m (id / 64) ≡ None → place_at m id ≡ None
no_page m id absent = ap (λ o. place_in o (id % 64)) absent

-- an id that has no place in the pages has none
pub free_at : (m : BTreeMap ℕ Offsets) (id : ℕ) → (id < 2 ^ 16 → place_at m id ≡ None) → get (places_of m) id ≡ None
free_at m id none = ⊎_elim
    (λ (low : id < 2 ^ 16). get_place m id low ∙ none low)
    (λ (high : 2 ^ 16 ≤ id). get_past (place_at m) (2 ^ 16) id high)
    (cases_lt id (2 ^ 16))

pub same_places : (m n : BTreeMap ℕ Offsets) → SamePlaces m n → places_of n ≡ places_of m
same_places m n e = below_same (place_at m) (place_at n) (2 ^ 16) e

pub sets_insert : (m n : BTreeMap ℕ Offsets) (id place : ℕ) → id < 2 ^ 16 → SetsPlace m n id (Some place) → places_of n ≡ insert (places_of m) id place
sets_insert m n id place h s = below_insert (place_at m) (place_at n) (2 ^ 16) id place h s.here s.others

pub sets_remove : (m n : BTreeMap ℕ Offsets) (id : ℕ) → id < 2 ^ 16 → SetsPlace m n id None → places_of n ≡ remove (places_of m) id
sets_remove m n id h s = below_remove (place_at m) (place_at n) (2 ^ 16) id h s.here s.others
