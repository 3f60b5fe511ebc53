-- What is known of the ids in use, by the places where it stands, once a place is set or emptied.
use Rattle.std.proofs.Common.{◌≡◌, ◌≢◌, ℕ, ◌+◌, List, [], get_or, Option, Some, None, is_some, IsSome, unwrap_or, count_by, refl, sym, ap, ◌∙◌, subst, ⊎_elim, arith}
use Rattle.std.proofs.lemmas.Bool.{cases_eq, false≢true}
use Rattle.std.specs.Prelude.{option_map}
use Rattle.std.specs.FinMap.{get, len, insert, remove, empty, len-empty, get-empty}
use Rattle.std.specs.Ordering.{nat_cmp}
use Rattle.mqtt5_inflight.specs.declared.slot.Slot.{Slot}
use Rattle.mqtt5_inflight.specs.declared.slot.Slot.TheVariants.{Released}
use Rattle.mqtt5_inflight.specs.Paged.{Places}
use Rattle.mqtt5_inflight.specs.Placed.{slot_in, held_in, IsPlaced}
use Rattle.mqtt5_inflight.proofs.Maps.{is_insert, is_remove, is_empty, get_insert_same, get_insert_other, get_remove_same, get_remove_other, get-map_values, len-map_values, len_less, len_added}

-- an id in use, and what stands in its place
pub at_place : (slots : List (Option Slot)) (places : Places) → IsPlaced slots places → (id place : ℕ) → get places id ≡ Some place → get (held_in slots places) id ≡ get_or slots place None
at_place slots places is id place e = get-map_values (slot_in slots) places id ∙ ap (option_map (slot_in slots)) e ∙ by (get_or slots place None) (is.stands id place e)
  where
    by : (o : Option Slot) → IsSome o → Some (unwrap_or o Released) ≡ o
    by None some = absurd (false≢true some)
    by (Some x) some = refl

pub no_place : (slots : List (Option Slot)) (places : Places) (id : ℕ) → get places id ≡ None → get (held_in slots places) id ≡ None
no_place slots places id e = get-map_values (slot_in slots) places id ∙ ap (option_map (slot_in slots)) e

pub len_held : (slots : List (Option Slot)) (places : Places) → IsPlaced slots places → count_by is_some slots ≡ len (held_in slots places)
len_held slots places is = is.counted ∙ sym (len-map_values (slot_in slots) places)

-- an id is in use only where it has a place
pub is_used : (slots : List (Option Slot)) (places : Places) (id : ℕ) → is_some (get (held_in slots places) id) ≡ is_some (get places id)
is_used slots places id = ap is_some (get-map_values (slot_in slots) places id) ∙ by (get places id)
  where
    by : (o : Option ℕ) → is_some (option_map (slot_in slots) o) ≡ is_some o
    by None = refl
    by (Some p) = refl

-- one id's place is set or emptied: what stands in the others stays
pub record Turns (slots slots' : List (Option Slot)) (places places' : Places) (id place : ℕ) (slot : Option Slot) : Type 0 where
  pub here : get places' id ≡ option_map (λ _. place) slot
  pub others : (q : ℕ) → q ≢ id → get places' q ≡ get places q
  pub holds : get_or slots' place None ≡ slot
  pub rest : (p : ℕ) → p ≢ place → get_or slots' p None ≡ get_or slots p None
  pub own : (q : ℕ) → q ≢ id → get places q ≡ Some place → ⊥
  pub counted : count_by is_some slots' ≡ len places'

module _ (slots slots' : List (Option Slot)) (places places' : Places) (id place : ℕ) where
  pub turned : (slot : Option Slot) → IsPlaced slots places → Turns slots slots' places places' id place slot → IsPlaced slots' places'
  turned slot is t = record { stands = stands; apart = apart; counted = t.counted }
    where
      at_id : (o : Option Slot) (p : ℕ) → option_map (λ _. place) o ≡ Some p → get_or slots' place None ≡ o → (p ≡ place) × IsSome (get_or slots' p None)
      at_id None p e h = absurd (cc)
      at_id (Some x) p e h =
          let same_place : p ≡ place = cc in
          (same_place, subst (λ q. IsSome (get_or slots' q None)) (sym same_place) (ap is_some h))

      stands : (q p : ℕ) → get places' q ≡ Some p → IsSome (get_or slots' p None)
      stands q p e = ⊎_elim
          (λ (i : q ≡ id). (at_id slot p (sym t.here ∙ sym (ap (get places') i) ∙ e) t.holds).1)
          (λ (ne : q ≢ id).
          let was = sym (t.others q ne) ∙ e in
          subst IsSome (sym (t.rest p (λ j. t.own q ne (was ∙ ap Some j)))) (is.stands q p was))
          (cases_eq q id)

      one : (q p : ℕ) → q ≢ id → get places' q ≡ Some p → get places' id ≡ Some p → ⊥
      one q p ne e f = t.own q ne (sym (t.others q ne) ∙ e ∙ ap Some (at_id slot p (sym t.here ∙ f) t.holds).0)

      apart : (i j p : ℕ) → get places' i ≡ Some p → get places' j ≡ Some p → i ≡ j
      apart i j p e f = ⊎_elim
          (λ (a : i ≡ id). ⊎_elim
          (λ (b : j ≡ id). a ∙ sym b)
          (λ (b : j ≢ id). absurd (one j p b f (sym (ap (get places') a) ∙ e)))
          (cases_eq j id))
          (λ (a : i ≢ id). ⊎_elim
          (λ (b : j ≡ id). absurd (one i p a e (sym (ap (get places') b) ∙ f)))
          (λ (b : j ≢ id). is.apart i j p (sym (t.others i a) ∙ e) (sym (t.others j b) ∙ f))
          (cases_eq j id))
          (cases_eq i id)

  others_stay : (slot : Option Slot) → Turns slots slots' places places' id place slot → (q : ℕ) → q ≢ id → get (held_in slots' places') q ≡ get (held_in slots places) q
  others_stay slot t q ne =
      get-map_values (slot_in slots') places' q ∙ ap (option_map (slot_in slots')) (t.others q ne) ∙ by (get places q) (t.own q ne) ∙ sym (get-map_values (slot_in slots) places q)
    where
      by : (o : Option ℕ) → (o ≡ Some place → ⊥) → option_map (slot_in slots') o ≡ option_map (slot_in slots) o
      by None own = refl
      by (Some p) own = ap (λ x. Some (unwrap_or x Released)) (t.rest p (λ e. own (ap Some e)))

  pub set_held : (slot : Slot) → Turns slots slots' places places' id place (Some slot) → held_in slots' places' ≡ insert (held_in slots places) id slot
  set_held slot t = is_insert (held_in slots places) (held_in slots' places') id slot
      (get-map_values (slot_in slots') places' id ∙ ap (option_map (slot_in slots')) t.here ∙ ap (λ x. Some (unwrap_or x Released)) t.holds)
      (others_stay (Some slot) t)

  pub freed_held : Turns slots slots' places places' id place None → held_in slots' places' ≡ remove (held_in slots places) id
  freed_held t = is_remove (held_in slots places) (held_in slots' places') id
      (get-map_values (slot_in slots') places' id ∙ ap (option_map (slot_in slots')) t.here)
      (others_stay None t)

-- a place is set, or emptied
module _ (slots slots' : List (Option Slot)) (places : Places) (is : IsPlaced slots places) (id place : ℕ) (rest : (p : ℕ) → p ≢ place → get_or slots' p None ≡ get_or slots p None) where
  pub frees : get places id ≡ Some place → get_or slots' place None ≡ None → count_by is_some slots' + 1 ≡ count_by is_some slots → Turns slots slots' places (remove places id) id place None
  frees at empties less = record {
    here = get_remove_same places id;
    others = get_remove_other places id;
    holds = empties;
    rest = rest;
    own = λ q ne e. ne (is.apart q id place e at);
    counted = let l = len_less places id place at in let c = is.counted in omega arith;
  }

  pub sets : (slot : Slot) → get places id ≡ Some place → get_or slots' place None ≡ Some slot → count_by is_some slots' ≡ count_by is_some slots → Turns slots slots' places places id place (Some slot)
  sets slot at holds same_count = record {
    here = at;
    others = λ q ne. refl;
    holds = holds;
    rest = rest;
    own = λ q ne e. ne (is.apart q id place e at);
    counted = same_count ∙ is.counted;
  }

  pub adds : (slot : Slot) → get places id ≡ None → get_or slots place None ≡ None → get_or slots' place None ≡ Some slot → count_by is_some slots' ≡ count_by is_some slots + 1 → Turns slots slots' places (insert places id place) id place (Some slot)
  adds slot free vacant holds more = record {
    here = get_insert_same places id place;
    others = get_insert_other places id place;
    holds = holds;
    rest = rest;
    own = λ q ne e. false≢true (sym (ap is_some vacant) ∙ is.stands q place e);
    counted = more ∙ ap (λ n. n + 1) is.counted ∙ sym (len_added places id place free);
  }

-- nothing is in use
no_id : (id place : ℕ) → get (empty {X = ℕ} {R = nat_cmp}) id ≡ Some place → ⊥
no_id id place e = false≢true (ap is_some (sym (get-empty nat_cmp id) ∙ e))

pub none_placed : IsPlaced [] empty
none_placed = record {
  stands = λ id place e. absurd (no_id id place e);
  apart = λ i j place e f. absurd (no_id i place e);
  counted = sym (len-empty nat_cmp ℕ);
}

pub none_in_use : (slots : List (Option Slot)) → held_in slots empty ≡ empty
none_in_use slots = is_empty _ (λ q. no_place slots empty q (get-empty nat_cmp q))
