-- Items that are read one after the other make the set that they are said to make.
use Rattle.std.proofs.Common.{◌≡◌, ℕ, Bool, true, false, cond, eqb, List, [], ◌∷◌, ◌++◌, refl, sym, ap, ◌∙◌, append_assoc}
use Rattle.std.proofs.lemmas.List.{append-nil}
use Rattle.mqtt5_base.specs.Grammar.{Atom, Entry, Found}
use Rattle.mqtt5_base.specs.Fields.{values_of, last_of, chosen, props}
use Rattle.mqtt5_base.specs.Reading.{none_of, added, with_item}

-- what items add to those found
abbrev pub adds : List Entry → Found → List (ℕ × Atom) → Found
adds table found [] = found
adds table found (i ∷ items) = adds table (with_item table i.0 i.1 found) items

-- the same at one entry
abbrev adds_at : Bool → ℕ → List Atom → List (ℕ × Atom) → List Atom
adds_at many id old [] = old
adds_at many id old (i ∷ items) = adds_at many id (cond (eqb i.0 id) (added many i.1 old) old) items

-- each entry stands for itself
by_entry : (e : Entry) (es : List Entry) (old : List Atom) (found : Found) (items : List (ℕ × Atom)) → adds (e ∷ es) (old ∷ found) items ≡ adds_at e.many e.id old items ∷ adds es found items
by_entry e es old found [] = refl
by_entry e es old found (i ∷ items) = by_entry e es (cond (eqb i.0 e.id) (added e.many i.1 old) old) (with_item es i.0 i.1 found) items

-- no entries take no items
adds_nothing : (items : List (ℕ × Atom)) → adds [] [] items ≡ []
adds_nothing [] = refl
adds_nothing (i ∷ items) = adds_nothing items

-- of a list, each value in order
many_at : (id : ℕ) (old : List Atom) (items : List (ℕ × Atom)) → adds_at true id old items ≡ old ++ values_of id items
many_at id old [] = sym (append-nil old)
many_at id old (i ∷ items) = by_test (eqb i.0 id) (many_at id (old ++ i.1 ∷ []) items) (many_at id old items)
  where
    by_test : (b : Bool) → adds_at true id (old ++ i.1 ∷ []) items ≡ (old ++ i.1 ∷ []) ++ values_of id items → adds_at true id old items ≡ old ++ values_of id items
        → adds_at true id (cond b (old ++ i.1 ∷ []) old) items ≡ old ++ cond b (i.1 ∷ values_of id items) (values_of id items)
    by_test true h k = h ∙ append_assoc old (i.1 ∷ []) (values_of id items)
    by_test false h k = k

-- the last of values, or those before
abbrev last_or : List Atom → List Atom → List Atom
last_or old [] = old
last_or old (a ∷ here) = last_of (a ∷ here)

-- a value before others is the last only where there are none
last_more : (a : Atom) (here : List Atom) → last_or (a ∷ []) here ≡ last_of (a ∷ here)
last_more a [] = refl
last_more a (b ∷ here) = refl

-- of a single property, the last value
single_at : (id : ℕ) (old : List Atom) (items : List (ℕ × Atom)) → adds_at false id old items ≡ last_or old (values_of id items)
single_at id old [] = refl
single_at id old (i ∷ items) = by_test (eqb i.0 id) (single_at id (i.1 ∷ []) items) (single_at id old items)
  where
    by_test : (b : Bool) → adds_at false id (i.1 ∷ []) items ≡ last_or (i.1 ∷ []) (values_of id items) → adds_at false id old items ≡ last_or old (values_of id items)
        → adds_at false id (cond b (i.1 ∷ []) old) items ≡ last_or old (cond b (i.1 ∷ values_of id items) (values_of id items))
    by_test true h k = h ∙ last_more i.1 (values_of id items)
    by_test false h k = k

-- an entry begins with no values
chosen_at : (many : Bool) (id : ℕ) (items : List (ℕ × Atom)) → adds_at many id [] items ≡ chosen many (values_of id items)
chosen_at true id items = many_at id [] items
chosen_at false id items = single_at id [] items ∙ last_nil (values_of id items)
  where
    last_nil : (here : List Atom) → last_or [] here ≡ last_of here
    last_nil [] = refl
    last_nil (a ∷ here) = refl

-- What items add to none is the set of the items.
pub adds_props : (table : List Entry) (items : List (ℕ × Atom)) → adds table (none_of table) items ≡ props table items
adds_props [] items = adds_nothing items
adds_props (e ∷ es) items = by_entry e es [] (none_of es) items ∙ (λ i. chosen_at e.many e.id items i ∷ adds_props es items i)

-- An item after others is added to what they make.
adds_more : (table : List Entry) (found : Found) (items : List (ℕ × Atom)) (id : ℕ) (a : Atom) → adds table found (items ++ (id, a) ∷ []) ≡ with_item table id a (adds table found items)
adds_more table found [] id a = refl
adds_more table found (i ∷ items) id a = adds_more table (with_item table i.0 i.1 found) items id a

-- An item added to the set of others gives the set of them all.
pub props_more : (table : List Entry) (items : List (ℕ × Atom)) (id : ℕ) (a : Atom) → with_item table id a (props table items) ≡ props table (items ++ (id, a) ∷ [])
props_more table items id a =
    ap (with_item table id a) (sym (adds_props table items)) ∙ sym (adds_more table (none_of table) items id a) ∙ adds_props table (items ++ (id, a) ∷ [])
