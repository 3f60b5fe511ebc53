-- The values that a reader finds come back from the fields of a packet that keep them.
use Rattle.std.specs.Prelude.{map, option_map}
use Rattle.std.proofs.Common.{◌≡◌, ℕ, Bool, true, false, cond, eqb, List, [], ◌∷◌, Option, Some, None, refl, sym, ap, ◌∙◌}
use Rattle.std.specs.Str.{is_utf8}
use Rattle.std.proofs.lemmas.Bool.{eqb-true}
use Rattle.mqtt5_base.specs.Codes.{text_back}
use Rattle.mqtt5_base.specs.Texts.{text_of}
use Rattle.mqtt5_base.specs.Grammar.{Kind, u8, u16, u32, varint, bytes, text, pair, Atom, number, content, number_of, content_of, couple, Entry, Found, kinds, entry_of}
use Rattle.mqtt5_base.specs.Fields.{IsKind, Items, values_of, last_of, props, IsBlock}
use Rattle.mqtt5_base.specs.Views.{text_atom, pair_atom, numbers, contents, texts, pairs, identifiers}
use Rattle.mqtt5_base.specs.FromValues.{pair_of, one_number, one_content, one_text, all_pairs, all_numbers}

-- ---- one value

-- a value as the field of a packet that keeps it gives it back
abbrev pub kept_by : Kind → Atom → Atom
kept_by u8 a = number (number_of a)
kept_by u16 a = number (number_of a)
kept_by u32 a = number (number_of a)
kept_by varint a = number (number_of a)
kept_by bytes a = content (content_of a)
kept_by text a = text_atom (text_of (content_of a))
kept_by pair a = pair_atom (pair_of a)

-- UTF-8 is the bytes of its text
utf8_again : (c : List ℕ) → is_utf8 c ≡ true → (text_of c).bytes ≡ c
utf8_again c h = ap (λ t. t.bytes) (text_back (record { bytes = c; is_text = h }))

-- A value that was read comes back.
pub kind_again : (k : Kind) (front : List ℕ) (a : Atom) → IsKind k front a → kept_by k a ≡ a
kind_again u8 front a h = ap (kept_by u8) h.2 ∙ sym h.2
kind_again u16 front a h = ap (kept_by u16) h.2 ∙ sym h.2
kind_again u32 front a h = ap (kept_by u32) h.2 ∙ sym h.2
kind_again varint front a h = ap (kept_by varint) h.2 ∙ sym h.2
kind_again bytes front a h = ap (kept_by bytes) h.2 ∙ sym h.2
kind_again text front a h = ap (kept_by text) h.2 ∙ ap content (utf8_again h.0 h.1.1) ∙ sym h.2
kind_again pair front a h = ap (kept_by pair) h.7 ∙ (λ i. couple (utf8_again h.2 h.5.1 i) (utf8_again h.3 h.6.1 i)) ∙ sym h.7

-- ---- the values of a set

-- the same by a kind that may be unknown
abbrev pub kept_as : Option Kind → Atom → Atom
kept_as None a = a
kept_as (Some k) a = kept_by k a

-- each value of these items comes back from a field of its identifier's kind
abbrev pub ComeBack : List (ℕ × Atom) → Type 0
ComeBack items = (id : ℕ) → map (kept_as (entry_of kinds id)) (values_of id items) ≡ values_of id items

-- The values of items that were read come back.
pub items_again : (table : List Entry) (bs : List ℕ) (items : List (ℕ × Atom)) → Items table bs items → ComeBack items
items_again table bs [] h id = refl
items_again table bs (i ∷ items) h id = by_test (eqb i.0 id) refl (items_again table h.1 items h.5 id)
  where
    value : i.0 ≡ id → kept_as (entry_of kinds id) i.1 ≡ i.1
    value same = ap (λ o. kept_as o i.1) (ap (entry_of kinds) (sym same) ∙ h.4.2.1) ∙ kind_again h.4.2.0 h.4.0 i.1 h.4.2.2

    by_test : (b : Bool) → eqb i.0 id ≡ b → map (kept_as (entry_of kinds id)) (values_of id items) ≡ values_of id items
        → map (kept_as (entry_of kinds id)) (cond b (i.1 ∷ values_of id items) (values_of id items)) ≡ cond b (i.1 ∷ values_of id items) (values_of id items)
    by_test true e rest = λ j. value (eqb-true i.0 id e) j ∷ rest j
    by_test false e rest = rest

-- ---- a property that stands once

-- one value at most
abbrev Few : List Atom → Type 0
Few [] = Unit {0}
Few (a ∷ []) = Unit {0}
Few (a ∷ b ∷ here) = ⊥

-- the last of values is one at most
last_few : (here : List Atom) → Few (last_of here)
last_few [] = tt
last_few (a ∷ []) = tt
last_few (a ∷ b ∷ here) = last_few (b ∷ here)

-- the last value comes back where each does
last_again : (f : Atom → Atom) (here : List Atom) → map f here ≡ here → map f (last_of here) ≡ last_of here
last_again f here h = of_last here ∙ ap last_of h
  where
    of_last : (here : List Atom) → map f (last_of here) ≡ last_of (map f here)
    of_last [] = refl
    of_last (a ∷ []) = refl
    of_last (a ∷ b ∷ here) = of_last (b ∷ here)

-- one number comes back
one_number_again : (here : List Atom) → Few here → map (kept_by u8) here ≡ here → numbers (one_number here) ≡ here
one_number_again [] few h = refl
one_number_again (a ∷ []) few h = h
one_number_again (a ∷ b ∷ here) few h = absurd few

-- A single number comes back from its field.
pub numbers_again : (here : List Atom) → map (kept_by u8) here ≡ here → numbers (one_number (last_of here)) ≡ last_of here
numbers_again here h = one_number_again (last_of here) (last_few here) (last_again (kept_by u8) here h)

-- one content comes back
one_content_again : (here : List Atom) → Few here → map (kept_by bytes) here ≡ here → contents (one_content here) ≡ here
one_content_again [] few h = refl
one_content_again (a ∷ []) few h = h
one_content_again (a ∷ b ∷ here) few h = absurd few

-- Single binary data come back from their field.
pub contents_again : (here : List Atom) → map (kept_by bytes) here ≡ here → contents (one_content (last_of here)) ≡ last_of here
contents_again here h = one_content_again (last_of here) (last_few here) (last_again (kept_by bytes) here h)

-- one text comes back
one_text_again : (here : List Atom) → Few here → map (kept_by text) here ≡ here → texts (one_text here) ≡ here
one_text_again [] few h = refl
one_text_again (a ∷ []) few h = h
one_text_again (a ∷ b ∷ here) few h = absurd few

-- A single text comes back from its field.
pub texts_again : (here : List Atom) → map (kept_by text) here ≡ here → texts (one_text (last_of here)) ≡ last_of here
texts_again here h = one_text_again (last_of here) (last_few here) (last_again (kept_by text) here h)

-- ---- a property that may stand often

-- what is made of what is made of each
made_twice : {X : Type 0} (f : X → Atom) (g : Atom → X) (here : List Atom) → map f (map g here) ≡ map (λ a. f (g a)) here
made_twice f g [] = refl
made_twice f g (a ∷ here) = ap (λ rest. f (g a) ∷ rest) (made_twice f g here)

-- Pairs of texts come back from their field.
pub pairs_again : (here : List Atom) → map (kept_by pair) here ≡ here → pairs (all_pairs here) ≡ here
pairs_again here h = made_twice pair_atom pair_of here ∙ h

-- Numbers come back from their field.
pub identifiers_again : (here : List Atom) → map (kept_by varint) here ≡ here → identifiers (all_numbers here) ≡ here
identifiers_again here h = made_twice number number_of here ∙ h

-- ---- blocks

-- no set, or one of items whose values come back
abbrev pub IsBack : List Entry → Option Found → Type 0
IsBack table None = Unit {0}
IsBack table (Some found) = (items : List (ℕ × Atom)) × (found ≡ props table items) × ComeBack items

-- The set of a block that was read is of such items.
pub block_back : (table : List Entry) (front : List ℕ) (p : Option Found) → IsBlock table front p → IsBack table p
block_back table front None h = tt
block_back table front (Some found) h = let s = h.4 in (s.1, s.3, items_again table h.1 s.1 s.2)

-- The set comes back from its fields where that of such items does.
pub set_again : {P : Type 0} (table : List Entry) (found : P → Found) (set : Found → P) → ((items : List (ℕ × Atom)) → ComeBack items → found (set (props table items)) ≡ props table items)
    → (p : Option Found) → IsBack table p → option_map found (option_map set p) ≡ p
set_again table found set again None h = refl
set_again table found set again (Some f) h = ap (λ g. Some (found (set g))) h.1 ∙ ap (λ g. Some g) (again h.0 h.2) ∙ ap (λ g. Some g) (sym h.1)
