-- This file serves the logic alone: what the types of a set's fields say of its values.
use Rattle.std.specs.Prelude.{◌≡◌, ◌<◌, ◌++◌, Bool, true, false, not, ◌&&◌, List, [], ◌∷◌, Option}
use Rattle.std.specs.Prelude.{Some, None}
use Rattle.std.specs.Str.{is_utf8}
use Rattle.mqtt5_base.specs.Grammar.{Kind, u8, u16, u32, varint, bytes, text, pair, Atom, number}
use Rattle.mqtt5_base.specs.Grammar.{content, couple, Entry, Found, allows, kinds, entry_of}

-- what the type of a field says of its value
abbrev pub AtomIs : Kind → Atom → Type 0
AtomIs u8 (number n) = Unit {0}
AtomIs u16 (number n) = n < 65536
AtomIs u32 (number n) = n < 4294967296
AtomIs varint (number n) = Unit {0}
AtomIs bytes (content c) = Unit {0}
AtomIs text (content c) = is_utf8 c ≡ true
AtomIs pair (couple a b) = (is_utf8 a ≡ true) × (is_utf8 b ≡ true)
AtomIs _ _ = ⊥

-- the same of each value
abbrev pub AtomsAre : Kind → List Atom → Type 0
AtomsAre k [] = Unit {0}
AtomsAre k (a ∷ here) = AtomIs k a × AtomsAre k here

-- the same of an identifier that may have no kind
abbrev pub AtomsAreBy : Option Kind → List Atom → Type 0
AtomsAreBy None here = ⊥
AtomsAreBy (Some k) here = AtomsAre k here

-- what may be added to what was there
abbrev pub Adds : Bool → List Atom → List Atom → Type 0
Adds true old here = Unit {0}
Adds false old [] = Unit {0}
Adds false [] (a ∷ []) = Unit {0}
Adds false [] (a ∷ b ∷ here) = ⊥
Adds false (o ∷ old) (a ∷ here) = ⊥

-- the values that a property of a set may have
pub record IsIn (e : Entry) (here : List Atom) : Type 0 where
  pub adds : Adds e.many [] here
  pub are : AtomsAreBy (entry_of kinds e.id) here

-- each property has values that it may have
abbrev pub IsSetOf : List Entry → Found → Type 0
IsSetOf [] [] = Unit {0}
IsSetOf [] (here ∷ found) = ⊥
IsSetOf (e ∷ es) [] = ⊥
IsSetOf (e ∷ es) (here ∷ found) = IsIn e here × IsSetOf es found

-- the same of a set that may be absent
abbrev pub IsBlockOf : List Entry → Option Found → Type 0
IsBlockOf table None = Unit {0}
IsBlockOf table (Some g) = IsSetOf table g

-- each identifier stands once
abbrev pub apart : List Entry → List Entry → Bool
apart seen [] = true
apart seen (e ∷ es) = not (allows seen e.id) && apart (seen ++ e ∷ []) es
