-- What packets are made of, as data (MQTT 5.0 sections 1.5, 2 and 3).
use Rattle.std.specs.Prelude.{ℕ, zero, suc, ◌/◌, ◌%◌, Bool, true, false, List, [], ◌∷◌, ◌++◌}
use Rattle.std.specs.Prelude.{length, Option, Some, None, nat_lt, ◌==◌, if◌then◌else◌}
use Rattle.std.specs.List.{list_all, list_any}
use Rattle.std.specs.Str.{bytes_eq}
use Rattle.mqtt5_base.specs.declared.error.Error.{Error}

-- ---- one value (1.5)

-- one, two and four byte integers, variable byte integers, binary data, UTF-8 strings and pairs of
-- them
pub data Kind : Type 0 where
  u8 : Kind
  u16 : Kind
  u32 : Kind
  varint : Kind
  bytes : Kind
  text : Kind
  pair : Kind

-- one value: a number, the bytes of binary data or of a text, or those of two texts
pub data Atom : Type 0 where
  number : ℕ → Atom
  content : List ℕ → Atom
  couple : List ℕ → List ℕ → Atom

-- a value's number; of another value 0
abbrev pub number_of : Atom → ℕ
number_of (number n) = n
number_of (content c) = 0
number_of (couple a b) = 0

-- a value's bytes; of another value none
abbrev pub content_of : Atom → List ℕ
content_of (number n) = []
content_of (content c) = c
content_of (couple a b) = []

-- ---- properties (2.2.2)

-- a property that a block may have, once or often (2.2.2.2)
pub record Entry : Type 0 where
  pub id : ℕ
  pub many : Bool

-- a property that stands once
abbrev pub single : ℕ → Entry
single id = record { id = id; many = false }

-- a property that may stand often
abbrev pub several_of : ℕ → Entry
several_of id = record { id = id; many = true }

-- the values of each property of a table
abbrev pub Found : Type 0
Found = List (List Atom)

-- whether a table has an identifier
abbrev pub allows : List Entry → ℕ → Bool
allows table id = list_any (λ e. id == e.id) table

-- each identifier's kind (2.2.2.2)
abbrev pub kinds : List (ℕ × Kind)
kinds =
    (1, u8) ∷ (2, u32) ∷ (3, text) ∷ (8, text) ∷ (9, bytes) ∷ (11, varint) ∷ (17, u32) ∷ (18, text)
    ∷ (19, u16) ∷ (21, text) ∷ (22, bytes) ∷ (23, u8)
    ∷ (24, u32) ∷ (25, u8) ∷ (26, text) ∷ (28, text) ∷ (31, text) ∷ (33, u16) ∷ (34, u16)
    ∷ (35, u16) ∷ (36, u8) ∷ (37, u8) ∷ (38, pair) ∷ (39, u32)
    ∷ (40, u8) ∷ (41, u8) ∷ (42, u8) ∷ []

-- what a table has for a number, if it has the number
abbrev pub entry_of : {A : Type 0} → List (ℕ × A) → ℕ → Option A
entry_of [] n = None
entry_of (e ∷ es) n = if n == e.0 then Some e.1 else entry_of es n

-- ---- judgements (3)

-- what a judged value must be: one of these numbers, not 0, or this text
pub data Test : Type 0 where
  any_of : List ℕ → Test
  not_zero : Test
  spells : List ℕ → Test

-- whether a number is one of these
abbrev pub is_among : List ℕ → ℕ → Bool
is_among ns n = list_any (λ x. n == x) ns

-- whether a value is what it must be
abbrev pub passes : Test → Atom → Bool
passes (any_of ns) a = is_among ns (number_of a)
passes not_zero a = nat_lt 0 (number_of a)
passes (spells t) a = bytes_eq (content_of a) t

-- ---- rows: a packet's fields in order (3)

-- a value of a packet: one, or a property block, which may be absent
pub data Value : Type 0 where
  plain : Atom → Value
  properties : Option Found → Value

-- a value that is one; of a property block 0
abbrev pub atom_of : Value → Atom
atom_of (plain a) = a
atom_of (properties p) = number 0

-- a field: one value, one that is judged, a property block, or all that is left
pub data Field : Type 0 where
  one : Kind → Field
  -- a value that is judged, and the fault of a number that isn't what it must be
  checked : Kind → Test → (ℕ → Error) → Field
  block : List Entry → Field
  -- all bytes that are left
  remainder : Field

-- where a value is found: given with the row (the frame's first byte, or the flags of a Connect),
-- or read before, as which of the values from 0 on
pub data Source : Type 0 where
  given : Source
  read : ℕ → Source

-- a whole value; or of its number divided by the first the remainder by the second, which are some
-- of its bits
pub data Cut : Type 0 where
  whole : Source → Cut
  bits : Source → ℕ → ℕ → Cut

-- when a field is there, or a judgement is made
pub data Condition : Type 0 where
  always : Condition
  -- the body is longer than that
  longer : ℕ → Condition
  -- these bits aren't all 0
  set : Cut → Condition

-- one step of a row
pub data Step : Type 0 where
  -- a field, where the condition holds; else that value stands for it
  field : Condition → Field → Value → Step
  -- a value that isn't kept, or of which only bits are
  raw : Kind → Step
  -- a value, or bits, of what was read before
  note : Cut → Step
  -- what must be so, where the condition holds, and the fault of a number that isn't
  judge : Condition → Cut → Test → (ℕ → Error) → Step
  -- bytes must be left, or else the fault
  more : Error → Step

-- Steps of their own, after a packet's: under a value that was read, either the second steps, where
-- the condition holds, or else the first, of which nothing is kept; under a value, steps that stand
-- for nothing where each of their values is empty; a field and steps again and again to the end of
-- the body.
pub data Part : Type 0 where
  choice : ℕ → Condition → List Step → List Step → Part
  filled : ℕ → List Step → Part
  each : Field → List Step → Part

-- a packet type's row: its steps, and then its parts
pub record Row : Type 0 where
  pub steps : List Step
  pub parts : List Part
  -- whether a body may have no bytes
  pub bare : Bool
  -- whether fields that a short body leaves out are left out in writing, where they have the values
  -- that then stand
  pub brief : Bool

-- what a part gives
pub data Group : Type 0 where
  optional : Option (List Value) → Group
  several : List (List Value) → Group

-- a packet as the values of its row and of its parts
abbrev pub Content : Type 0
Content = List Value × List Group

-- ---- what is known of a row so far (3)

-- what is known while a row is gone through
pub record Known : Type 0 where
  -- the frame's first byte, or the flags of a Connect
  pub first : ℕ
  -- the body's length
  pub length : ℕ
  -- each value so far, and those that are kept
  pub values : List Value
  pub kept : List Value

-- nothing yet but the first byte, or the flags, and the length
abbrev pub under : ℕ → ℕ → Known
under n len = record { first = n; length = len; values = []; kept = [] }

-- with a value more, which is kept
abbrev pub with_value : Known → Value → Known
with_value known v = record {
  first = known.first;
  length = known.length;
  values = known.values ++ v ∷ [];
  kept = known.kept ++ v ∷ [];
}

-- with a value more, which isn't kept
abbrev pub with_raw : Known → Value → Known
with_raw known v = record {
  first = known.first;
  length = known.length;
  values = known.values ++ v ∷ [];
  kept = known.kept;
}

-- the value at a place, from 0 on; past the end 0
abbrev pub atom_in : List Value → ℕ → Atom
atom_in [] k = number 0
atom_in (v ∷ vs) zero = atom_of v
atom_in (v ∷ vs) (suc k) = atom_in vs k

-- its number
abbrev pub number_in : List Value → ℕ → ℕ
number_in vs k = number_of (atom_in vs k)

-- the value of a source
abbrev pub source_in : Known → Source → Atom
source_in known given = number known.first
source_in known (read k) = atom_in known.values k

-- the value of a cut
abbrev pub cut_in : Known → Cut → Atom
cut_in known (whole s) = source_in known s
cut_in known (bits s below count) = number (number_of (source_in known s) / below % count)

-- whether a condition holds
abbrev pub holds : Known → Condition → Bool
holds known always = true
holds known (longer n) = nat_lt n known.length
holds known (set c) = nat_lt 0 (number_of (cut_in known c))

-- whether none of the values has bytes
abbrev pub all_empty : List Value → Bool
all_empty vs = list_all (λ v. length (content_of (atom_of v)) == 0) vs

-- values that stand for nothing where each is empty
abbrev pub unless_empty : List Value → Option (List Value)
unless_empty vs = if all_empty vs then None else Some vs

-- ---- words for rows (3)

-- a field that is always there
abbrev pub there : Field → Step
there f = field always f (plain (number 0))

-- a bit of a number, by its worth
abbrev pub bit_of : Source → ℕ → Cut
bit_of s worth = bits s worth 2

-- this number alone
abbrev pub is : ℕ → Test
is n = any_of (n ∷ [])

-- a QoS (4.3)
abbrev pub is_qos : Test
is_qos = any_of (0 ∷ 1 ∷ 2 ∷ [])

-- a row of steps alone, which needs a body
abbrev pub steps_row : List Step → Row
steps_row steps = record { steps = steps; parts = []; bare = false; brief = false }
