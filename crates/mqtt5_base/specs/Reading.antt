-- This file serves the logic alone: reading from left to right, which is proved to be what Fields
-- and Faults say.
use Rattle.std.specs.Prelude.{ℕ, zero, suc, ◌/◌, Bool, true, false, List, [], ◌∷◌, ◌++◌, length}
use Rattle.std.specs.Prelude.{take, drop, Option, Some, None, Result, Ok, Err, nat_lt, ◌==◌}
use Rattle.std.specs.Prelude.{if◌then◌else◌}
use Rattle.std.specs.Int.{Width, w8, w16, w32, byte_len, from_be_bytes}
use Rattle.std.specs.Str.{is_utf8}
use Rattle.mqtt5_base.specs.declared.error.Error.{Error}
use Rattle.mqtt5_base.specs.declared.error.Error.TheVariants.{MalformedPacket}
use Rattle.mqtt5_base.specs.declared.error.Error.TheVariants.{MalformedRemainingLength}
use Rattle.mqtt5_base.specs.declared.error.Error.TheVariants.{BoundaryCrossed, TopicNotUtf8}
use Rattle.mqtt5_base.specs.declared.error.Error.TheVariants.{InvalidPropertyType}
use Rattle.mqtt5_base.specs.declared.error.Error.TheVariants.{InvalidPacketType, PayloadRequired}
use Rattle.mqtt5_base.specs.Lengths.{Length, Overlong, Unfinished, Finished, length_at}
use Rattle.mqtt5_base.specs.Grammar.{Kind, u8, u16, u32, varint, bytes, text, pair, Atom, number}
use Rattle.mqtt5_base.specs.Grammar.{content, couple, Entry, Found, allows, kinds, entry_of, Test}
use Rattle.mqtt5_base.specs.Grammar.{number_of, passes, Value, plain, properties, Field, one}
use Rattle.mqtt5_base.specs.Grammar.{checked, block, remainder, Step, field, raw, note, judge, more}
use Rattle.mqtt5_base.specs.Grammar.{Part, choice, filled, each, Row, Group, optional, several}
use Rattle.mqtt5_base.specs.Grammar.{Content, Known, under, with_value, with_raw, cut_in, holds}
use Rattle.mqtt5_base.specs.Grammar.{unless_empty, number_in}
use Rattle.mqtt5_base.specs.Fields.{repeated}
use Rattle.mqtt5_base.specs.Frames.{Rows, lacks_body}

-- one after the other, to the first error
infixl 10 ◌>>=◌
abbrev pub ◌>>=◌ : {A B : Type 0} → Result A Error → (A → Result B Error) → Result B Error
(Ok x) >>= f = f x
(Err e) >>= f = Err e

-- ---- one value

-- a number
abbrev pub number_at : Width → List ℕ → Result (ℕ × List ℕ) Error
number_at w bs =
    if nat_lt (length bs) (byte_len w) then Err MalformedPacket
    else Ok (from_be_bytes w (take (byte_len w) bs), drop (byte_len w) bs)

-- binary data
unfoldable pub bytes_at : List ℕ → Result (List ℕ × List ℕ) Error
bytes_at bs = do
  n ← number_at w16 bs
  if nat_lt (length n.1) n.0 then Err (BoundaryCrossed n.0) else Ok (take n.0 n.1, drop n.0 n.1)

-- a text
unfoldable pub text_at : List ℕ → Result (List ℕ × List ℕ) Error
text_at bs = do
  t ← bytes_at bs
  if is_utf8 t.0 then Ok t else Err TopicNotUtf8

-- a number of this length, and the bytes behind it
abbrev pub by_length : Length → List ℕ → Result (ℕ × List ℕ) Error
by_length Overlong bs = Err MalformedRemainingLength
by_length Unfinished bs = Err MalformedPacket
by_length (Finished count n) bs = Ok (n, drop count bs)

-- a variable byte integer
unfoldable pub var_int_at : List ℕ → Result (ℕ × List ℕ) Error
var_int_at bs = by_length (length_at 4 bs) bs

-- a number as a value
abbrev pub as_number : Result (ℕ × List ℕ) Error → Result (Atom × List ℕ) Error
as_number r = r >>= λ n. Ok (number n.0, n.1)

-- bytes as a value
abbrev pub as_content : Result (List ℕ × List ℕ) Error → Result (Atom × List ℕ) Error
as_content r = r >>= λ t. Ok (content t.0, t.1)

-- a value of a kind
abbrev pub atom_at : Kind → List ℕ → Result (Atom × List ℕ) Error
atom_at u8 bs = as_number (number_at w8 bs)
atom_at u16 bs = as_number (number_at w16 bs)
atom_at u32 bs = as_number (number_at w32 bs)
atom_at varint bs = as_number (var_int_at bs)
atom_at bytes bs = as_content (bytes_at bs)
atom_at text bs = as_content (text_at bs)
atom_at pair bs =
    text_at bs >>= λ key. text_at key.1 >>= λ value. Ok (couple key.0 value.0, value.1)

-- ---- property blocks

-- a set without values
abbrev pub none_of : List Entry → Found
none_of [] = []
none_of (e ∷ es) = [] ∷ none_of es

-- a value added to those of a property
abbrev pub added : Bool → Atom → List Atom → List Atom
added true a old = old ++ a ∷ []
added false a old = a ∷ []

-- an item added to a set
abbrev pub with_item : List Entry → ℕ → Atom → Found → Found
with_item [] id a found = found
with_item (e ∷ es) id a [] = []
with_item (e ∷ es) id a (old ∷ found) =
    (if id == e.id then added e.many a old else old) ∷ with_item es id a found

-- a value of an identifier that may have no kind
abbrev pub atom_of_kind : Option Kind → ℕ → List ℕ → Result (Atom × List ℕ) Error
atom_of_kind None id bs = Err (InvalidPropertyType id)
atom_of_kind (Some k) id bs = atom_at k bs

-- a value of an identifier
unfoldable pub property_at : ℕ → List ℕ → Result (Atom × List ℕ) Error
property_at id bs = atom_of_kind (entry_of kinds id) id bs

-- an item, added to those before it
unfoldable pub item_at : List Entry → Found → List ℕ → Result (Found × List ℕ) Error
item_at table found bs = do
  id ← number_at w8 bs
  if allows table id.0
      then (property_at id.0 id.1 >>= λ a. Ok (with_item table id.0 a.0 found, a.1))
      else Err (InvalidPropertyType id.0)

-- items to the end of the bytes, which are no more than n
unfoldable pub items_within : ℕ → List Entry → Found → List ℕ → Result Found Error
items_within zero table found bs = Ok found
items_within (suc n) table found bs =
    if length bs == 0 then Ok found
    else (item_at table found bs >>= λ i. items_within n table i.0 i.1)

-- a property block
unfoldable pub block_at : List Entry → List ℕ → Result (Option Found × List ℕ) Error
block_at table bs = do
  n ← var_int_at bs
  if n.0 == 0 then Ok (None, n.1)
      else (if nat_lt (length n.1) n.0 then Err (BoundaryCrossed n.0)
      else (items_within n.0 table (none_of table) (take n.0 n.1) >>= λ found.
      Ok (Some found, drop n.0 n.1)))

-- ---- steps

-- a value that is judged
abbrev pub judged : Test → (ℕ → Error) → Atom → Result Atom Error
judged t w a = if passes t a then Ok a else Err (w (number_of a))

-- a field
abbrev pub field_at : Field → List ℕ → Result (Value × List ℕ) Error
field_at (one k) bs = atom_at k bs >>= λ a. Ok (plain a.0, a.1)
field_at (checked k t w) bs = atom_at k bs >>= λ a. judged t w a.0 >>= λ b. Ok (plain b, a.1)
field_at (block table) bs = block_at table bs >>= λ p. Ok (properties p.0, p.1)
field_at remainder bs = Ok (plain (content bs), [])

-- a field that may be absent
abbrev pub optional_at : Bool → Field → Value → List ℕ → Result (Value × List ℕ) Error
optional_at true f d bs = field_at f bs
optional_at false f d bs = Ok (d, bs)

-- a judgement that may be absent
abbrev pub optional_judged : Bool → Test → (ℕ → Error) → Atom → Result Atom Error
optional_judged true t w a = judged t w a
optional_judged false t w a = Ok a

-- bytes that must be left
abbrev pub some_left : Error → List ℕ → Result (List ℕ) Error
some_left w bs = if length bs == 0 then Err w else Ok bs

-- the steps in order
abbrev pub read_steps : List Step → Known → List ℕ → Result (Known × List ℕ) Error
read_steps [] known bs = Ok (known, bs)
read_steps (field c f d ∷ steps) known bs =
    optional_at (holds known c) f d bs >>= λ v. read_steps steps (with_value known v.0) v.1
read_steps (raw k ∷ steps) known bs =
    atom_at k bs >>= λ a. read_steps steps (with_raw known (plain a.0)) a.1
read_steps (note c ∷ steps) known bs =
    read_steps steps (with_value known (plain (cut_in known c))) bs
read_steps (judge c s t w ∷ steps) known bs =
    optional_judged (holds known c) t w (cut_in known s) >>= λ a. read_steps steps known bs
read_steps (more w ∷ steps) known bs = some_left w bs >>= λ b. read_steps steps known bs

-- ---- parts

-- what steps of their own keep
abbrev pub kept_at : List Step → ℕ → List ℕ → Result (List Value × List ℕ) Error
kept_at steps n bs = read_steps steps (under n 0) bs >>= λ k. Ok (k.0.kept, k.1)

-- steps again and again to the end of the bytes, which are no more than n, behind those read before
unfoldable pub repeated_within : ℕ → List Step → List (List Value) → List ℕ
    → Result (List (List Value)) Error
repeated_within zero steps front bs = Ok front
repeated_within (suc n) steps front bs =
    if length bs == 0 then Ok front
    else (kept_at steps 0 bs >>= λ r. repeated_within n steps (front ++ r.0 ∷ []) r.1)

-- the steps of a choice
abbrev pub choice_at : Bool → List Step → List Step → ℕ → List ℕ
    → Result (Option (List Value) × List ℕ) Error
choice_at true off on n bs = kept_at on n bs >>= λ k. Ok (Some k.0, k.1)
choice_at false off on n bs = kept_at off n bs >>= λ k. Ok (None, k.1)

-- steps that may stand for nothing
abbrev pub filled_at : List Step → ℕ → List ℕ → Result (Option (List Value) × List ℕ) Error
filled_at steps n bs = kept_at steps n bs >>= λ k. Ok (unless_empty k.0, k.1)

-- a part
abbrev pub part_at : Part → List Value → List ℕ → Result (Group × List ℕ) Error
part_at (choice k c off on) values bs =
    let n = number_in values k in
    choice_at (holds (under n 0) c) off on n bs >>= λ g. Ok (optional g.0, g.1)
part_at (filled k steps) values bs =
    filled_at steps (number_in values k) bs >>= λ g. Ok (optional g.0, g.1)
part_at (each f steps) values bs =
    repeated_within (length bs) (repeated f steps) [] bs >>= λ g. Ok (several g, [])

-- the parts in order
abbrev pub parts_at : List Part → List Value → List ℕ → Result (List Group × List ℕ) Error
parts_at [] values bs = Ok ([], bs)
parts_at (p ∷ ps) values bs =
    part_at p values bs >>= λ g. parts_at ps values g.1 >>= λ gs. Ok (g.0 ∷ gs.0, gs.1)

-- ---- rows

-- the values of a row, and the rest
abbrev pub read_row : Row → ℕ → ℕ → List ℕ → Result (Content × List ℕ) Error
read_row row first len body =
    read_steps row.steps (under first len) body >>= λ k. parts_at row.parts k.0.values k.1 >>= λ g.
    Ok ((k.0.kept, g.0), g.1)

-- the values of a row
abbrev pub values_in : Row → ℕ → ℕ → List ℕ → Result Content Error
values_in row first len body = read_row row first len body >>= λ r. Ok r.0

-- ---- frames

-- the values of a body, by the row of its type
abbrev pub row_values : Option Row → ℕ → List ℕ → Result Content Error
row_values None first body = Err (InvalidPacketType (first / 16))
row_values (Some row) first body =
    if lacks_body row body then Err PayloadRequired else values_in row first (length body) body

-- the values of a frame
unfoldable pub frame_values : Rows → ℕ → List ℕ → Result Content Error
frame_values rows first body = row_values (entry_of rows (first / 16)) first body

-- the body behind the remaining length
abbrev pub body_in : Length → List ℕ → List ℕ
body_in Overlong bs = []
body_in Unfinished bs = []
body_in (Finished count n) bs = drop count bs

-- the values of a whole frame
unfoldable pub frame_at : Rows → List ℕ → Result Content Error
frame_at rows [] = Err MalformedPacket
frame_at rows (first ∷ bs) = frame_values rows first (body_in (length_at 4 bs) bs)
