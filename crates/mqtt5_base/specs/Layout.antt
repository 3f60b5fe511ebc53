-- What is written for a packet, by the same rows, and why nothing is (MQTT 5.0 sections 1.5, 2.2.2
-- and 3).
use Rattle.std.specs.Prelude.{ℕ, ◌==◌, ◌&&◌, Bool, true, false, not, List, [], ◌∷◌, ◌++◌, length}
use Rattle.std.specs.Prelude.{map, option_map, Option, Some, None, is_none, Result, Ok, Err, nat_lt}
use Rattle.std.specs.Prelude.{if◌then◌else◌}
use Rattle.std.specs.Int.{w16, w32, to_be_bytes}
use Rattle.std.specs.List.{flat_map, list_all}
use Rattle.mqtt5_base.specs.declared.error.Error.{Error}
use Rattle.mqtt5_base.specs.declared.error.Error.TheVariants.{PayloadTooLong}
use Rattle.mqtt5_base.specs.VarInt.{var_int}
use Rattle.mqtt5_base.specs.Grammar.{Kind, u8, u16, u32, varint, Atom, number, content, couple}
use Rattle.mqtt5_base.specs.Grammar.{number_of, content_of, Entry, Found, kinds, entry_of, passes}
use Rattle.mqtt5_base.specs.Grammar.{Value, plain, properties, atom_of, Field, one, checked, block}
use Rattle.mqtt5_base.specs.Grammar.{remainder, Condition, always, longer, set, Step, field, raw}
use Rattle.mqtt5_base.specs.Grammar.{note, judge, more, Part, choice, filled, each, Row, Group}
use Rattle.mqtt5_base.specs.Grammar.{optional, several, Content, Known, under, with_value, with_raw}
use Rattle.mqtt5_base.specs.Grammar.{cut_in, number_in}
use Rattle.mqtt5_base.specs.Fields.{repeated}

-- ---- a packet as it is written (3)

-- the values of steps: those that a reader doesn't keep, and those that it keeps
pub record Written : Type 0 where
  pub raws : List Value
  pub kept : List Value

-- the values of a part: of one that may be absent, or of each item of a list
pub data WrittenGroup : Type 0 where
  one_or_none : Option Written → WrittenGroup
  listed : List Written → WrittenGroup

-- the frame's first byte, the values of the row's steps, and those of its parts
pub record WrittenPacket : Type 0 where
  pub first : ℕ
  pub head : Written
  pub groups : List WrittenGroup

-- values of which each is kept
abbrev pub just : List Value → Written
just kept = record { raws = []; kept = kept }

-- a packet of steps alone, each of whose values is kept
abbrev pub plainly : ℕ → List Value → WrittenPacket
plainly first kept = record { first = first; head = just kept; groups = [] }

-- what a reader keeps of each item of a list
abbrev pub all_kept : List Written → List (List Value)
all_kept ws = map (λ w. w.kept) ws

-- a part as it is read
abbrev pub group_of : WrittenGroup → Group
group_of (one_or_none w) = optional (option_map (λ x. x.kept) w)
group_of (listed ws) = several (all_kept ws)

-- the same packet as it is read
abbrev pub content_of_packet : WrittenPacket → Content
content_of_packet p = (p.head.kept, map group_of p.groups)

-- ---- bytes of values (1.5, 2.2.2)

-- two bytes of length, and the bytes (1.5.6)
abbrev pub with_length : List ℕ → List ℕ
with_length bs = to_be_bytes w16 (length bs) ++ bs

-- the bytes of a value of a kind: of a number, of binary data or a text, and of two texts (1.5)
abbrev pub atom_bytes : Kind → Atom → List ℕ
atom_bytes u8 a = number_of a ∷ []
atom_bytes u16 a = to_be_bytes w16 (number_of a)
atom_bytes u32 a = to_be_bytes w32 (number_of a)
atom_bytes varint a = var_int (number_of a)
atom_bytes k (number n) = []
atom_bytes k (content c) = with_length c
atom_bytes k (couple a b) = with_length a ++ with_length b

-- the bytes of values, each behind its identifier (2.2.2.2)
abbrev pub tagged : ℕ → Kind → List Atom → List ℕ
tagged id k here = flat_map (λ a. id ∷ atom_bytes k a) here

-- the same of an identifier that may have no kind
abbrev pub tagged_by : ℕ → Option Kind → List Atom → List ℕ
tagged_by id None here = []
tagged_by id (Some k) here = tagged id k here

-- the bytes of the properties, in the table's order (2.2.2.2)
abbrev pub items_bytes : List Entry → Found → List ℕ
items_bytes [] found = []
items_bytes (e ∷ es) [] = []
items_bytes (e ∷ es) (here ∷ found) =
    tagged_by e.id (entry_of kinds e.id) here ++ items_bytes es found

-- the length of the items, and the items; of an absent set the length 0 (2.2.2.1)
abbrev pub block_bytes : List Entry → Option Found → List ℕ
block_bytes table None = 0 ∷ []
block_bytes table (Some found) =
    var_int (length (items_bytes table found)) ++ items_bytes table found

-- the property set of a value, if it has one
abbrev pub found_of : Value → Option Found
found_of (plain a) = None
found_of (properties p) = p

-- the bytes of a field; a value that the field refuses has none
abbrev pub field_bytes : Field → Value → List ℕ
field_bytes (one k) v = atom_bytes k (atom_of v)
field_bytes (checked k t w) v = if passes t (atom_of v) then atom_bytes k (atom_of v) else []
field_bytes (block table) v = block_bytes table (found_of v)
field_bytes remainder v = content_of (atom_of v)

-- ---- bytes of rows (3)

-- whether a field is written: a short body leaves out what a reader of a short body does without
abbrev pub is_written : Bool → Known → Condition → Bool
is_written short known always = true
is_written short known (longer n) = not short
is_written short known (set c) = nat_lt 0 (number_of (cut_in known c))

-- the bytes of the fields in order, each where it is written
abbrev pub steps_bytes : Bool → List Step → Known → List Value → List Value → List ℕ
steps_bytes short [] known raws kept = []
steps_bytes short (field c f d ∷ steps) known raws [] = []
steps_bytes short (field c f d ∷ steps) known raws (v ∷ kept) =
    (if is_written short known c then field_bytes f v else [])
    ++ steps_bytes short steps (with_value known v) raws kept
steps_bytes short (raw k ∷ steps) known [] kept = []
steps_bytes short (raw k ∷ steps) known (v ∷ raws) kept =
    atom_bytes k (atom_of v) ++ steps_bytes short steps (with_raw known v) raws kept
steps_bytes short (note c ∷ steps) known raws [] = []
steps_bytes short (note c ∷ steps) known raws (v ∷ kept) =
    steps_bytes short steps (with_value known v) raws kept
steps_bytes short (judge c s t w ∷ steps) known raws kept = steps_bytes short steps known raws kept
steps_bytes short (more w ∷ steps) known raws kept = steps_bytes short steps known raws kept

-- the values of steps in their order
abbrev pub in_order : List Step → List Value → List Value → List Value
in_order [] raws kept = []
in_order (field c f d ∷ steps) raws [] = []
in_order (field c f d ∷ steps) raws (v ∷ kept) = v ∷ in_order steps raws kept
in_order (raw k ∷ steps) [] kept = []
in_order (raw k ∷ steps) (v ∷ raws) kept = v ∷ in_order steps raws kept
in_order (note c ∷ steps) raws [] = []
in_order (note c ∷ steps) raws (v ∷ kept) = v ∷ in_order steps raws kept
in_order (judge c s t w ∷ steps) raws kept = in_order steps raws kept
in_order (more w ∷ steps) raws kept = in_order steps raws kept

-- the bytes of steps of their own, under a number
abbrev pub written_bytes : List Step → ℕ → Written → List ℕ
written_bytes steps n w = steps_bytes false steps (under n 0) w.raws w.kept

-- the same of a part that may be absent
abbrev pub optional_bytes : List Step → ℕ → Option Written → List ℕ
optional_bytes steps n None = []
optional_bytes steps n (Some w) = written_bytes steps n w

-- the same of each item of a list
abbrev pub listed_bytes : List Step → List Written → List ℕ
listed_bytes steps ws = flat_map (written_bytes steps 0) ws

-- the bytes of a part
abbrev pub part_bytes : Part → List Value → WrittenGroup → List ℕ
part_bytes (choice k c off on) values (one_or_none w) = optional_bytes on (number_in values k) w
part_bytes (filled k steps) values (one_or_none w) = optional_bytes steps (number_in values k) w
part_bytes (each f steps) values (listed ws) = listed_bytes (repeated f steps) ws
part_bytes p values g = []

-- the bytes of the parts in order
abbrev pub parts_bytes : List Part → List Value → List WrittenGroup → List ℕ
parts_bytes [] values gs = []
parts_bytes (p ∷ ps) values [] = []
parts_bytes (p ∷ ps) values (g ∷ gs) = part_bytes p values g ++ parts_bytes ps values gs

-- whether a value is the one that stands for a field that is left out
abbrev pub stands : Value → Value → Bool
stands (plain (number d)) (plain (number n)) = n == d
stands (properties None) (properties p) = is_none p
stands d v = false

-- whether each field that a short body leaves out has that value
abbrev pub is_spare : List Step → List Value → List Value → Bool
is_spare [] raws kept = true
is_spare (field (longer n) f d ∷ steps) raws (v ∷ kept) = stands d v && is_spare steps raws kept
is_spare (field c f d ∷ steps) raws (v ∷ kept) = is_spare steps raws kept
is_spare (note c ∷ steps) raws (v ∷ kept) = is_spare steps raws kept
is_spare (raw k ∷ steps) (v ∷ raws) kept = is_spare steps raws kept
is_spare (judge c s t w ∷ steps) raws kept = is_spare steps raws kept
is_spare (more w ∷ steps) raws kept = is_spare steps raws kept
is_spare steps raws kept = false

-- whether a body is written short (3.4.2.1, 3.14.2.1)
abbrev pub is_short : Row → WrittenPacket → Bool
is_short row p = row.brief && is_spare row.steps p.head.raws p.head.kept

-- the bytes of a packet's steps and parts (3)
abbrev pub body_bytes : Row → WrittenPacket → List ℕ
body_bytes row p =
    steps_bytes (is_short row p) row.steps (under p.first 0) p.head.raws p.head.kept
    ++ parts_bytes row.parts (in_order row.steps p.head.raws p.head.kept) p.groups

-- the first byte, the remaining length and the body (2.1)
abbrev pub frame_of : ℕ → List ℕ → List ℕ
frame_of first body = first ∷ var_int (length body) ++ body

-- The first byte, the remaining length and the body; its length is what `size` answers, also where
-- nothing can be written.
abbrev pub layout : Row → WrittenPacket → List ℕ
layout row p = frame_of p.first (body_bytes row p)

-- ---- what can be written (1.5, 2.2.2, 3)

-- a length that goes into two bytes (1.5.4, 1.5.6)
abbrev pub fits_two_bytes : List ℕ → Bool
fits_two_bytes bs = nat_lt (length bs) 65536

-- a number that goes into a variable byte integer (1.5.5)
abbrev pub fits_var_int : ℕ → Bool
fits_var_int n = nat_lt n 268435456

-- no text or bytes of over 65,535 bytes, no number over 268,435,455 as a variable byte integer
-- (1.5)
abbrev pub atom_fits : Kind → Atom → Bool
atom_fits varint a = fits_var_int (number_of a)
atom_fits k (number n) = true
atom_fits k (content c) = fits_two_bytes c
atom_fits k (couple a b) = fits_two_bytes a && fits_two_bytes b

-- whether each of the values fits
abbrev pub all_fit : Kind → List Atom → Bool
all_fit k here = list_all (atom_fits k) here

-- the same of an identifier that may have no kind
abbrev pub all_fit_by : Option Kind → List Atom → Bool
all_fit_by None here = true
all_fit_by (Some k) here = all_fit k here

-- whether each property fits
abbrev pub items_fit : List Entry → Found → Bool
items_fit [] found = true
items_fit (e ∷ es) [] = true
items_fit (e ∷ es) (here ∷ found) = all_fit_by (entry_of kinds e.id) here && items_fit es found

-- whether each property fits, and the length of the items (2.2.2.1)
abbrev pub block_fits : List Entry → Option Found → Bool
block_fits table None = true
block_fits table (Some found) =
    items_fit table found && fits_var_int (length (items_bytes table found))

-- a block's bytes, or why it isn't writable (2.2.2)
abbrev pub block_writing : List Entry → Option Found → Result (List ℕ) Error
block_writing table p = if block_fits table p then Ok (block_bytes table p) else Err PayloadTooLong

-- whether a field's value fits
abbrev pub field_fits : Field → Value → Bool
field_fits (one k) v = atom_fits k (atom_of v)
field_fits (checked k t w) v = atom_fits k (atom_of v)
field_fits (block table) v = block_fits table (found_of v)
field_fits remainder v = true

-- whether the value of each step fits
abbrev pub steps_fit : List Step → List Value → List Value → Bool
steps_fit (field c f d ∷ steps) raws (v ∷ kept) = field_fits f v && steps_fit steps raws kept
steps_fit (raw k ∷ steps) (v ∷ raws) kept = atom_fits k (atom_of v) && steps_fit steps raws kept
steps_fit (note c ∷ steps) raws (v ∷ kept) = steps_fit steps raws kept
steps_fit (judge c s t w ∷ steps) raws kept = steps_fit steps raws kept
steps_fit (more w ∷ steps) raws kept = steps_fit steps raws kept
steps_fit steps raws kept = true

-- the same of steps of their own
abbrev pub written_fits : List Step → Written → Bool
written_fits steps w = steps_fit steps w.raws w.kept

-- the bytes of steps by themselves, or why they aren't writable
abbrev pub steps_writing : List Step → ℕ → Written → Result (List ℕ) Error
steps_writing steps n w =
    if written_fits steps w then Ok (written_bytes steps n w) else Err PayloadTooLong

-- whether the values of a part that may be absent fit
abbrev pub optional_fits : List Step → Option Written → Bool
optional_fits steps None = true
optional_fits steps (Some w) = written_fits steps w

-- the same of each item of a list
abbrev pub listed_fit : List Step → List Written → Bool
listed_fit steps ws = list_all (written_fits steps) ws

-- whether the values of a part fit
abbrev pub part_fits : Part → WrittenGroup → Bool
part_fits (choice k c off on) (one_or_none w) = optional_fits on w
part_fits (filled k steps) (one_or_none w) = optional_fits steps w
part_fits (each f steps) (listed ws) = listed_fit (repeated f steps) ws
part_fits p g = true

-- whether the values of each part fit
abbrev pub parts_fit : List Part → List WrittenGroup → Bool
parts_fit (p ∷ ps) (g ∷ gs) = part_fits p g && parts_fit ps gs
parts_fit ps gs = true

-- each value fits, and so does the remaining length (2.1.4)
abbrev pub fits : Row → WrittenPacket → Bool
fits row p =
    steps_fit row.steps p.head.raws p.head.kept
    && (parts_fit row.parts p.groups && fits_var_int (length (body_bytes row p)))

-- whether a list has an item
abbrev pub is_listed : List WrittenGroup → Bool
is_listed (listed (w ∷ ws) ∷ gs) = true
is_listed gs = false

-- why the values of steps aren't written: the first judgement that they fail, with what follows
abbrev pub unless_wrong : List Step → Known → List Value → List Value → List WrittenGroup
    → Result (List ℕ) Error → Result (List ℕ) Error
unless_wrong (field c (checked k t w) d ∷ steps) known raws (v ∷ kept) gs next =
    if is_written false known c
    then (if passes t (atom_of v) then unless_wrong steps (with_value known v) raws kept gs next
    else Err (w (number_of (atom_of v))))
    else unless_wrong steps (with_value known v) raws kept gs next
unless_wrong (field c f d ∷ steps) known raws (v ∷ kept) gs next =
    unless_wrong steps (with_value known v) raws kept gs next
unless_wrong (raw k ∷ steps) known (v ∷ raws) kept gs next =
    unless_wrong steps (with_raw known v) raws kept gs next
unless_wrong (note c ∷ steps) known raws (v ∷ kept) gs next =
    unless_wrong steps (with_value known v) raws kept gs next
unless_wrong (judge c s t w ∷ steps) known raws kept gs next =
    if is_written false known c
    then (if passes t (cut_in known s) then unless_wrong steps known raws kept gs next
    else Err (w (number_of (cut_in known s))))
    else unless_wrong steps known raws kept gs next
unless_wrong (more w ∷ steps) known raws kept gs next =
    if is_listed gs then unless_wrong steps known raws kept gs next else Err w
unless_wrong steps known raws kept gs next = next

-- The packet's bytes, or why it isn't writable: what is too long first, then the first judgement of
-- its row.
abbrev pub writing : Row → WrittenPacket → Result (List ℕ) Error
writing row p =
    if fits row p
    then unless_wrong row.steps (under p.first 0) p.head.raws p.head.kept p.groups
    (Ok (layout row p))
    else Err PayloadTooLong
