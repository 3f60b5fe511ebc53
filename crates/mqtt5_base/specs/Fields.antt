-- Which bytes stand for which values: those of each field in order, and every judgement holds (MQTT
-- 5.0 sections 1.5, 2.2.2 and 3).
use Rattle.std.specs.Prelude.{◌≡◌, ℕ, ◌<◌, Bool, true, false, List, [], ◌∷◌, ◌++◌, length, Option}
use Rattle.std.specs.Prelude.{Some, None, ◌==◌, if◌then◌else◌, map}
use Rattle.std.specs.Int.{Width, w8, w16, w32, byte_len, from_be_bytes}
use Rattle.std.specs.Str.{is_utf8}
use Rattle.mqtt5_base.specs.VarInt.{VarInt}
use Rattle.mqtt5_base.specs.Grammar.{Kind, u8, u16, u32, varint, bytes, text, pair, Atom, number}
use Rattle.mqtt5_base.specs.Grammar.{content, couple, Entry, Found, allows, kinds, entry_of, passes}
use Rattle.mqtt5_base.specs.Grammar.{Value, plain, properties, Field, one, checked, block}
use Rattle.mqtt5_base.specs.Grammar.{remainder, always, Step, field, raw, note, judge, more, Part}
use Rattle.mqtt5_base.specs.Grammar.{choice, filled, each, Row, Group, optional, several, Content}
use Rattle.mqtt5_base.specs.Grammar.{Known, under, with_value, with_raw, number_in, cut_in, holds}
use Rattle.mqtt5_base.specs.Grammar.{unless_empty}

-- the body begins with such bytes, and these are after them
abbrev pub Takes : (List ℕ → Type 0) → List ℕ → List ℕ → Type 0
Takes P body after = (front : List ℕ) × (body ≡ front ++ after) × P front

-- ---- one value (1.5)

-- a number in its bytes, the high one first (1.5.2, 1.5.3)
abbrev pub IsNumber : Width → List ℕ → ℕ → Type 0
IsNumber w front n = (length front ≡ byte_len w) × (n ≡ from_be_bytes w front)

-- two bytes of length, and that many bytes (1.5.6)
abbrev pub IsContent : List ℕ → List ℕ → Type 0
IsContent front c = (two : List ℕ) × IsNumber w16 two (length c) × (front ≡ two ++ c)

-- the same, of UTF-8 (1.5.4)
abbrev pub IsText : List ℕ → List ℕ → Type 0
IsText front c = IsContent front c × (is_utf8 c ≡ true)

-- bytes of each kind (a pair is 1.5.7)
abbrev pub IsKind : Kind → List ℕ → Atom → Type 0
IsKind u8 front a = (n : ℕ) × IsNumber w8 front n × (a ≡ number n)
IsKind u16 front a = (n : ℕ) × IsNumber w16 front n × (a ≡ number n)
IsKind u32 front a = (n : ℕ) × IsNumber w32 front n × (a ≡ number n)
IsKind varint front a = (n : ℕ) × VarInt front n × (a ≡ number n)
IsKind bytes front a = (c : List ℕ) × IsContent front c × (a ≡ content c)
IsKind text front a = (c : List ℕ) × IsText front c × (a ≡ content c)
IsKind pair front a =
    (first second : List ℕ) × (k v : List ℕ) × (front ≡ first ++ second) × IsText first k
    × IsText second v × (a ≡ couple k v)

-- ---- property blocks (2.2.2)

-- a value of that property (2.2.2.2)
abbrev pub IsProperty : ℕ → List ℕ → Atom → Type 0
IsProperty id front a = (k : Kind) × (entry_of kinds id ≡ Some k) × IsKind k front a

-- the block is the items one after the other, each an allowed identifier and a value of its kind
-- (2.2.2.2)
abbrev pub Items : List Entry → List ℕ → List (ℕ × Atom) → Type 0
Items table bs [] = bs ≡ []
Items table bs (i ∷ items) =
    (body : List ℕ) × (after : List ℕ) × (bs ≡ i.0 ∷ body) × (allows table i.0 ≡ true)
    × Takes (λ front. IsProperty i.0 front i.1) body after × Items table after items

-- the values of the items of an identifier, in order (2.2.2.2)
abbrev pub values_of : ℕ → List (ℕ × Atom) → List Atom
values_of id [] = []
values_of id (i ∷ items) = if i.0 == id then i.1 ∷ values_of id items else values_of id items

-- the last value alone, if there is one
abbrev pub last_of : List Atom → List Atom
last_of [] = []
last_of (a ∷ []) = a ∷ []
last_of (a ∷ b ∷ others) = last_of (b ∷ others)

-- of a list each value in order; of a single property the last, where the standard allows but one
-- (as in 3.1.2.11.2)
abbrev pub chosen : Bool → List Atom → List Atom
chosen true here = here
chosen false here = last_of here

-- what items make of a set (2.2.2)
abbrev pub props : List Entry → List (ℕ × Atom) → Found
props table items = map (λ e. chosen e.many (values_of e.id items)) table

-- no set of no bytes, else the set of the items (2.2.2.1)
abbrev pub IsSet : List Entry → List ℕ → Option Found → Type 0
IsSet table bs None = length bs ≡ 0
IsSet table bs (Some found) =
    (0 < length bs) × (items : List (ℕ × Atom)) × Items table bs items × (found ≡ props table items)

-- the length of the items, and the items (2.2.2.1)
abbrev pub IsBlock : List Entry → List ℕ → Option Found → Type 0
IsBlock table front p =
    (len : List ℕ) × (bs : List ℕ) × (front ≡ len ++ bs) × VarInt len (length bs) × IsSet table bs p

-- ---- steps (3)

-- these bytes, before those, stand for the field's value
abbrev pub IsField : Field → List ℕ → Value → List ℕ → Type 0
IsField (one k) front v after = (a : Atom) × IsKind k front a × (v ≡ plain a)
IsField (checked k t w) front v after =
    (a : Atom) × IsKind k front a × (passes t a ≡ true) × (v ≡ plain a)
IsField (block table) front v after =
    (p : Option Found) × IsBlock table front p × (v ≡ properties p)
IsField remainder front v after = (v ≡ plain (content front)) × (after ≡ [])

-- a field that is there, or the value that else stands for it
abbrev pub TakesField : Bool → Field → Value → List ℕ → Value → List ℕ → Type 0
TakesField true f d body v after = Takes (λ front. IsField f front v after) body after
TakesField false f d body v after = (v ≡ d) × (after ≡ body)

-- The body is the bytes of the steps in order and then the rest, and every judgement holds.
abbrev pub Fields : List Step → Known → List ℕ → Known → List ℕ → Type 0
Fields [] known body out rest = (out ≡ known) × (rest ≡ body)
Fields (field c f d ∷ steps) known body out rest =
    (v : Value) × (after : List ℕ) × TakesField (holds known c) f d body v after
    × Fields steps (with_value known v) after out rest
Fields (raw k ∷ steps) known body out rest =
    (a : Atom) × (after : List ℕ) × Takes (λ front. IsKind k front a) body after
    × Fields steps (with_raw known (plain a)) after out rest
Fields (note c ∷ steps) known body out rest =
    Fields steps (with_value known (plain (cut_in known c))) body out rest
Fields (judge c s t w ∷ steps) known body out rest =
    (holds known c ≡ true → passes t (cut_in known s) ≡ true) × Fields steps known body out rest
Fields (more w ∷ steps) known body out rest = (0 < length body) × Fields steps known body out rest

-- ---- parts (3)

-- what steps of their own keep, under a number
abbrev pub Kept : List Step → ℕ → List ℕ → List Value → List ℕ → Type 0
Kept steps n body vs rest = (out : Known) × Fields steps (under n 0) body out rest × (vs ≡ out.kept)

-- a field and steps again and again, to the end
abbrev pub Repeats : List Step → List ℕ → List (List Value) → Type 0
Repeats steps body [] = length body ≡ 0
Repeats steps body (vs ∷ all) =
    (after : List ℕ) × (0 < length body) × Kept steps 0 body vs after × Repeats steps after all

-- Where the condition holds the body begins with the second steps, and what they keep is given;
-- else with the first, and nothing is given.
abbrev pub Choice : Bool → List Step → List Step → ℕ → List ℕ → Option (List Value) → List ℕ
    → Type 0
Choice true off on n body g rest = (vs : List Value) × Kept on n body vs rest × (g ≡ Some vs)
Choice false off on n body g rest = (vs : List Value) × Kept off n body vs rest × (g ≡ None)

-- the steps of an `each`
abbrev pub repeated : Field → List Step → List Step
repeated f steps = field always f (plain (number 0)) ∷ steps

-- the body begins with a part, which gives that; the number that its steps stand under is that of a
-- value read before
abbrev pub IsPart : Part → List Value → List ℕ → Group → List ℕ → Type 0
IsPart (choice k c off on) values body g rest =
    let n =
    number_in values k in
    (o : Option (List Value)) × Choice (holds (under n 0) c) off on n body o rest
    × (g ≡ optional o)
IsPart (filled k steps) values body g rest =
    (vs : List Value) × Kept steps (number_in values k) body vs rest
    × (g ≡ optional (unless_empty vs))
IsPart (each f steps) values body g rest =
    (all : List (List Value)) × Repeats (repeated f steps) body all × (g ≡ several all)
    × (rest ≡ [])

-- the body begins with the parts in order, which give these
abbrev pub AreParts : List Part → List Value → List ℕ → List Group → List ℕ → Type 0
AreParts [] values body gs rest = (gs ≡ []) × (rest ≡ body)
AreParts (p ∷ ps) values body gs rest =
    (g : Group) × (after : List ℕ) × IsPart p values body g after × (others : List Group)
    × AreParts ps values after others rest × (gs ≡ g ∷ others)

-- ---- rows (3)

-- The body is the bytes of the row's fields and parts in order and then the rest, and every
-- judgement holds.
abbrev pub IsRow : Row → ℕ → ℕ → List ℕ → Content → List ℕ → Type 0
IsRow row first len body p rest =
    (out : Known) × (after : List ℕ) × Fields row.steps (under first len) body out after
    × (gs : List Group) × AreParts row.parts out.values after gs rest × (p ≡ (out.kept, gs))
