-- The first fault of bytes that don't stand for values: that of the first field or judgement that
-- can't hold (MQTT 5.0 sections 1.5, 2.2.2, 3 and 4.13.1).
use Rattle.std.specs.Prelude.{◌≡◌, ℕ, ◌<◌, ◌≤◌, Bool, true, false, List, [], ◌∷◌, ◌++◌, length}
use Rattle.std.specs.Prelude.{Some, None, ◌⊎◌}
use Rattle.std.specs.Int.{Width, w8, w16, w32, byte_len}
use Rattle.std.specs.Str.{is_utf8}
use Rattle.mqtt5_base.specs.declared.error.Error.{Error}
use Rattle.mqtt5_base.specs.declared.error.Error.TheVariants.{MalformedPacket}
use Rattle.mqtt5_base.specs.declared.error.Error.TheVariants.{MalformedRemainingLength}
use Rattle.mqtt5_base.specs.declared.error.Error.TheVariants.{BoundaryCrossed, TopicNotUtf8}
use Rattle.mqtt5_base.specs.declared.error.Error.TheVariants.{InvalidPropertyType}
use Rattle.mqtt5_base.specs.VarInt.{VarInt}
use Rattle.mqtt5_base.specs.Grammar.{Kind, u8, u16, u32, varint, bytes, text, pair, Atom, Entry}
use Rattle.mqtt5_base.specs.Grammar.{allows, kinds, entry_of, number_of, passes, Value, plain}
use Rattle.mqtt5_base.specs.Grammar.{Field, one, checked, block, remainder, Step, field, raw, note}
use Rattle.mqtt5_base.specs.Grammar.{judge, more, Part, choice, filled, each, Row, Group, Known}
use Rattle.mqtt5_base.specs.Grammar.{under, with_value, with_raw, cut_in, holds, number_in}
use Rattle.mqtt5_base.specs.Fields.{Takes, IsNumber, IsContent, IsText, IsKind, IsProperty}
use Rattle.mqtt5_base.specs.Fields.{TakesField, Fields, Kept, repeated, IsPart}

-- ---- one value

-- a number cut short (1.5.2, 1.5.3)
abbrev pub NumberFault : Width → List ℕ → Error → Type 0
NumberFault w bs e = (length bs < byte_len w) × (e ≡ MalformedPacket)

-- each byte says that another follows (1.5.5)
abbrev pub GoOn : List ℕ → Type 0
GoOn [] = Unit {0}
GoOn (b ∷ bs) = (128 ≤ b) × GoOn bs

-- a variable byte integer cut short, or of more than four bytes (1.5.5)
abbrev pub VarIntFault : List ℕ → Error → Type 0
VarIntFault bs e =
    ((length bs < 4) × GoOn bs × (e ≡ MalformedPacket))
    ⊎ ((front : List ℕ) × (after : List ℕ) × (bs ≡ front ++ after) × (length front ≡ 4) × GoOn front
    × (e ≡ MalformedRemainingLength))

-- a length cut short, or fewer bytes than it says (1.5.6)
abbrev pub ContentFault : List ℕ → Error → Type 0
ContentFault bs e =
    NumberFault w16 bs e
    ⊎ ((n : ℕ) × (after : List ℕ) × Takes (λ front. IsNumber w16 front n) bs after
    × ((length after < n) × (e ≡ BoundaryCrossed n)))

-- the same, or no UTF-8 (1.5.4)
abbrev pub TextFault : List ℕ → Error → Type 0
TextFault bs e =
    ContentFault bs e
    ⊎ ((c : List ℕ) × (after : List ℕ) × Takes (λ front. IsContent front c) bs after
    × ((is_utf8 c ≡ false) × (e ≡ TopicNotUtf8)))

-- the fault of a value of a kind; of a pair that of its first text, or else of its second (1.5)
abbrev pub KindFault : Kind → List ℕ → Error → Type 0
KindFault u8 bs e = NumberFault w8 bs e
KindFault u16 bs e = NumberFault w16 bs e
KindFault u32 bs e = NumberFault w32 bs e
KindFault varint bs e = VarIntFault bs e
KindFault bytes bs e = ContentFault bs e
KindFault text bs e = TextFault bs e
KindFault pair bs e =
    TextFault bs e
    ⊎ ((k : List ℕ) × (after : List ℕ) × Takes (λ front. IsText front k) bs after
    × TextFault after e)

-- ---- property blocks (2.2.2)

-- an identifier that is unknown or not allowed, before its value, or the fault of its value
-- (2.2.2.2)
abbrev pub ItemFault : List Entry → ℕ → List ℕ → Error → Type 0
ItemFault table id bs e =
    ((allows table id ≡ false) × (e ≡ InvalidPropertyType id))
    ⊎ ((allows table id ≡ true)
    × (((entry_of kinds id ≡ None) × (e ≡ InvalidPropertyType id))
    ⊎ ((k : Kind) × (entry_of kinds id ≡ Some k) × KindFault k bs e)))

-- the fault of the first item after these (2.2.2.2)
abbrev pub FaultAfter : List Entry → List ℕ → List (ℕ × Atom) → Error → Type 0
FaultAfter table bs [] e = (id : ℕ) × (body : List ℕ) × (bs ≡ id ∷ body) × ItemFault table id body e
FaultAfter table bs (i ∷ items) e =
    (body : List ℕ) × (after : List ℕ) × (bs ≡ i.0 ∷ body) × (allows table i.0 ≡ true)
    × Takes (λ front. IsProperty i.0 front i.1) body after × FaultAfter table after items e

-- of the length, of a block that passes the end, or of the first item that can't be read (2.2.2.1)
abbrev pub BlockFault : List Entry → List ℕ → Error → Type 0
BlockFault table bs e =
    VarIntFault bs e
    ⊎ ((n : ℕ) × (after : List ℕ) × Takes (λ front. VarInt front n) bs after
    × (((length after < n) × (e ≡ BoundaryCrossed n))
    ⊎ ((items : List (ℕ × Atom)) × (here rest : List ℕ) × (after ≡ here ++ rest) × (length here ≡ n)
    × FaultAfter table here items e)))

-- ---- steps (3)

-- the fault of a field: of its value or its block, or of the judgement on its value (3)
abbrev pub FieldFault : Field → List ℕ → Error → Type 0
FieldFault (one k) bs e = KindFault k bs e
FieldFault (checked k t w) bs e =
    KindFault k bs e
    ⊎ ((a : Atom) × (after : List ℕ) × Takes (λ front. IsKind k front a) bs after
    × ((passes t a ≡ false) × (e ≡ w (number_of a))))
FieldFault (block table) bs e = BlockFault table bs e
FieldFault remainder bs e = ⊥

-- the same of a field that is there; one that isn't there has none
abbrev pub FaultIf : Bool → Field → List ℕ → Error → Type 0
FaultIf true f bs e = FieldFault f bs e
FaultIf false f bs e = ⊥

-- the fault of the first step that can't hold
abbrev pub Faulty : List Step → Known → List ℕ → Error → Type 0
Faulty [] known body e = ⊥
Faulty (field c f d ∷ steps) known body e =
    FaultIf (holds known c) f body e
    ⊎ ((v : Value) × (after : List ℕ) × TakesField (holds known c) f d body v after
    × Faulty steps (with_value known v) after e)
Faulty (raw k ∷ steps) known body e =
    KindFault k body e
    ⊎ ((a : Atom) × (after : List ℕ) × Takes (λ front. IsKind k front a) body after
    × Faulty steps (with_raw known (plain a)) after e)
Faulty (note c ∷ steps) known body e =
    Faulty steps (with_value known (plain (cut_in known c))) body e
Faulty (judge c s t w ∷ steps) known body e =
    ((holds known c ≡ true) × (passes t (cut_in known s) ≡ false)
    × (e ≡ w (number_of (cut_in known s))))
    ⊎ ((holds known c ≡ true → passes t (cut_in known s) ≡ true) × Faulty steps known body e)
Faulty (more w ∷ steps) known body e =
    ((length body ≡ 0) × (e ≡ w)) ⊎ ((0 < length body) × Faulty steps known body e)

-- ---- parts (3)

-- the fault of the repeat after these
abbrev pub RepeatFault : List Step → List ℕ → List (List Value) → Error → Type 0
RepeatFault steps body [] e = (0 < length body) × Faulty steps (under 0 0) body e
RepeatFault steps body (vs ∷ all) e =
    (after : List ℕ) × (0 < length body) × Kept steps 0 body vs after
    × RepeatFault steps after all e

-- the fault of the steps that stand there: the second ones where the condition holds, else the
-- first
abbrev pub ChoiceFault : Bool → List Step → List Step → ℕ → List ℕ → Error → Type 0
ChoiceFault true off on n body e = Faulty on (under n 0) body e
ChoiceFault false off on n body e = Faulty off (under n 0) body e

-- the fault of a part, behind the values of the row (3)
abbrev pub PartFault : Part → List Value → List ℕ → Error → Type 0
PartFault (choice k c off on) values body e =
    let n = number_in values k in ChoiceFault (holds (under n 0) c) off on n body e
PartFault (filled k steps) values body e = Faulty steps (under (number_in values k) 0) body e
PartFault (each f steps) values body e =
    (all : List (List Value)) × RepeatFault (repeated f steps) body all e

-- the fault of the first part that can't be read (3)
abbrev pub PartsFault : List Part → List Value → List ℕ → Error → Type 0
PartsFault [] values body e = ⊥
PartsFault (p ∷ ps) values body e =
    PartFault p values body e
    ⊎ ((g : Group) × (after : List ℕ) × IsPart p values body g after × PartsFault ps values after e)

-- ---- rows (3)

-- the fault of a body: of the steps of its row, or else of its parts (3)
abbrev pub RowFault : Row → ℕ → ℕ → List ℕ → Error → Type 0
RowFault row first len body e =
    Faulty row.steps (under first len) body e
    ⊎ ((out : Known) × (after : List ℕ) × Fields row.steps (under first len) body out after
    × PartsFault row.parts out.values after e)
