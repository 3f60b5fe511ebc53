-- What the grammar promises, for every row, first byte, length and body (MQTT 5.0 sections 1.5, 2,
-- 3 and 4.3).
use Rattle.std.specs.Prelude.{◌≡◌, ◌↔◌, ℕ, Bool, true, false, List, [], ◌∷◌, ◌++◌, length, Result}
use Rattle.std.specs.Prelude.{Ok, Err, ◌⊎◌, ◌≤◌, ◌<◌}
use Rattle.std.specs.Bool.{Decides}
use Rattle.std.specs.Int.{Width}
use Rattle.std.specs.Ordering.{nat_cmp}
use Rattle.mqtt5_base.specs.declared.error.Error.{Error}
use Rattle.mqtt5_base.specs.declared.quality.QoS.{QoS}
use Rattle.mqtt5_base.specs.declared.quality.QoS.TheVariants.{AtMostOnce}
use Rattle.mqtt5_base.specs.contracts.quality.QoSOrd.TheImpl as order
use Rattle.mqtt5_base.specs.contracts.quality.QoSDefault.TheImpl as default
use Rattle.mqtt5_base.specs.VarInt.{VarInt, var_int}
use Rattle.mqtt5_base.specs.Grammar.{Kind, Atom, Value, Entry, Test, passes, number_of, Part, Row}
use Rattle.mqtt5_base.specs.Fields.{Takes, IsNumber, IsContent, IsText, IsKind, props, IsBlock}
use Rattle.mqtt5_base.specs.Fields.{IsPart, IsRow}
use Rattle.mqtt5_base.specs.Faults.{NumberFault, VarIntFault, ContentFault, TextFault, KindFault}
use Rattle.mqtt5_base.specs.Faults.{BlockFault, PartFault, RowFault}
use Rattle.mqtt5_base.specs.Frames.{Rows, IsFrame, FrameFault}
use Rattle.mqtt5_base.specs.Views.{qos_number}
use Rattle.mqtt5_base.specs.Reading.{number_at, bytes_at, text_at, var_int_at, atom_at, none_of}
use Rattle.mqtt5_base.specs.Reading.{with_item, block_at, judged, part_at, read_row, values_in}
use Rattle.mqtt5_base.specs.Reading.{frame_values}

-- reading answers a value exactly where it holds of it, and a fault exactly where that is the first
pub record Reads {X : Type 0} (answer : Result X Error) (Holds : X → Type 0)
    (First : Error → Type 0) : Type 0 where
  pub value : (x : X) → (answer ≡ Ok x) ↔ Holds x
  pub fault : (e : Error) → (answer ≡ Err e) ↔ First e

-- Either the value alone and no fault, or the fault alone and no value.
abbrev pub ExactlyOne : {X : Type 0} → (X → Type 0) → (Error → Type 0) → Type 0
ExactlyOne {X} Holds First =
    ((x : X) × Holds x × ((y : X) → Holds y → y ≡ x) × ((e : Error) → First e → ⊥))
    ⊎ ((e : Error) × First e × ((d : Error) → First d → d ≡ e) × ((x : X) → Holds x → ⊥))

-- Reading answers what the relations say: of numbers, binary data, texts and variable byte
-- integers, of a value of each kind, of property blocks (1.5, 2.2.2), of a judgement on a value, of
-- a row's parts, of rows and of the values of a row alone (3), and of frames (2.1). The set of no
-- items has no values, and adding an item to the set of some gives the set of those and it (2.2.2).
-- Of a frame exactly one of a packet's values and a fault holds.
pub record IsGrammar : Type 0 where
  pub numbers : (w : Width) (bs : List ℕ)
      → Reads (number_at w bs) (λ x. Takes (λ front. IsNumber w front x.0) bs x.1)
      (NumberFault w bs)
  pub binary : (bs : List ℕ)
      → Reads (bytes_at bs) (λ x. Takes (λ front. IsContent front x.0) bs x.1) (ContentFault bs)
  pub texts : (bs : List ℕ)
      → Reads (text_at bs) (λ x. Takes (λ front. IsText front x.0) bs x.1) (TextFault bs)
  pub lengths : (bs : List ℕ)
      → Reads (var_int_at bs) (λ x. Takes (λ front. VarInt front x.0) bs x.1) (VarIntFault bs)
  pub kinds : (k : Kind) (bs : List ℕ)
      → Reads (atom_at k bs) (λ x. Takes (λ front. IsKind k front x.0) bs x.1) (KindFault k bs)
  pub blocks : (table : List Entry) (bs : List ℕ)
      → Reads (block_at table bs) (λ x. Takes (λ front. IsBlock table front x.0) bs x.1)
      (BlockFault table bs)
  pub no_items : (table : List Entry) → none_of table ≡ props table []
  pub one_more : (table : List Entry) (items : List (ℕ × Atom)) (id : ℕ) (a : Atom)
      → with_item table id a (props table items) ≡ props table (items ++ (id, a) ∷ [])
  pub judgements : (t : Test) (w : ℕ → Error) (a : Atom)
      → Reads (judged t w a) (λ b. (passes t a ≡ true) × (b ≡ a))
      (λ e. (passes t a ≡ false) × (e ≡ w (number_of a)))
  pub parts : (p : Part) (values : List Value) (bs : List ℕ)
      → Reads (part_at p values bs) (λ x. IsPart p values bs x.0 x.1) (PartFault p values bs)
  pub rows : (row : Row) (first len : ℕ) (body : List ℕ)
      → Reads (read_row row first len body) (λ x. IsRow row first len body x.0 x.1)
      (RowFault row first len body)
  pub values : (row : Row) (first len : ℕ) (body : List ℕ)
      → Reads (values_in row first len body)
      (λ p. (rest : List ℕ) × IsRow row first len body p rest) (RowFault row first len body)
  pub frames : (rows : Rows) (first : ℕ) (body : List ℕ)
      → Reads (frame_values rows first body) (IsFrame rows first body) (FrameFault rows first body)
  pub one : (rows : Rows) (first : ℕ) (body : List ℕ)
      → ExactlyOne (IsFrame rows first body) (FrameFault rows first body)

-- the shortest bytes of a number stand for it, and are the shortest that do (1.5.5)
pub record IsShortest : Type 0 where
  pub stands : (n : ℕ) → n < 268435456 → VarInt (var_int n) n
  pub shortest : (n : ℕ) (bs : List ℕ) → VarInt bs n → length (var_int n) ≤ length bs

-- A QoS is ordered as its number, and where none is said it is 0 (4.3).
pub record IsQos : Type 0 where
  pub ordered : (q r : QoS) → order.cmp-value.it q r ≡ nat_cmp (qos_number q) (qos_number r)
  pub unsaid : (q : QoS) → default.is_default-value.it q → q ≡ AtMostOnce

-- a test that holds of equal values, and of them alone
abbrev pub IsEquality : {A : Type 0} → (A → A → Bool) → Type 0
IsEquality {A} E = (x y : A) → Decides (E x y) (x ≡ y)
