-- What a function answered: this, or what reading gives, or what the relations say.
use Rattle.std.specs.Prelude.{◌≡◌, ℕ, List, drop, Option, Result, Ok, Err, MatchResult}
use Rattle.mqtt5_base.specs.declared.error.Error.{Error}
use Rattle.mqtt5_base.specs.declared.error.Error.TheVariants.{OutOfMemory}
use Rattle.mqtt5_base.specs.declared.header.FixedHeader.{FixedHeader}
use Rattle.mqtt5_base.specs.Grammar.{Entry, Found, Value, Part, Group, Row, Content}
use Rattle.mqtt5_base.specs.Fields.{Takes, IsBlock, IsPart, IsRow}
use Rattle.mqtt5_base.specs.Faults.{BlockFault, PartFault, RowFault}

-- This was answered, unless memory ran out.
abbrev pub Answers : {A : Type 0} → Result A Error → A → Type 0
Answers result x = MatchResult result (λ v. v ≡ x) (λ e. e ≡ OutOfMemory)

-- What a function that takes no memory answered, seen by view, is what reading gives.
abbrev pub Finds : {X Y : Type 0} → (X → Y) → Result X Error → Result Y Error → Type 0
Finds view (Ok x) read = read ≡ Ok (view x)
Finds view (Err e) read = read ≡ Err e

-- The same, unless memory ran out.
abbrev pub Gives : {X Y : Type 0} → (X → Y) → Result X Error → Result Y Error → Type 0
Gives view (Ok x) read = read ≡ Ok (view x)
Gives view (Err e) read = (e ≡ OutOfMemory → ⊥) → read ≡ Err e

-- What a function answered, seen by view, holds; or its error is the first fault, unless memory ran
-- out.
abbrev pub Says : {X Y : Type 0} → (X → Y) → Result X Error → (Y → Type 0) → (Error → Type 0)
    → Type 0
Says view (Ok x) Holds First = Holds (view x)
Says view (Err e) Holds First = (e ≡ OutOfMemory → ⊥) → First e

-- The body of a frame, of which the header is, is a row's fields of what was answered, seen by
-- view, and bytes after them; or the error is the row's first fault, unless memory ran out. The
-- contracts of readers say this (3).
unfoldable pub ReadsRow : {X : Type 0} → (X → Content) → Row → FixedHeader → List ℕ → Result X Error
    → Type 0
ReadsRow view row h frame result =
    let body = drop h.fixed_header_len frame in
    Says view result (λ c. (rest : List ℕ) × IsRow row h.byte1 h.remaining_len body c rest)
    (RowFault row h.byte1 h.remaining_len body)

-- The same of a part by itself, behind the values of a packet: it stands at the front of the bytes;
-- what was answered is seen by view with the bytes after it (3).
abbrev pub ReadsPart : {X : Type 0} → (X → Group × List ℕ) → Part → List Value → List ℕ
    → Result X Error → Type 0
ReadsPart view part values bytes result =
    Says view result (λ x. IsPart part values bytes x.0 x.1) (PartFault part values bytes)

-- The same of a property block at the front of the bytes (2.2.2).
abbrev pub ReadsBlock : {X : Type 0} → (X → Option Found × List ℕ) → List Entry → List ℕ
    → Result X Error → Type 0
ReadsBlock view table bytes result =
    Says view result (λ x. Takes (λ front. IsBlock table front x.0) bytes x.1)
    (BlockFault table bytes)
