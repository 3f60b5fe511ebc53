-- What reading gives is what the relations say, and what they say is what reading gives.
use Rattle.std.proofs.Common.{ℕ, List, drop, Option, Result, Ok, Err}
use Rattle.mqtt5_base.specs.declared.error.Error.{Error}
use Rattle.mqtt5_base.specs.declared.header.FixedHeader.{FixedHeader}
use Rattle.mqtt5_base.specs.Grammar.{Entry, Found, Value, Part, Group, Row, Content}
use Rattle.mqtt5_base.specs.Reading.{block_at, part_at, values_in}
use Rattle.mqtt5_base.specs.Laws.{Reads}
use Rattle.mqtt5_base.specs.Answers.{Gives, Says, ReadsBlock, ReadsPart, ReadsRow}
use Rattle.mqtt5_base.proofs.BlockLaws.{block_reads}
use Rattle.mqtt5_base.proofs.PartLaws.{part_reads}
use Rattle.mqtt5_base.proofs.FrameLaws.{values_read}

-- what reading gives holds, and is the first fault
pub said : {X Y : Type 0} (view : X → Y) (result : Result X Error) {read : Result Y Error} {P : Y → Type 0} {F : Error → Type 0} → Reads read P F → Gives view result read → Says view result P F
said view (Ok x) r g = (r.value (view x)).0 g
said view (Err e) r g = λ memory. (r.fault e).0 (g memory)

-- what holds, or is the first fault, is what reading gives
pub given_back : {X Y : Type 0} (view : X → Y) (result : Result X Error) {read : Result Y Error} {P : Y → Type 0} {F : Error → Type 0} → Reads read P F → Says view result P F → Gives view result read
given_back view (Ok x) r s = (r.value (view x)).1 s
given_back view (Err e) r s = λ memory. (r.fault e).1 (s memory)

-- of the values of a row
pub row_said : {X : Type 0} (view : X → Content) (row : Row) (h : FixedHeader) (frame : List ℕ) (result : Result X Error) → Gives view result (values_in row h.byte1 h.remaining_len (drop h.fixed_header_len frame)) → ReadsRow view row h frame result
unfolding ReadsRow
row_said view row h frame result g = said view result (values_read row h.byte1 h.remaining_len (drop h.fixed_header_len frame)) g

-- and back
pub row_given : {X : Type 0} (view : X → Content) (row : Row) (h : FixedHeader) (frame : List ℕ) (result : Result X Error) → ReadsRow view row h frame result → Gives view result (values_in row h.byte1 h.remaining_len (drop h.fixed_header_len frame))
unfolding ReadsRow
row_given view row h frame result s = given_back view result (values_read row h.byte1 h.remaining_len (drop h.fixed_header_len frame)) s

-- of a part by itself
pub part_said : {X : Type 0} (view : X → Group × List ℕ) (part : Part) (values : List Value) (bytes : List ℕ) (result : Result X Error) → Gives view result (part_at part values bytes) → ReadsPart view part values bytes result
part_said view part values bytes result g = said view result (part_reads part values bytes) g

-- of a property block
pub block_said : {X : Type 0} (view : X → Option Found × List ℕ) (table : List Entry) (bytes : List ℕ) (result : Result X Error) → Gives view result (block_at table bytes) → ReadsBlock view table bytes result
block_said view table bytes result g = said view result (block_reads table bytes) g
