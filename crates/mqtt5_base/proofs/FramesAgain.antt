-- A frame that is written by a row is whole, and is read again by it.
use Rattle.std.proofs.Common.{◌≡◌, ℕ, ◌+◌, ◌/◌, ◌<◌, ◌≤◌, Bool, true, false, List, [], ◌∷◌, ◌++◌, length, Option, Some, Result, Ok, refl, sym, ap, ◌∙◌, append_assoc, arith, length-append}
use Rattle.std.proofs.lemmas.Bool.{ltb-true}
use Rattle.mqtt5_base.specs.declared.error.Error.{Error}
use Rattle.mqtt5_base.specs.declared.error.Error.TheVariants.{PayloadTooLong}
use Rattle.mqtt5_base.specs.VarInt.{var_int}
use Rattle.mqtt5_base.specs.Lengths.{Finished, length_at}
use Rattle.mqtt5_base.specs.Grammar.{Value, Row, Group, Content, Known, under, entry_of}
use Rattle.mqtt5_base.specs.Frames.{Rows, lacks_body}
use Rattle.mqtt5_base.specs.Reading.{◌>>=◌, parts_at, values_in, row_values, frame_values, body_in, frame_at}
use Rattle.mqtt5_base.specs.Front.{Whole}
use Rattle.mqtt5_base.specs.FrontAt.{front}
use Rattle.mqtt5_base.specs.Layout.{WrittenPacket, steps_bytes, in_order, parts_bytes, is_short, body_bytes, frame_of, layout, steps_fit, parts_fit, fits, unless_wrong, writing}
use Rattle.mqtt5_base.proofs.VarIntLemmas.{var_int_stands, var_int_finds}
use Rattle.mqtt5_base.proofs.KindLaws.{cut_at}
use Rattle.mqtt5_base.proofs.FrontLemmas.{front_of_finished}
use Rattle.mqtt5_base.proofs.BlockLaws.{some_bytes}
use Rattle.mqtt5_base.proofs.KindsAgain.{both_hold}
use Rattle.mqtt5_base.proofs.StepsAgain.{Suits, known_again, steps_again, chosen_ok, next_written}
use Rattle.mqtt5_base.proofs.PartsAgain.{PartsAre, parts_again}

-- ---- what was written

-- what is so where a packet was written: its values fit and pass, and the bytes are its layout
pub record IsWritten (row : Row) (p : WrittenPacket) (bs : List ℕ) : Type 0 where
  pub steps : steps_fit row.steps p.head.raws p.head.kept ≡ true
  pub parts : parts_fit row.parts p.groups ≡ true
  pub small : length (body_bytes row p) < 268435456
  pub passes : unless_wrong row.steps (under p.first 0) p.head.raws p.head.kept p.groups (Ok (layout row p)) ≡ Ok bs
  pub bytes : layout row p ≡ bs

-- bytes that were written are those
same_bytes : (x y : List ℕ) (r : Result (List ℕ) Error) → r ≡ Ok y → r ≡ Ok x → x ≡ y
same_bytes x y r h k = cc

-- A packet that was written is writable.
pub is_written : (row : Row) (p : WrittenPacket) (bs : List ℕ) → writing row p ≡ Ok bs → IsWritten row p bs
is_written row p bs h =
    let w = chosen_ok (fits row p) (unless_wrong row.steps (under p.first 0) p.head.raws p.head.kept p.groups (Ok (layout row p))) PayloadTooLong bs h in
    let f = both_hold (steps_fit row.steps p.head.raws p.head.kept) _ w.0 in
    let g = both_hold (parts_fit row.parts p.groups) _ f.1 in
    record {
      steps = f.0;
      parts = g.0;
      small = ltb-true _ _ g.1;
      passes = w.1;
      bytes = same_bytes (layout row p) bs (Ok (layout row p)) (next_written row.steps (under p.first 0) p.head.raws p.head.kept p.groups (Ok (layout row p)) bs w.1) refl;
    }

-- ---- the front of a stream

-- A frame is whole, whatever follows, under a limit that admits its remaining length.
pub frame_front : (limit : Option ℕ) (first : ℕ) (body rest : List ℕ) → length body < 268435456 → ((max : ℕ) → limit ≡ Some max → length body ≤ max) → front limit (frame_of first body ++ rest) ≡ Whole (frame_of first body) rest
frame_front limit first body rest small admits =
    let n = length body in
    let len = var_int n in
    let found : length_at 4 ((len ++ body) ++ rest) ≡ Finished (length len) n = ap (length_at 4) (append_assoc len body rest) ∙ var_int_finds len (body ++ rest) n (var_int_stands n small) in
    let there : length len + n ≤ length ((len ++ body) ++ rest) = omega (arith, length-append (len ++ body) rest, length-append len body) in
    let all : length (frame_of first body) ≡ 1 + length len + n = omega (arith, length-append len body) in
    let cut = cut_at (frame_of first body) rest (1 + length len + n) all in
    front_of_finished limit first (length len) n ((len ++ body) ++ rest) found there admits ∙ (λ i. Whole (cut.0 i) (cut.1 i))

-- What was written is whole.
pub written_front : (row : Row) (p : WrittenPacket) (limit : Option ℕ) (bs rest : List ℕ) → writing row p ≡ Ok bs → ((max : ℕ) → limit ≡ Some max → length (body_bytes row p) ≤ max) → front limit (bs ++ rest) ≡ Whole bs rest
written_front row p limit bs rest h admits = let w = is_written row p bs h in rw (← w.bytes) (frame_front limit p.first (body_bytes row p) rest w.small admits)

-- ---- the values

-- the body, short or not
abbrev pub body_of : Bool → Row → WrittenPacket → List ℕ
body_of short row p = steps_bytes short row.steps (under p.first 0) p.head.raws p.head.kept ++ parts_bytes row.parts (in_order row.steps p.head.raws p.head.kept) p.groups

-- a body of a byte at least isn't lacking
pub has_body : (row : Row) (body : List ℕ) → 0 < length body → lacks_body row body ≡ false
has_body row [] lt = absurd (omega arith)
has_body row (b ∷ body) lt = rw (some_bytes b body) refl

-- what one knows who read the steps again
abbrev pub row_known : Bool → Row → WrittenPacket → Known
row_known short row p = known_again short row.steps (under p.first 0) (under p.first (length (body_of short row p))) p.head.raws p.head.kept

-- what must be so that the packet is read again as those values
pub record IsReadable (rows : Rows) (row : Row) (p : WrittenPacket) (short : Bool) (q : Content) : Type 0 where
  pub brief : is_short row p ≡ short
  pub among : entry_of rows (p.first / 16) ≡ Some row
  pub whole : lacks_body row (body_of short row p) ≡ false
  pub suits : Suits short p.groups row.steps (under p.first 0) (under p.first (length (body_of short row p))) p.head.raws p.head.kept (parts_bytes row.parts (in_order row.steps p.head.raws p.head.kept) p.groups)
  pub parts : PartsAre row.parts (in_order row.steps p.head.raws p.head.kept) (row_known short row p).values p.groups q.1
  pub kept : (row_known short row p).kept ≡ q.0

-- values that were read
abbrev pub content_read : Content → Result Content Error
content_read q = Ok q

-- the values of the steps, and those of the parts
abbrev with_groups : List Value → Result (List Group × List ℕ) Error → Result (Content × List ℕ) Error
with_groups vs y = y >>= λ g. Ok ((vs, g.0), g.1)

-- the values alone
abbrev values_alone : Result (Content × List ℕ) Error → Result Content Error
values_alone y = y >>= λ c. Ok c.0

-- The body is read again.
body_again : (rows : Rows) (row : Row) (p : WrittenPacket) (short : Bool) (q : Content) (bs : List ℕ) → IsWritten row p bs → IsReadable rows row p short q → values_in row p.first (length (body_of short row p)) (body_of short row p) ≡ content_read q
body_again rows row p short q bs w r =
    let rest = parts_bytes row.parts (in_order row.steps p.head.raws p.head.kept) p.groups in
    let known = row_known short row p in
    let parts = parts_again row.parts (in_order row.steps p.head.raws p.head.kept) known.values p.groups q.1 w.parts r.parts in
    ap (λ (y : Result (Known × List ℕ) Error). values_alone (y >>= λ k. with_groups k.0.kept (parts_at row.parts k.0.values k.1)))
    (steps_again short p.groups row.steps (under p.first 0) (under p.first (length (body_of short row p))) p.head.raws p.head.kept rest (Ok (layout row p)) bs w.steps w.passes r.suits)
    ∙ ap (λ (y : Result (List Group × List ℕ) Error). values_alone (with_groups known.kept y)) parts
    ∙ ap (λ (vs : List Value). content_read (vs, q.1)) r.kept

-- the body stands behind the remaining length
body_found : (body : List ℕ) → length body < 268435456 → body_in (length_at 4 (var_int (length body) ++ body)) (var_int (length body) ++ body) ≡ body
body_found body small =
    let len = var_int (length body) in
    ap (λ l. body_in l (len ++ body)) (var_int_finds len body (length body) (var_int_stands (length body) small)) ∙ (cut_at len body (length len) refl).1

-- a frame of a type whose row reads its body is read
frame_again : (rows : Rows) (row : Row) (first : ℕ) (body : List ℕ) (q : Content) → entry_of rows (first / 16) ≡ Some row → lacks_body row body ≡ false → length body < 268435456 → values_in row first (length body) body ≡ content_read q → frame_at rows (frame_of first body) ≡ content_read q
unfolding frame_at frame_values
frame_again rows row first body q among whole small is =
    ap (frame_values rows first) (body_found body small) ∙ ap (λ (o : Option Row). row_values o first body) among ∙ rw whole is

-- What was written is read again as those values.
pub written_again : (rows : Rows) (row : Row) (p : WrittenPacket) (short : Bool) (q : Content) (bs : List ℕ) → writing row p ≡ Ok bs → IsReadable rows row p short q → frame_at rows bs ≡ content_read q
written_again rows row p short q bs h r =
    let w = is_written row p bs h in
    let same : body_bytes row p ≡ body_of short row p = ap (λ (b : Bool). body_of b row p) r.brief in
    let small : length (body_of short row p) < 268435456 = rw (← same) w.small in
    ap (frame_at rows) (sym w.bytes ∙ ap (frame_of p.first) same) ∙ frame_again rows row p.first (body_of short row p) q r.among r.whole small (body_again rows row p short q bs w r)
