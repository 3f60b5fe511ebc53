-- This file serves the logic alone: the properties of a will; a will and a login that can be
-- written are short.
use Rattle.std.specs.Prelude.{◌≡◌, ℕ, ◌+◌, ◌/◌, ◌%◌, ◌<◌, true, false, Bool, List, [], ◌++◌, length}
use Rattle.std.specs.Prelude.{Option, Some, None, option_map}
use Rattle.std.proofs.Common.{◌&&◌, cond, ltb, arith, length-append}
use Rattle.std.proofs.lemmas.Bool.{ltb-true}
use Rattle.mqtt5_base.specs.VarInt.{var_int}
use Rattle.mqtt5_base.specs.Grammar.{Entry, Found}
use Rattle.mqtt5_base.specs.Layout.{just, with_length, items_bytes, items_fit, block_bytes}
use Rattle.mqtt5_base.specs.Layout.{block_fits, fits_two_bytes, written_bytes, written_fits}
use Rattle.mqtt5_base.proofs.Saturated.{length_small}
use Rattle.mqtt5_base.proofs.KindsAgain.{both_hold}
use Rattle.mqtt5_connect.specs.Rows.{will_table, will_steps, login_steps}
use Rattle.mqtt5_connect.specs.Connects.{will_found, will_values, login_values}
use Rattle.mqtt5_connect.specs.declared.will.LastWill.{LastWill}
use Rattle.mqtt5_connect.specs.declared.login.Login.{Login}

-- the properties of a will that may be absent
abbrev pub will_block : Option LastWill → Option Found
will_block None = None
will_block (Some w) = option_map will_found w.properties

-- a block that can be written has its length in four bytes at most
block_short : (table : List Entry) (p : Option Found) → block_fits table p ≡ true
    → length (block_bytes table p) < 268435460
block_short table None h = omega arith
block_short table (Some found) h =
    let f =
    both_hold (items_fit table found) (ltb (length (items_bytes table found)) 268435456) h in
    omega (
      arith,
      ltb-true _ _ f.1,
      length_small (length (items_bytes table found)),
      length-append (var_int (length (items_bytes table found))) (items_bytes table found),
    )

-- two bytes of length and a content
content_short : (c : List ℕ) → fits_two_bytes c ≡ true → length (with_length c) < 65538
content_short c h = omega (arith, ltb-true _ _ h)

-- A will that can be written is short.
pub will_short : (w : LastWill) (n : ℕ) → written_fits will_steps (just (will_values w)) ≡ true
    → length (written_bytes will_steps n (just (will_values w))) < 1073741824
will_short w n h =
    let p = option_map will_found w.properties in
    let f =
    both_hold (block_fits will_table p)
    (fits_two_bytes w.topic && (fits_two_bytes w.message && true)) h in
    let g = both_hold (fits_two_bytes w.topic) (fits_two_bytes w.message && true) f.1 in
    let m = both_hold (fits_two_bytes w.message) true g.1 in
    omega (
      arith,
      block_short will_table p f.0,
      content_short w.topic g.0,
      content_short w.message m.0,
      length-append (block_bytes will_table p)
          (with_length w.topic ++ (with_length w.message ++ [])),
      length-append (with_length w.topic) (with_length w.message ++ []),
      length-append (with_length w.message) [],
    )

-- a text, where it is there
optional_short : (b : Bool) (c rest : List ℕ) → length (with_length c) < 65538
    → length (cond b (with_length c) [] ++ rest) < 65538 + length rest
optional_short true c rest lt = omega (arith, lt, length-append (with_length c) rest)
optional_short false c rest lt = omega arith

-- A login that can be written is short.
pub login_short : (l : Login) (n : ℕ) → written_fits login_steps (just (login_values l)) ≡ true
    → length (written_bytes login_steps n (just (login_values l))) < 1073741824
login_short l n h =
    let f =
    both_hold (fits_two_bytes l.username.bytes) (fits_two_bytes l.password.bytes && true) h in
    let m = both_hold (fits_two_bytes l.password.bytes) true f.1 in
    let last =
    optional_short (ltb 0 (n / 64 % 2)) l.password.bytes []
    (content_short l.password.bytes m.0) in
    omega (
      arith,
      last,
      optional_short (ltb 0 (n / 128 % 2)) l.username.bytes
          (cond (ltb 0 (n / 64 % 2)) (with_length l.password.bytes) [] ++ [])
          (content_short l.username.bytes f.0),
    )
