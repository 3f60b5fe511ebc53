-- A value of each kind that is written is read again, whatever follows.
use Rattle.std.proofs.Common.{◌&&◌, ◌≡◌, ℕ, ◌<◌, Bool, true, false, ltb, List, ◌++◌, length, Ok, refl, ap, ◌∙◌, append_assoc, arith, length-append}
use Rattle.std.specs.Int.{Width, w16, w32, byte_len, from_be_bytes, to_be_bytes}
use Rattle.std.specs.Str.{is_utf8}
use Rattle.std.proofs.lemmas.Bool.{le-ltb, ltb-true}
use Rattle.std.proofs.lemmas.Nat.{from_be_bytes-to_be_bytes_2, from_be_bytes-to_be_bytes_4}
use Rattle.mqtt5_base.specs.VarInt.{var_int}
use Rattle.mqtt5_base.specs.Grammar.{Kind, u8, u16, u32, varint, bytes, text, pair, Atom, number, content, couple}
use Rattle.mqtt5_base.specs.Reading.{number_at, bytes_at, text_at, by_length, var_int_at, as_number, as_content, atom_at}
use Rattle.mqtt5_base.specs.Layout.{with_length, atom_bytes, fits_two_bytes, atom_fits}
use Rattle.mqtt5_base.specs.Sets.{AtomIs}
use Rattle.mqtt5_base.proofs.VarIntLemmas.{var_int_stands, var_int_finds}
use Rattle.mqtt5_base.proofs.KindLaws.{cut_at}
use Rattle.mqtt5_base.proofs.Shorter.{byte_again}

-- two tests that both hold
pub both_hold : (a b : Bool) → (a && b) ≡ true → (a ≡ true) × (b ≡ true)
both_hold true b e = (refl, e)
both_hold false b e = absurd cc

-- numbers below the limit have bytes of that width
record IsWide (w : Width) (limit : ℕ) : Type 0 where
  len : (n : ℕ) → length (to_be_bytes w n) ≡ byte_len w
  again : (n : ℕ) → n < limit → from_be_bytes w (to_be_bytes w n) ≡ n

-- two bytes
wide16 : IsWide w16 65536
wide16 = record { len = λ n. refl; again = λ n lt. from_be_bytes-to_be_bytes_2 n lt }

-- four bytes
wide32 : IsWide w32 4294967296
wide32 = record { len = λ n. refl; again = λ n lt. from_be_bytes-to_be_bytes_4 n lt }

-- A number is read again.
number_again : (w : Width) (limit : ℕ) (wide : IsWide w limit) (n : ℕ) (rest : List ℕ) → n < limit → number_at w (to_be_bytes w n ++ rest) ≡ Ok (n, rest)
number_again w limit wide n rest lt =
    let len = wide.len n in
    let cut = cut_at (to_be_bytes w n) rest (byte_len w) len in
    let long : ltb (length (to_be_bytes w n ++ rest)) (byte_len w) ≡ false = le-ltb _ _ (omega (arith, length-append (to_be_bytes w n) rest)) in
    rw (long, cut.0, cut.1, wide.again n lt) refl

-- Binary data is read again.
bytes_again : (c rest : List ℕ) → length c < 65536 → bytes_at (with_length c ++ rest) ≡ Ok (c, rest)
unfolding bytes_at
bytes_again c rest lt =
    let cut = cut_at c rest (length c) refl in
    let long : ltb (length (c ++ rest)) (length c) ≡ false = le-ltb _ _ (omega (arith, length-append c rest)) in
    rw (number_again w16 65536 wide16 (length c) (c ++ rest) lt, long, cut.0, cut.1) refl

-- A text is read again.
pub text_again : (c rest : List ℕ) → length c < 65536 → is_utf8 c ≡ true → text_at (with_length c ++ rest) ≡ Ok (c, rest)
unfolding text_at
text_again c rest lt is = rw (bytes_again c rest lt, is) refl

-- A variable byte integer is read again.
pub var_int_again : (n : ℕ) (rest : List ℕ) → n < 268435456 → var_int_at (var_int n ++ rest) ≡ Ok (n, rest)
unfolding var_int_at
var_int_again n rest lt =
    ap (λ l. by_length l (var_int n ++ rest)) (var_int_finds (var_int n) rest n (var_int_stands n lt))
    ∙ ap (λ (after : List ℕ). Ok (n, after)) (cut_at (var_int n) rest (length (var_int n)) refl).1

-- A value of a kind is read again.
pub atom_again : (k : Kind) (a : Atom) (rest : List ℕ) → AtomIs k a → atom_fits k a ≡ true → atom_at k (atom_bytes k a ++ rest) ≡ Ok (a, rest)
atom_again u8 (number n) rest is fit = rw (byte_again n rest) refl
atom_again u16 (number n) rest is fit = ap as_number (number_again w16 65536 wide16 n rest is)
atom_again u32 (number n) rest is fit = ap as_number (number_again w32 4294967296 wide32 n rest is)
atom_again varint (number n) rest is fit = ap as_number (var_int_again n rest (ltb-true _ _ fit))
atom_again bytes (content c) rest is fit = ap as_content (bytes_again c rest (ltb-true _ _ fit))
atom_again text (content c) rest is fit = ap as_content (text_again c rest (ltb-true _ _ fit) is)
atom_again pair (couple a b) rest is fit =
    let f = both_hold (fits_two_bytes a) (fits_two_bytes b) fit in
    let regrouped : (with_length a ++ with_length b) ++ rest ≡ with_length a ++ (with_length b ++ rest) = append_assoc (with_length a) (with_length b) rest in
    ap (atom_at pair) regrouped ∙ rw (text_again a (with_length b ++ rest) (ltb-true _ _ f.0) is.0, text_again b rest (ltb-true _ _ f.1) is.1) refl
atom_again k a rest is fit = absurd is
