-- Reading leaves no more bytes than there were, and reading an item fewer.
use Rattle.std.proofs.Common.{◌≡◌, ℕ, ◌<◌, ◌≤◌, Bool, true, false, cond, ltb, List, [], ◌∷◌, length, drop, take, Option, Some, None, Result, Ok, Err, subst, arith, length-drop}
use Rattle.std.specs.Int.{Width, w8, w16, w32, byte_len, from_be_bytes}
use Rattle.std.specs.Str.{is_utf8}
use Rattle.mqtt5_base.specs.declared.error.Error.{Error}
use Rattle.mqtt5_base.specs.declared.error.Error.TheVariants.{MalformedPacket, BoundaryCrossed, TopicNotUtf8, InvalidPropertyType}
use Rattle.mqtt5_base.specs.Lengths.{Length, Overlong, Unfinished, Finished, length_at}
use Rattle.mqtt5_base.specs.Grammar.{Kind, u8, u16, u32, varint, bytes, text, pair, Entry, Found, allows, kinds, entry_of}
use Rattle.mqtt5_base.specs.Reading.{◌>>=◌, number_at, bytes_at, text_at, by_length, var_int_at, atom_at, atom_of_kind, property_at, item_at, with_item}

abbrev AtMost : {X : Type 0} → ℕ → Result (X × List ℕ) Error → Type 0
AtMost n (Ok x) = length x.1 ≤ n
AtMost n (Err e) = Unit {0}

then_most : {X Y : Type 0} (n : ℕ) (r : Result (X × List ℕ) Error) (f : X × List ℕ → Result (Y × List ℕ) Error) → AtMost n r → ((x : X × List ℕ) → length x.1 ≤ n → AtMost n (f x)) → AtMost n (r >>= f)
then_most n (Ok x) f h k = k x h
then_most n (Err e) f h k = tt

cond_most : {X : Type 0} (n : ℕ) (b : Bool) (r s : Result (X × List ℕ) Error) → AtMost n r → AtMost n s → AtMost n (cond b r s)
cond_most n true r s h k = h
cond_most n false r s h k = k

less_left : (k : ℕ) (bs : List ℕ) (n : ℕ) → length bs ≤ n → length (drop k bs) ≤ n
less_left k bs n le = omega (arith, length-drop k bs)

number_most : (w : Width) (bs : List ℕ) (n : ℕ) → length bs ≤ n → AtMost n (number_at w bs)
number_most w bs n le = cond_most n (ltb (length bs) (byte_len w)) (Err MalformedPacket) (Ok (from_be_bytes w (take (byte_len w) bs), drop (byte_len w) bs)) tt (less_left (byte_len w) bs n le)

bytes_most : (bs : List ℕ) (n : ℕ) → length bs ≤ n → AtMost n (bytes_at bs)
unfolding bytes_at
bytes_most bs n le = then_most n (number_at w16 bs) (λ m. cond (ltb (length m.1) m.0) (Err (BoundaryCrossed m.0)) (Ok (take m.0 m.1, drop m.0 m.1))) (number_most w16 bs n le)
    (λ m less. cond_most n (ltb (length m.1) m.0) (Err (BoundaryCrossed m.0)) (Ok (take m.0 m.1, drop m.0 m.1)) tt (less_left m.0 m.1 n less))

text_most : (bs : List ℕ) (n : ℕ) → length bs ≤ n → AtMost n (text_at bs)
unfolding text_at
text_most bs n le = then_most n (bytes_at bs) (λ t. cond (is_utf8 t.0) (Ok t) (Err TopicNotUtf8)) (bytes_most bs n le) (λ t less. cond_most n (is_utf8 t.0) (Ok t) (Err TopicNotUtf8) less tt)

length_most : (l : Length) (bs : List ℕ) (n : ℕ) → length bs ≤ n → AtMost n (by_length l bs)
length_most Overlong bs n le = tt
length_most Unfinished bs n le = tt
length_most (Finished count m) bs n le = less_left count bs n le

var_int_most : (bs : List ℕ) (n : ℕ) → length bs ≤ n → AtMost n (var_int_at bs)
unfolding var_int_at
var_int_most bs n le = length_most (length_at 4 bs) bs n le

seen_most : {X Y : Type 0} (n : ℕ) (r : Result (X × List ℕ) Error) (g : X → Y) → AtMost n r → AtMost n (r >>= λ x. Ok (g x.0, x.1))
seen_most n (Ok x) g h = h
seen_most n (Err e) g h = tt

atom_most : (k : Kind) (bs : List ℕ) (n : ℕ) → length bs ≤ n → AtMost n (atom_at k bs)
atom_most u8 bs n le = seen_most n (number_at w8 bs) _ (number_most w8 bs n le)
atom_most u16 bs n le = seen_most n (number_at w16 bs) _ (number_most w16 bs n le)
atom_most u32 bs n le = seen_most n (number_at w32 bs) _ (number_most w32 bs n le)
atom_most varint bs n le = seen_most n (var_int_at bs) _ (var_int_most bs n le)
atom_most bytes bs n le = seen_most n (bytes_at bs) _ (bytes_most bs n le)
atom_most text bs n le = seen_most n (text_at bs) _ (text_most bs n le)
atom_most pair bs n le = then_most n (text_at bs) _ (text_most bs n le) (λ key less. seen_most n (text_at key.1) _ (text_most key.1 n less))

kind_most : (o : Option Kind) (id : ℕ) (bs : List ℕ) → AtMost (length bs) (atom_of_kind o id bs)
kind_most None id bs = tt
kind_most (Some k) id bs = atom_most k bs (length bs) (omega arith)

pub byte_again : (b : ℕ) (rest : List ℕ) → number_at w8 (b ∷ rest) ≡ Ok (b, rest)
byte_again b rest = grind arith

item_most : (table : List Entry) (found : Found) (b : ℕ) (bs : List ℕ) → AtMost (length bs) (item_at table found (b ∷ bs))
unfolding item_at property_at
item_most table found b bs =
    rw (byte_again b bs) (cond_most (length bs) (allows table b) (atom_of_kind (entry_of kinds b) b bs >>= λ a. Ok (with_item table b a.0 found, a.1)) (Err (InvalidPropertyType b)) (seen_most (length bs) (atom_of_kind (entry_of kinds b) b bs) (λ a. with_item table b a found) (kind_most (entry_of kinds b) b bs)) tt)

read_most : {X : Type 0} (n : ℕ) (r : Result (X × List ℕ) Error) (x : X × List ℕ) → AtMost n r → r ≡ Ok x → length x.1 ≤ n
read_most n (Ok y) x h e = let same : y ≡ x = cc in subst (λ z. length z.1 ≤ n) same h
read_most n (Err d) x h e = absurd cc

-- an item takes a byte at least
pub item_shorter : (table : List Entry) (found next : Found) (bs after : List ℕ) → 0 < length bs → item_at table found bs ≡ Ok (next, after) → length after < length bs
item_shorter table found next [] after some e = absurd (omega arith)
item_shorter table found next (b ∷ bs) after some e = let le = read_most (length bs) (item_at table found (b ∷ bs)) (next, after) (item_most table found b bs) e in omega (arith, le)
