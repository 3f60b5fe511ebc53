-- A variable byte integer at the front of bytes that come.
use Rattle.std.proofs.Common.{◌≡◌, ℕ, zero, suc, ◌<◌, ◌≤◌, Bool, true, false, cond, ltb, ◌⊎◌, List, [], ◌∷◌, ◌++◌, length, take, drop, refl, sym, ap, ◌∙◌, arith, inl, inr}
use Rattle.std.proofs.lemmas.Bool.{cases_lt}
use Rattle.std.proofs.lemmas.List.{take_at, take-append-le, take-append-drop}
use Rattle.mqtt5_base.specs.VarInt.{VarInt, sevens}
use Rattle.mqtt5_base.specs.Lengths.{Length, Overlong, Unfinished, Finished, after_byte, length_at}
use Rattle.mqtt5_base.proofs.VarIntLemmas.{ended_long, finished, finished_of, var_int_found}

-- a length that is decided is that of the longer bytes
abbrev pub Keeps : Length → Length → Type 0
Keeps Unfinished l = Unit {0}
Keeps Overlong l = l ≡ Overlong
Keeps (Finished count n) l = l ≡ Finished count n

-- one byte before both
keeps_behind : (b : ℕ) (l m : Length) → Keeps l m → Keeps (after_byte b l) (after_byte b m)
keeps_behind b Unfinished m h = tt
keeps_behind b Overlong m h = ap (after_byte b) h
keeps_behind b (Finished count n) m h = ap (after_byte b) h

-- a last byte, or one byte before both
keeps_by_test : (t : Bool) (b : ℕ) (l m : Length) → Keeps l m → Keeps (cond t (Finished 1 b) l) (cond t (Finished 1 b) m)
keeps_by_test true b l m h = refl
keeps_by_test false b l m h = h

-- what is decided of bytes stays so when bytes come
pub length_keeps : (most : ℕ) (bs more : List ℕ) → Keeps (length_at most bs) (length_at most (bs ++ more))
unfolding length_at
length_keeps zero bs more = refl
length_keeps (suc most) [] more = tt
length_keeps (suc most) (b ∷ bs) more = keeps_by_test (ltb b 128) b _ _ (keeps_behind b _ _ (length_keeps most bs more))

-- a finished length has a byte
pub finished_some : (most : ℕ) (bs : List ℕ) (count n : ℕ) → length_at most bs ≡ Finished count n → 0 < count
finished_some most bs count n e = let f = finished most bs count n e in omega (arith, ended_long f.0 f.5, f.3)

-- its bytes stand for its value
pub finished_stands : (bs : List ℕ) (count n : ℕ) → length_at 4 bs ≡ Finished count n → VarInt (take count bs) n
finished_stands bs count n e = (var_int_found bs count n e).0

-- bytes that aren't finished are fewer than those of the length
pub unfinished_before : (most : ℕ) (bs more : List ℕ) (count n : ℕ) → length_at most bs ≡ Unfinished → length_at most (bs ++ more) ≡ Finished count n → length bs < count
unfinished_before most bs more count n e h = by_length (cases_lt (length bs) count)
  where
    by_length : (length bs < count) ⊎ (count ≤ length bs) → length bs < count
    by_length (inl less) = less
    by_length (inr le) =
        let f = finished most (bs ++ more) count n h in
        let front : take count bs ≡ f.0 = sym (take-append-le count bs more le) ∙ ap (take count) f.2 ∙ take_at f.0 f.1 count f.3 in
        let whole : bs ≡ f.0 ++ drop count bs = sym (take-append-drop count bs) ∙ ap (λ (x : List ℕ). x ++ drop count bs) front in
        let found : length_at most bs ≡ Finished (length f.0) (sevens f.0) = ap (length_at most) whole ∙ finished_of most f.0 (drop count bs) f.5 (omega (arith, f.3, f.4)) in
        let clash : Unfinished ≡ Finished (length f.0) (sevens f.0) = sym e ∙ found in
        absurd cc
