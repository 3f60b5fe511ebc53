-- Variable byte integers: what stands at the front of bytes, and the shortest bytes of a number.
use Rattle.std.proofs.Common.{◌≡◌, ℕ, zero, suc, ◌+◌, ◌*◌, ◌/◌, ◌%◌, ◌<◌, ◌≤◌, List, [], ◌∷◌, ◌++◌, length, take, slice_index_or, ◌⊎◌, inl, inr, refl, sym, ap, ◌∙◌, arith, length-append}
use Rattle.std.proofs.lemmas.List.{take_at}
use Rattle.std.proofs.lemmas.Bool.{cases_lt, lt-ltb, le-ltb}
use Rattle.mqtt5_base.specs.VarInt.{IsEnded, sevens, VarInt, var_int_in, var_int}
use Rattle.mqtt5_base.specs.Lengths.{Length, Overlong, Unfinished, Finished, after_byte, length_at}
use Rattle.mqtt5_base.specs.Faults.{GoOn}

-- ---- one byte

-- a byte that says that none follows
pub length_last : (most b : ℕ) (bs : List ℕ) → b < 128 → length_at (suc most) (b ∷ bs) ≡ Finished 1 b
unfolding length_at
length_last most b bs lt = rw (lt-ltb b 128 lt) refl

-- a byte that says that another follows
pub length_more : (most b : ℕ) (bs : List ℕ) → 128 ≤ b → length_at (suc most) (b ∷ bs) ≡ after_byte b (length_at most bs)
unfolding length_at
length_more most b bs le = rw (le-ltb b 128 le) refl

-- two bytes, of which the first alone says that another follows
pub length_two : (most : ℕ) (bs : List ℕ) → 1 < most → 2 ≤ length bs → 128 ≤ slice_index_or bs 0 0 → slice_index_or bs 1 0 < 128
    → length_at most bs ≡ Finished 2 (slice_index_or bs 0 0 % 128 + 128 * slice_index_or bs 1 0)
length_two zero bs most two more last = absurd (omega arith)
length_two (suc zero) bs most two more last = absurd (omega arith)
length_two (suc (suc n)) [] most two more last = absurd (omega arith)
length_two (suc (suc n)) (a ∷ []) most two more last = absurd (omega arith)
length_two (suc (suc n)) (a ∷ b ∷ bs) most two more last = length_more (suc n) a (b ∷ bs) more ∙ ap (after_byte a) (length_last n b bs last)

-- bytes of a number behind such a byte are bytes of a number
pub ended_more : (b : ℕ) (front : List ℕ) → 128 ≤ b → IsEnded front → IsEnded (b ∷ front)
ended_more b [] le h = absurd h
ended_more b (c ∷ cs) le h = (le, h)

-- the bytes of a number are one at least
pub ended_long : (front : List ℕ) → IsEnded front → 0 < length front
ended_long [] h = absurd h
ended_long (b ∷ bs) h = omega arith

-- a number is behind a byte just where it is with that byte
finished_behind : (b count n : ℕ) (l : Length) → after_byte b l ≡ Finished count n → (less high : ℕ) × (l ≡ Finished less high) × (count ≡ less + 1) × (n ≡ b % 128 + 128 * high)
finished_behind b count n Overlong e = absurd cc
finished_behind b count n Unfinished e = absurd cc
finished_behind b count n (Finished less high) e = (less, high, refl, cc, cc)

-- bytes don't end behind a byte just where they don't with it
unfinished_behind : (b : ℕ) (l : Length) → after_byte b l ≡ Unfinished → l ≡ Unfinished
unfinished_behind b Overlong e = absurd cc
unfinished_behind b Unfinished e = refl
unfinished_behind b (Finished less high) e = absurd cc

-- bytes are too many behind a byte just where they are with it
overlong_behind : (b : ℕ) (l : Length) → after_byte b l ≡ Overlong → l ≡ Overlong
overlong_behind b Overlong e = refl
overlong_behind b Unfinished e = absurd cc
overlong_behind b (Finished less high) e = absurd cc

-- ---- what stands at the front

-- these bytes at the front, up to so many, stand for the number
abbrev pub FinishedFront : ℕ → List ℕ → ℕ → ℕ → Type 0
FinishedFront most bs count n = (front : List ℕ) × (after : List ℕ) × (bs ≡ front ++ after) × (length front ≡ count) × (count ≤ most) × IsEnded front × (n ≡ sevens front)

-- A number is found only where its bytes are at the front.
pub finished : (most : ℕ) (bs : List ℕ) (count n : ℕ) → length_at most bs ≡ Finished count n → FinishedFront most bs count n
unfolding length_at
finished zero bs count n e = absurd cc
finished (suc most) [] count n e = absurd cc
finished (suc most) (b ∷ bs) count n e = by_byte (finished most bs) (cases_lt b 128)
  where
    by_byte : ((less high : ℕ) → length_at most bs ≡ Finished less high → FinishedFront most bs less high) → (b < 128) ⊎ (128 ≤ b) → FinishedFront (suc most) (b ∷ bs) count n
    by_byte again (inl lt) =
        let same : Finished 1 b ≡ Finished count n = sym (length_last most b bs lt) ∙ e in
        let one : 1 ≡ count = cc in
        let all : b ≡ n = cc in
        (b ∷ [], bs, refl, omega arith, omega arith, lt, omega arith)
    by_byte again (inr le) =
        let h = finished_behind b count n (length_at most bs) (sym (length_more most b bs le) ∙ e) in
        let t = again h.0 h.1 h.2 in
        (b ∷ t.0, t.1, ap (λ r. b ∷ r) t.2, omega (arith, t.3, h.3), omega (arith, t.4, h.3), ended_more b t.0 le t.5, h.4 ∙ ap (λ s. b % 128 + 128 * s) t.6)

-- Bytes of a number at the front are found, whatever follows.
pub finished_of : (most : ℕ) (front after : List ℕ) → IsEnded front → length front ≤ most → length_at most (front ++ after) ≡ Finished (length front) (sevens front)
finished_of most [] after h le = absurd h
finished_of zero (b ∷ bs) after h le = absurd (omega arith)
finished_of (suc most) (b ∷ []) after h le = let low : b % 128 + 128 * 0 ≡ b = omega arith in length_last most b after h ∙ (λ i. Finished 1 (sym low i))
finished_of (suc most) (b ∷ c ∷ bs) after h le =
    let rest : length_at most (c ∷ (bs ++ after)) ≡ Finished (length (c ∷ bs)) (sevens (c ∷ bs)) = finished_of most (c ∷ bs) after h.1 (omega arith) in
    let more : length (c ∷ bs) + 1 ≡ length (b ∷ c ∷ bs) = omega arith in
    length_more most b (c ∷ (bs ++ after)) h.0 ∙ ap (after_byte b) rest ∙ ap (λ k. Finished k (sevens (b ∷ c ∷ bs))) more

-- Bytes are without end only where each says that another follows, and they are too few.
pub unfinished : (most : ℕ) (bs : List ℕ) → length_at most bs ≡ Unfinished → (length bs < most) × GoOn bs
unfolding length_at
unfinished zero bs e = absurd cc
unfinished (suc most) [] e = (omega arith, tt)
unfinished (suc most) (b ∷ bs) e = by_byte (unfinished most bs) (cases_lt b 128)
  where
    none : Finished 1 b ≡ Unfinished → ⊥
    none h = absurd cc

    by_byte : (length_at most bs ≡ Unfinished → (length bs < most) × GoOn bs) → (b < 128) ⊎ (128 ≤ b) → (length (b ∷ bs) < suc most) × GoOn (b ∷ bs)
    by_byte again (inl lt) = absurd (none (sym (length_last most b bs lt) ∙ e))
    by_byte again (inr le) = let t = again (unfinished_behind b (length_at most bs) (sym (length_more most b bs le) ∙ e)) in (omega (arith, t.0), (le, t.1))

-- Too few bytes that each say that another follows are without end.
pub unfinished_of : (most : ℕ) (bs : List ℕ) → GoOn bs → length bs < most → length_at most bs ≡ Unfinished
unfolding length_at
unfinished_of zero bs h lt = absurd (omega arith)
unfinished_of (suc most) [] h lt = refl
unfinished_of (suc most) (b ∷ bs) h lt = length_more most b bs h.0 ∙ ap (after_byte b) (unfinished_of most bs h.1 (omega arith))

-- as many bytes at the front each say that another follows
abbrev pub OverlongFront : ℕ → List ℕ → Type 0
OverlongFront most bs = (front : List ℕ) × (after : List ℕ) × (bs ≡ front ++ after) × (length front ≡ most) × GoOn front

-- Bytes are too many only where as many at the front each say that another follows.
pub overlong : (most : ℕ) (bs : List ℕ) → length_at most bs ≡ Overlong → OverlongFront most bs
unfolding length_at
overlong zero bs e = ([], bs, refl, refl, tt)
overlong (suc most) [] e = absurd cc
overlong (suc most) (b ∷ bs) e = by_byte (overlong most bs) (cases_lt b 128)
  where
    none : Finished 1 b ≡ Overlong → ⊥
    none h = absurd cc

    by_byte : (length_at most bs ≡ Overlong → OverlongFront most bs) → (b < 128) ⊎ (128 ≤ b) → OverlongFront (suc most) (b ∷ bs)
    by_byte again (inl lt) = absurd (none (sym (length_last most b bs lt) ∙ e))
    by_byte again (inr le) =
        let t = again (overlong_behind b (length_at most bs) (sym (length_more most b bs le) ∙ e)) in
        (b ∷ t.0, t.1, ap (λ r. b ∷ r) t.2, omega (arith, t.3), (le, t.4))

-- As many bytes that each say that another follows are too many.
pub overlong_of : (most : ℕ) (front after : List ℕ) → GoOn front → length front ≡ most → length_at most (front ++ after) ≡ Overlong
unfolding length_at
overlong_of zero [] after h e = refl
overlong_of zero (b ∷ bs) after h e = absurd (omega arith)
overlong_of (suc most) [] after h e = absurd (omega arith)
overlong_of (suc most) (b ∷ bs) after h e = length_more most b (bs ++ after) h.0 ∙ ap (after_byte b) (overlong_of most bs after h.1 (omega arith))

-- ---- variable byte integers

-- What was found is a variable byte integer of that count of bytes.
pub var_int_found : (bs : List ℕ) (count n : ℕ) → length_at 4 bs ≡ Finished count n → VarInt (take count bs) n × (count ≤ length bs)
var_int_found bs count n e =
    let t = finished 4 bs count n e in
    let shown : take count bs ≡ t.0 = ap (take count) t.2 ∙ take_at t.0 t.1 count t.3 in
    (rw shown (omega (arith, t.3, t.4), t.5, t.6), omega (arith, t.3, ap length t.2, length-append t.0 t.1))

-- A variable byte integer at the front is found.
pub var_int_finds : (front after : List ℕ) (n : ℕ) → VarInt front n → length_at 4 (front ++ after) ≡ Finished (length front) n
var_int_finds front after n h = finished_of 4 front after h.1 h.0 ∙ ap (λ s. Finished (length front) s) (sym h.2)

-- ---- the shortest bytes

-- the numbers below this have as many bytes, and one more, at most
abbrev above : ℕ → ℕ
above zero = 128
above (suc k) = 128 * above k

-- the bytes stand for the number
abbrev Stands : ℕ → ℕ → Type 0
Stands k n = (length (var_int_in k n) ≤ suc k) × IsEnded (var_int_in k n) × (n ≡ sevens (var_int_in k n))

-- bytes enough stand for a number
stands_in : (k n : ℕ) → n < above k → Stands k n
stands_in zero n lt = (omega arith, lt, omega arith)
stands_in (suc k) n lt = by_size (stands_in k (n / 128)) (cases_lt n 128)
  where
    by_size : (n / 128 < above k → Stands k (n / 128)) → (n < 128) ⊎ (128 ≤ n) → Stands (suc k) n
    by_size again (inl less) = rw (lt-ltb n 128 less) (omega arith, less, omega arith)
    by_size again (inr le) =
        let t = again (omega arith) in
        rw (le-ltb n 128 le) (omega (arith, t.0), ended_more (n % 128 + 128) (var_int_in k (n / 128)) (omega arith) t.1, omega (arith, t.2))

-- The shortest form stands for its number.
pub var_int_stands : (n : ℕ) → n < 268435456 → VarInt (var_int n) n
unfolding var_int
var_int_stands n lt = stands_in 3 n lt

-- no bytes of the number are fewer
shortest_in : (k : ℕ) (bs : List ℕ) → IsEnded bs → length bs ≤ suc k → length (var_int_in k (sevens bs)) ≤ length bs
shortest_in k [] h le = absurd h
shortest_in zero (b ∷ bs) h le = omega arith
shortest_in (suc k) (b ∷ []) h le = let low : b % 128 + 128 * 0 < 128 = omega arith in rw (lt-ltb (b % 128 + 128 * 0) 128 low) (omega arith)
shortest_in (suc k) (b ∷ c ∷ bs) h le = by_size (shortest_in k (c ∷ bs) h.1 (omega arith)) (cases_lt (sevens (b ∷ c ∷ bs)) 128)
  where
    by_size : length (var_int_in k (sevens (c ∷ bs))) ≤ length (c ∷ bs) → (sevens (b ∷ c ∷ bs) < 128) ⊎ (128 ≤ sevens (b ∷ c ∷ bs)) → length (var_int_in (suc k) (sevens (b ∷ c ∷ bs))) ≤ length (b ∷ c ∷ bs)
    by_size short (inl less) = rw (lt-ltb (sevens (b ∷ c ∷ bs)) 128 less) (omega arith)
    by_size short (inr more) =
        let high : sevens (b ∷ c ∷ bs) / 128 ≡ sevens (c ∷ bs) = omega arith in
        let same : length (var_int_in k (sevens (b ∷ c ∷ bs) / 128)) ≡ length (var_int_in k (sevens (c ∷ bs))) = ap (λ s. length (var_int_in k s)) high in
        rw (le-ltb (sevens (b ∷ c ∷ bs)) 128 more) (omega (arith, same, short))

-- The shortest form is no longer than other bytes of its number.
pub var_int_shortest : (n : ℕ) (bs : List ℕ) → VarInt bs n → length (var_int n) ≤ length bs
unfolding var_int
var_int_shortest n bs h = rw h.2 (shortest_in 3 bs h.1 h.0)
