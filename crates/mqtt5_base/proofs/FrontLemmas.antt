-- What stands at the front of a stream stays so when bytes come, and a frame is whole with its last byte.
use Rattle.std.proofs.Common.{◌≡◌, ℕ, ◌+◌, ◌-◌, ◌<◌, ◌≤◌, Bool, true, false, cond, ltb, List, [], ◌∷◌, ◌++◌, length, get_or, take, drop, Option, Some, None, Ok, refl, sym, ap, ◌∙◌, arith, inl, inr}
use Rattle.std.proofs.Math.Seq.{take-add}
use Rattle.std.proofs.lemmas.Bool.{cases_lt, le-ltb, lt-ltb}
use Rattle.std.proofs.lemmas.List.{drop-append-le, drop-take, drop_all, length-append, length-drop, length-take-le, take-append-drop, take-append-le, take_rest}
use Rattle.mqtt5_base.specs.declared.error.Error.{Error}
use Rattle.mqtt5_base.specs.declared.error.Error.TheVariants.{PayloadSizeLimitExceeded, OutOfMemory}
use Rattle.mqtt5_base.specs.declared.header.FixedHeader.{FixedHeader}
use Rattle.mqtt5_base.specs.Frames.{IsWhole}
use Rattle.mqtt5_base.specs.Front.{Front, Bad, More, Whole, IsFront}
use Rattle.mqtt5_base.specs.FrontAt.{cut, within, by_remaining, front}
use Rattle.mqtt5_base.specs.Headers.{IsHeader, Checks, frame_len}
use Rattle.mqtt5_base.specs.Lengths.{Length, Overlong, Unfinished, Finished, length_at}
use Rattle.mqtt5_base.proofs.LengthLemmas.{Keeps, length_keeps, finished_some, finished_stands, unfinished_before}

-- ---- what is decided stays so

-- a front that is decided is that of the longer stream
abbrev Stays : Front → Front → List ℕ → Type 0
Stays (More n) g more = Unit {0}
Stays (Bad e) g more = g ≡ Bad e
Stays (Whole frame rest) g more = g ≡ Whole frame (rest ++ more)

-- a frame is cut off once its bytes are there
cut_whole : (n : ℕ) (s : List ℕ) → n ≤ length s → cut n s ≡ Whole (take n s) (drop n s)
cut_whole n s fits = rw (le-ltb (length s) n fits) refl

-- the cut of a frame stays
cut_stays : (n : ℕ) (s more : List ℕ) → Stays (cut n s) (cut n (s ++ more)) more
cut_stays n s more =
    elim (cases_lt (length s) n) [
      | inl short ↦ rw (lt-ltb (length s) n short) tt
      | inr fits ↦ rw (le-ltb (length s) n fits) (cut_whole n (s ++ more) (omega (arith, length-append s more)) ∙ rw (take-append-le, drop-append-le) refl)
    ]

-- the test of the limit is that of the shorter stream
test_stays : (t : Bool) (e : Error) (f g : Front) (more : List ℕ) → Stays f g more → Stays (cond t (Bad e) f) (cond t (Bad e) g) more
test_stays true e f g more h = refl
test_stays false e f g more h = h

-- under a limit, or without one
within_stays : (limit : Option ℕ) (count n : ℕ) (s more : List ℕ) → Stays (within limit count n s) (within limit count n (s ++ more)) more
within_stays None count n s more = cut_stays (1 + count + n) s more
within_stays (Some max) count n s more = test_stays (ltb max n) _ _ _ more (cut_stays (1 + count + n) s more)

-- of each remaining length
remaining_stays : (limit : Option ℕ) (l m : Length) (s more : List ℕ) → Keeps l m → Stays (by_remaining limit l s) (by_remaining limit m (s ++ more)) more
remaining_stays limit Unfinished m s more h = tt
remaining_stays limit Overlong m s more h = ap (λ (x : Length). by_remaining limit x (s ++ more)) h
remaining_stays limit (Finished count n) m s more h = rw h (within_stays limit count n s more)

-- a front that is decided stays so when bytes come
front_stays : (limit : Option ℕ) (s more : List ℕ) → Stays (front limit s) (front limit (s ++ more)) more
unfolding front
front_stays limit [] more = tt
front_stays limit (b ∷ s) more = remaining_stays limit _ _ (b ∷ s) more (length_keeps 4 s more)

-- ---- the parts of a whole front

-- a frame at the front is a first byte, a finished length and so many bytes
record IsCut (s frame rest : List ℕ) : Type 0 where
  first : ℕ
  others : List ℕ
  count : ℕ
  n : ℕ
  stream : s ≡ first ∷ others
  remaining : length_at 4 others ≡ Finished count n
  fits : 1 + count + n ≤ length s
  is_frame : take (1 + count + n) s ≡ frame
  is_rest : drop (1 + count + n) s ≡ rest

-- what is cut off as whole has all of its bytes
cut_parts : (n : ℕ) (s frame rest : List ℕ) → cut n s ≡ Whole frame rest → (n ≤ length s) × (take n s ≡ frame) × (drop n s ≡ rest)
cut_parts n s frame rest e =
    elim (cases_lt (length s) n) [
      | inl short ↦ let h = rw (lt-ltb (length s) n short) at e in absurd cc
      | inr fits ↦ let h = sym (cut_whole n s fits) ∙ e in (fits, cc, cc)
    ]

-- a whole frame is within the limit
within_whole : (limit : Option ℕ) (count n : ℕ) (s frame rest : List ℕ) → within limit count n s ≡ Whole frame rest → cut (1 + count + n) s ≡ Whole frame rest
within_whole None count n s frame rest e = e
within_whole (Some max) count n s frame rest e = by_test (ltb max n) e
  where
    by_test : (t : Bool) → cond t (Bad (PayloadSizeLimitExceeded n max)) (cut (1 + count + n) s) ≡ Whole frame rest → cut (1 + count + n) s ≡ Whole frame rest
    by_test true h = absurd cc
    by_test false h = h

-- a whole front is cut from the stream
front_parts : (limit : Option ℕ) (s frame rest : List ℕ) → front limit s ≡ Whole frame rest → IsCut s frame rest
unfolding front
front_parts limit [] frame rest e = absurd cc
front_parts limit (b ∷ s) frame rest e = by_length (length_at 4 s) refl e
  where
    by_length : (l : Length) → length_at 4 s ≡ l → by_remaining limit l (b ∷ s) ≡ Whole frame rest → IsCut (b ∷ s) frame rest
    by_length Overlong is h = absurd cc
    by_length Unfinished is h = absurd cc
    by_length (Finished count n) is h =
        let parts = cut_parts (1 + count + n) (b ∷ s) frame rest (within_whole limit count n (b ∷ s) frame rest h) in
        record { first = b; others = s; count = count; n = n; stream = refl; remaining = is; fits = parts.0; is_frame = parts.1; is_rest = parts.2 }

-- the frame and the bytes after it are the stream
cut_joined : (s frame rest : List ℕ) → IsCut s frame rest → s ≡ frame ++ rest
cut_joined s frame rest p = rw (← p.is_frame, ← p.is_rest) (sym (take-append-drop (1 + p.count + p.n) s))

-- after a frame there are fewer bytes
whole_shorter : (limit : Option ℕ) (s frame rest : List ℕ) → front limit s ≡ Whole frame rest → length rest < length s
whole_shorter limit s frame rest e =
    let p = front_parts limit s frame rest e in
    omega (arith, p.fits, ap length p.is_rest, length-drop (1 + p.count + p.n) s)

-- ---- the frame itself

-- the bytes of a frame: the first, those of the length, and so many
record IsSplit (first : ℕ) (len frame body : List ℕ) (n : ℕ) : Type 0 where
  joined : frame ≡ first ∷ (len ++ body)
  len_of_body : length body ≡ n

-- a stream that has the bytes begins with them
splits : (first count n : ℕ) (others : List ℕ) → count + n ≤ length others
    → IsSplit first (take count others) (take (1 + count + n) (first ∷ others)) (drop (1 + count) (take (1 + count + n) (first ∷ others))) n
splits first count n others fits =
    let body = drop-take (1 + count) n (first ∷ others) in
    record {
      joined = take-add (1 + count) n (first ∷ others)
          ∙ ap (λ (x : List ℕ). x ++ take n (drop (1 + count) (first ∷ others))) (take-add 1 count (first ∷ others))
          ∙ ap (λ (x : List ℕ). first ∷ (take count others ++ x)) (sym body);
      len_of_body = ap length body ∙ length-take-le n (drop (1 + count) (first ∷ others)) (omega (arith, length-drop (1 + count) (first ∷ others)));
    }

-- so it begins with a frame
frame_is_whole : (first count n : ℕ) (others : List ℕ) → length_at 4 others ≡ Finished count n → count + n ≤ length others
    → IsWhole (take (1 + count + n) (first ∷ others)) first (drop (1 + count) (take (1 + count + n) (first ∷ others)))
frame_is_whole first count n others is fits =
    let s = splits first count n others fits in
    (take count others, s.joined, rw s.len_of_body (finished_stands others count n is))

-- what is cut off is a frame
cut_shape : (s frame rest : List ℕ) → IsCut s frame rest → (first : ℕ) × (body : List ℕ) × IsWhole frame first body
cut_shape s frame rest p =
    let is = rw p.stream at p.is_frame in
    (p.first, drop (1 + p.count) frame, rw (← is) (frame_is_whole p.first p.count p.n p.others p.remaining (omega (arith, p.fits, ap length p.stream))))

-- a header of these lengths is the frame's
header_is : (h : FixedHeader) (first count n : ℕ) (others : List ℕ) → h.byte1 ≡ first → h.fixed_header_len ≡ 1 + count → h.remaining_len ≡ n
    → length_at 4 others ≡ Finished count n → count + n ≤ length others → IsHeader h (take (frame_len h) (first ∷ others))
header_is h first count n others is_first is_fixed is_remaining is fits =
    let s = splits first count n others fits in
    record {
      whole = rw (is_first, is_fixed, is_remaining) (frame_is_whole first count n others is fits);
      remaining = rw (is_fixed, is_remaining) s.len_of_body;
      len = rw (is_fixed, is_remaining) (length-take-le (1 + count + n) (first ∷ others) (omega arith));
    }

-- a remaining length that is within the limit
within_allowed : (limit : Option ℕ) (count n : ℕ) (s : List ℕ) → ((max : ℕ) → limit ≡ Some max → n ≤ max) → within limit count n s ≡ cut (1 + count + n) s
within_allowed None count n s allowed = refl
within_allowed (Some max) count n s allowed = rw (le-ltb max n (allowed max refl)) refl

-- a finished length within the limit, and its bytes, are a whole front
pub front_of_finished : (limit : Option ℕ) (b count n : ℕ) (s : List ℕ) → length_at 4 s ≡ Finished count n → count + n ≤ length s → ((max : ℕ) → limit ≡ Some max → n ≤ max)
    → front limit (b ∷ s) ≡ Whole (take (1 + count + n) (b ∷ s)) (drop (1 + count + n) (b ∷ s))
unfolding front
front_of_finished limit b count n s is fits allowed = rw is (within_allowed limit count n (b ∷ s) allowed ∙ cut_whole (1 + count + n) (b ∷ s) (omega arith))

-- a header with the first byte and the lengths of such a front is what `check` answers
pub header_checks : (limit : Option ℕ) (s : List ℕ) (h : FixedHeader) (count n : ℕ) → 1 ≤ length s → h.byte1 ≡ get_or s 0 0 → h.fixed_header_len ≡ 1 + count → h.remaining_len ≡ n
    → length_at 4 (take (length s - 1) (drop 1 s)) ≡ Finished count n → count + n ≤ length (take (length s - 1) (drop 1 s)) → ((max : ℕ) → limit ≡ Some max → n ≤ max)
    → Checks (Ok h) s (front limit s)
header_checks limit [] h count n some is_first is_fixed is_remaining is fits allowed = absurd (omega arith)
header_checks limit (b ∷ s) h count n some is_first is_fixed is_remaining is fits allowed =
    let is_length : length_at 4 s ≡ Finished count n = rw (take_rest (b ∷ s) 1) at is in
    let is_there : count + n ≤ length s = rw (take_rest (b ∷ s) 1) at fits in
    (rw (is_fixed, is_remaining) (front_of_finished limit b count n s is_length is_there allowed), header_is h b count n s is_first is_fixed is_remaining is_length is_there)

-- ---- how many bytes are missing

-- the bytes that a cut asks for are those of the frame that aren't there
cut_more : (n : ℕ) (s : List ℕ) (k : ℕ) → cut n s ≡ More k → (0 < k) × (n ≡ length s + k)
cut_more n s k e =
    elim (cases_lt (length s) n) [
      | inl short ↦ let h : More (n - length s) ≡ More k = rw (lt-ltb (length s) n short) at e in let same : n - length s ≡ k = cc in (omega arith, omega arith)
      | inr fits ↦ let h = sym (cut_whole n s fits) ∙ e in absurd cc
    ]

-- more of a frame is asked for within the limit
within_more : (limit : Option ℕ) (count n : ℕ) (s : List ℕ) (k : ℕ) → within limit count n s ≡ More k → cut (1 + count + n) s ≡ More k
within_more None count n s k e = e
within_more (Some max) count n s k e = by_test (ltb max n) e
  where
    by_test : (t : Bool) → cond t (Bad (PayloadSizeLimitExceeded n max)) (cut (1 + count + n) s) ≡ More k → cut (1 + count + n) s ≡ More k
    by_test true h = absurd cc
    by_test false h = h

-- a frame has k bytes more, at least, than its front that asks for k
remaining_lacks : (limit : Option ℕ) (b : ℕ) (s more : List ℕ) (k count n : ℕ) → length_at 4 (s ++ more) ≡ Finished count n
    → (l : Length) → length_at 4 s ≡ l → by_remaining limit l (b ∷ s) ≡ More k → (0 < k) × (length (b ∷ s) + k ≤ 1 + count + n)
remaining_lacks limit b s more k count n whole Overlong is e = absurd cc
remaining_lacks limit b s more k count n whole Unfinished is e =
    let one : 1 ≡ k = cc in
    let short = unfinished_before 4 s more count n is whole in
    (omega arith, omega arith)
remaining_lacks limit b s more k count n whole (Finished c m) is e =
    let kept : length_at 4 (s ++ more) ≡ Finished c m = let keeps = length_keeps 4 s more in rw is at keeps in
    let same_count : count ≡ c = cc in
    let same_value : n ≡ m = cc in
    let lacks = cut_more (1 + c + m) (b ∷ s) k (within_more limit c m (b ∷ s) k e) in
    (lacks.0, omega (arith, lacks.1))

-- the same of a stream that becomes whole
front_lacks : (limit : Option ℕ) (s more : List ℕ) (k : ℕ) (frame rest : List ℕ) (whole : IsCut (s ++ more) frame rest) → front limit s ≡ More k
    → (0 < k) × (length s + k ≤ 1 + whole.count + whole.n)
unfolding front
front_lacks limit [] more k frame rest whole e =
    let two : 2 ≡ k = cc in
    (omega arith, omega (arith, finished_some 4 whole.others whole.count whole.n whole.remaining))
front_lacks limit (b ∷ s) more k frame rest whole e =
    let others : whole.others ≡ s ++ more = cc in
    remaining_lacks limit b s more k whole.count whole.n (ap (length_at 4) (sym others) ∙ whole.remaining) (length_at 4 s) refl e

-- a frame is whole with its last byte
front_tight : (limit : Option ℕ) (s : List ℕ) (b n : ℕ) (frame rest : List ℕ) → front limit s ≡ More n → front limit (s ++ b ∷ []) ≡ Whole frame rest → rest ≡ []
front_tight limit s b n frame rest e h =
    let p = front_parts limit (s ++ b ∷ []) frame rest h in
    let lacks = front_lacks limit s (b ∷ []) n frame rest p e in
    sym p.is_rest ∙ drop_all (1 + p.count + p.n) (s ++ b ∷ []) (omega (arith, lacks.0, lacks.1, length-append s (b ∷ [])))

-- a stream isn't whole before the bytes that it asks for
front_wants : (limit : Option ℕ) (s more : List ℕ) (n : ℕ) (frame rest : List ℕ) → front limit s ≡ More n → front limit (s ++ more) ≡ Whole frame rest → n ≤ length more
front_wants limit s more n frame rest e h =
    let p = front_parts limit (s ++ more) frame rest h in
    let lacks = front_lacks limit s more n frame rest p e in
    omega (arith, lacks.1, p.fits, length-append s more)

-- ---- the laws

-- nothing needs a first byte and one of a length
pub front_nothing : (limit : Option ℕ) → front limit [] ≡ More 2
unfolding front
front_nothing limit = refl

-- the front of a stream has its laws under each limit
pub front_is : (limit : Option ℕ) → IsFront (front limit)
front_is limit = record {
  bad = λ s more e h. let stays = front_stays limit s more in rw h at stays;
  whole = λ s more frame rest h. let stays = front_stays limit s more in rw h at stays;
  parts = λ s frame rest e. cut_joined s frame rest (front_parts limit s frame rest e);
  shape = λ s frame rest e. cut_shape s frame rest (front_parts limit s frame rest e);
  shorter = whole_shorter limit;
  tight = front_tight limit;
  wants = front_wants limit;
}

-- ---- no want of memory

abbrev NoMemory : Front → Type 0
NoMemory f = f ≡ Bad OutOfMemory → ⊥

cut_no_memory : (t : Bool) (n : ℕ) (frame rest : List ℕ) → NoMemory (cond t (More n) (Whole frame rest))
cut_no_memory true n frame rest h = cc
cut_no_memory false n frame rest h = cc

limit_no_memory : (t : Bool) (n max : ℕ) (f : Front) → NoMemory f → NoMemory (cond t (Bad (PayloadSizeLimitExceeded n max)) f)
limit_no_memory true n max f none h = cc
limit_no_memory false n max f none h = none h

remaining_no_memory : (limit : Option ℕ) (l : Length) (s : List ℕ) → NoMemory (by_remaining limit l s)
remaining_no_memory limit Overlong s h = cc
remaining_no_memory limit Unfinished s h = cc
remaining_no_memory None (Finished count n) s h = cut_no_memory (ltb (length s) (1 + count + n)) _ _ _ h
remaining_no_memory (Some max) (Finished count n) s h = limit_no_memory (ltb max n) n max (cut (1 + count + n) s) (cut_no_memory (ltb (length s) (1 + count + n)) _ _ _) h

-- a front is never want of memory
pub front_no_memory : (limit : Option ℕ) (s : List ℕ) → front limit s ≡ Bad OutOfMemory → ⊥
unfolding front
front_no_memory limit [] h = cc
front_no_memory limit (b ∷ bs) h = remaining_no_memory limit (length_at 4 bs) (b ∷ bs) h
