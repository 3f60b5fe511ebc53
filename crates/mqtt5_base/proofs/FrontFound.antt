-- Which front each stream has.
use Rattle.std.proofs.Common.{◌≡◌, ℕ, ◌+◌, ◌-◌, ◌<◌, ◌≤◌, List, ◌∷◌, ◌++◌, length, Option, Some, None, refl, ap, ◌∙◌, append_assoc, arith, length-append}
use Rattle.std.proofs.lemmas.Bool.{le-ltb, lt-ltb}
use Rattle.mqtt5_base.specs.declared.error.Error.TheVariants.{MalformedRemainingLength, PayloadSizeLimitExceeded}
use Rattle.mqtt5_base.specs.Faults.{GoOn}
use Rattle.mqtt5_base.specs.Frames.{IsWhole}
use Rattle.mqtt5_base.specs.Front.{Bad, More, Whole, Admits, IsFound}
use Rattle.mqtt5_base.specs.FrontAt.{cut, within, by_remaining, front}
use Rattle.mqtt5_base.specs.Lengths.{Finished, length_at}
use Rattle.mqtt5_base.specs.VarInt.{VarInt}
use Rattle.mqtt5_base.proofs.FrontLemmas.{front_of_finished, front_nothing}
use Rattle.mqtt5_base.proofs.KindLaws.{cut_at}
use Rattle.mqtt5_base.proofs.VarIntLemmas.{unfinished_of, overlong_of, var_int_finds}

-- a limit that admits a length is no less
admitted : (limit : Option ℕ) (n max : ℕ) → Admits limit n → limit ≡ Some max → n ≤ max
admitted None n max h is = absurd cc
admitted (Some m) n max h is = let same : m ≡ max = cc in rw (← same) h

-- a limit that admits the length cuts the frame
admits_within : (limit : Option ℕ) (count n : ℕ) (s : List ℕ) → Admits limit n → within limit count n s ≡ cut (1 + count + n) s
admits_within None count n s h = refl
admits_within (Some max) count n s h = rw (le-ltb max n h) refl

overlong_front : (limit : Option ℕ) (first : ℕ) (len rest : List ℕ) → GoOn len → length len ≡ 4 → front limit (first ∷ (len ++ rest)) ≡ Bad MalformedRemainingLength
unfolding front
overlong_front limit first len rest h e = ap (λ l. by_remaining limit l (first ∷ (len ++ rest))) (overlong_of 4 len rest h e)

over_front : (limit : Option ℕ) (first n max : ℕ) (len rest : List ℕ) → limit ≡ Some max → VarInt len n → max < n → front limit (first ∷ (len ++ rest)) ≡ Bad (PayloadSizeLimitExceeded n max)
unfolding front
over_front limit first n max len rest is h lt =
    ap (λ l. by_remaining limit l (first ∷ (len ++ rest))) (var_int_finds len rest n h) ∙ rw is (rw (lt-ltb max n lt) refl)

unfinished_front : (limit : Option ℕ) (first : ℕ) (len : List ℕ) → GoOn len → length len < 4 → front limit (first ∷ len) ≡ More 1
unfolding front
unfinished_front limit first len h lt = ap (λ l. by_remaining limit l (first ∷ len)) (unfinished_of 4 len h lt)

missing_front : (limit : Option ℕ) (first n : ℕ) (len body : List ℕ) → VarInt len n → Admits limit n → length body < n → front limit (first ∷ (len ++ body)) ≡ More (n - length body)
unfolding front
missing_front limit first n len body h admits lt =
    let s = first ∷ (len ++ body) in
    let short : length s < 1 + length len + n = omega (arith, length-append len body) in
    let lacks : 1 + length len + n - length s ≡ n - length body = omega (arith, length-append len body) in
    ap (λ l. by_remaining limit l s) (var_int_finds len body n h) ∙ admits_within limit (length len) n s admits ∙ rw (lt-ltb (length s) (1 + length len + n) short) (ap (λ k. More k) lacks)

found_front : (limit : Option ℕ) (first : ℕ) (frame body rest : List ℕ) → IsWhole frame first body → Admits limit (length body) → front limit (frame ++ rest) ≡ Whole frame rest
found_front limit first frame body rest h admits =
    let len = h.0 in
    let n = length body in
    let is : length_at 4 ((len ++ body) ++ rest) ≡ Finished (length len) n = ap (length_at 4) (append_assoc len body rest) ∙ var_int_finds len (body ++ rest) n h.2 in
    let there : length len + n ≤ length ((len ++ body) ++ rest) = omega (arith, length-append (len ++ body) rest, length-append len body) in
    let all : length (first ∷ (len ++ body)) ≡ 1 + length len + n = omega (arith, length-append len body) in
    let cut = cut_at (first ∷ (len ++ body)) rest (1 + length len + n) all in
    rw h.1 (front_of_finished limit first (length len) n ((len ++ body) ++ rest) is there (λ max. admitted limit n max admits) ∙ (λ i. Whole (cut.0 i) (cut.1 i)))

-- each stream has the front that it is said to have
pub front_found : (limit : Option ℕ) → IsFound limit (front limit)
front_found limit = record {
  nothing = front_nothing limit;
  overlong = overlong_front limit;
  over = over_front limit;
  unfinished = unfinished_front limit;
  missing = missing_front limit;
  found = found_front limit;
}
