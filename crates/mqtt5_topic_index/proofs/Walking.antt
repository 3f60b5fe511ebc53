-- How far a walk over a filter or a topic has come, of which so many bytes count.
use Rattle.std.proofs.Common.{◌≡◌, ℕ, suc, ◌+◌, ◌-◌, ◌<◌, ◌≤◌, Bool, true, false, cond, ◌||◌, ◌==◌, ◌⊎◌, inl, inr, List, [], ◌∷◌, length, drop, refl, ap, subst, ◌∙◌, arith, add-one, sym, slice_index_or}
use Rattle.std.proofs.Math.Seq.{drop-cons}
use Rattle.std.proofs.lemmas.List.{drop_all}
use Rattle.mqtt5_base.specs.Grammar.{is_among}
use Rattle.mqtt5_topic_index.specs.Marks.{mixed, is_wild, mark_from, reach}
use Rattle.mqtt5_topic_index.specs.Gathering.{marks_from}

-- a byte more counts
counts : (i : ℕ) → i < reach → reach - i ≡ suc (reach - (i + 1))
counts i below = omega (arith, below)

-- none does
counted : (i : ℕ) → reach ≤ i → reach - i ≡ 0
counted i past = omega (arith, past)

-- what is left begins with a byte
begins : (t : List ℕ) (i d : ℕ) → i < length t → drop i t ≡ slice_index_or t i d ∷ drop (i + 1) t
begins t i d within = drop-cons t i d within ∙ ap (λ k. slice_index_or t i d ∷ drop k t) (sym (add-one i))

-- ---- a filter

pub filter_ended : (f : List ℕ) (i s m : ℕ) → i < reach → length f ≤ i → mark_from (reach - i) s m (drop i f) ≡ mixed m 47
filter_ended f i s m below past = λ j. mark_from (counts i below j) s m (drop_all i f past j)

pub filter_past : (f : List ℕ) (i s m : ℕ) → reach ≤ i → mark_from (reach - i) s m (drop i f) ≡ s
filter_past f i s m past = ap (λ n. mark_from n s m (drop i f)) (counted i past)

module _ (f : List ℕ) (i s m d : ℕ) (below : i < reach) (within : i < length f) where
  -- the byte, and what the mark is if its level goes on or ends
  abbrev byte : ℕ
  byte = slice_index_or f i d

  abbrev next : ℕ → ℕ
  next start = mark_from (reach - (i + 1)) start (mixed m byte) (drop (i + 1) f)

  filter_next : mark_from (reach - i) s m (drop i f) ≡ cond (is_wild byte) s (cond (byte == 47) (next (mixed m byte)) (next s))
  filter_next = λ j. mark_from (counts i below j) s m (begins f i d within j)

  pub filter_wild : is_wild byte ≡ true → mark_from (reach - i) s m (drop i f) ≡ s
  filter_wild wild = filter_next ∙ ap (λ w. cond w s (cond (byte == 47) (next (mixed m byte)) (next s))) wild

  pub filter_goes_on : is_wild byte ≡ false → mark_from (reach - i) s m (drop i f) ≡ next (cond (byte == 47) (mixed m byte) s)
  filter_goes_on plain = filter_next ∙ ap (λ w. cond w s (cond (byte == 47) (next (mixed m byte)) (next s))) plain ∙ by (byte == 47)
    where
      by : (u : Bool) → cond u (next (mixed m byte)) (next s) ≡ next (cond u (mixed m byte) s)
      by true = refl
      by false = refl

-- ---- a topic

pub topic_ended : (t : List ℕ) (i m k : ℕ) → i < reach → length t ≤ i → is_among (marks_from (reach - i) m (drop i t)) k ≡ true → is_among (mixed m 47 ∷ []) k ≡ true
topic_ended t i m k below past there = subst (λ ms. is_among ms k ≡ true) (λ j. marks_from (counts i below j) m (drop_all i t past j)) there

-- behind the bytes that count there is none
pub topic_past : (t : List ℕ) (i m k : ℕ) → reach ≤ i → is_among (marks_from (reach - i) m (drop i t)) k ≡ true → ⊥
topic_past t i m k past there =
    let no : false ≡ true = subst (λ n. is_among (marks_from n m (drop i t)) k ≡ true) (counted i past) there in
    cc

pub topic_goes_on : (t : List ℕ) (i m d k : ℕ) → i < reach → i < length t → is_among (marks_from (reach - i) m (drop i t)) k ≡ true
    → (is_among (cond (slice_index_or t i d == 47) (mixed m (slice_index_or t i d) ∷ []) []) k ≡ true) ⊎ (is_among (marks_from (reach - (i + 1)) (mixed m (slice_index_or t i d)) (drop (i + 1) t)) k ≡ true)
topic_goes_on t i m d k below within there =
    by (b == 47) (subst (λ ms. is_among ms k ≡ true) (λ j. marks_from (counts i below j) m (begins t i d within j)) there)
  where
    b : ℕ
    b = slice_index_or t i d

    rest : List ℕ
    rest = marks_from (reach - (i + 1)) (mixed m b) (drop (i + 1) t)

    by_first : (e r : Bool) → (e || r) ≡ true → ((e || false) ≡ true) ⊎ (r ≡ true)
    by_first true r h = inl refl
    by_first false r h = inr h

    by : (u : Bool) → is_among (cond u (mixed m b ∷ rest) rest) k ≡ true → (is_among (cond u (mixed m b ∷ []) []) k ≡ true) ⊎ (is_among rest k ≡ true)
    by true h = by_first (k == mixed m b) (is_among rest k) h
    by false h = inr h
