-- Matching is transitive, and reflexive on topics that aren't reserved.
use Rattle.std.proofs.Common.{◌≡◌, ℕ, Bool, true, false, not, ◌||◌, ◌&&◌, cond, List, [], ◌∷◌, bytes_eq, ◌⊎◌, inl, inr, refl, sym, ap, ◌∙◌}
use Rattle.std.proofs.lemmas.Slice.Eq.{bytes_eq-Decides}
use Rattle.mqtt5_base.specs.Topics.{levels, plus, hash, covers, match_levels, is_reserved, IsMatching}

-- a level
abbrev Level : Type 0
Level = List ℕ

-- texts that are equal
eq_true : (a b : Level) → bytes_eq a b ≡ true → a ≡ b
eq_true a b h = (bytes_eq-Decides a b).0 h

-- a text equals itself
eq_same : (a : Level) → bytes_eq a a ≡ true
eq_same a = (bytes_eq-Decides a a).1 refl

-- both of two tests
both : (a b : Bool) → (a && b) ≡ true → (a ≡ true) × (b ≡ true)
both true b h = (refl, h)
both false b h = absurd cc

-- what isn't so
not_so : (b : Bool) → not b ≡ true → b ≡ false
not_so true h = absurd cc
not_so false h = refl

-- a level that `+` covers, by another that isn't `#`, or one that is equal
covers_cases : (f t : Level) → covers f t ≡ true → ((bytes_eq f plus ≡ true) × (bytes_eq t hash ≡ false)) ⊎ (f ≡ t)
covers_cases f t h = by_test (bytes_eq f plus) refl h
  where
    by_test : (b : Bool) → bytes_eq f plus ≡ b → cond b (not (bytes_eq t hash)) (bytes_eq f t) ≡ true → ((bytes_eq f plus ≡ true) × (bytes_eq t hash ≡ false)) ⊎ (f ≡ t)
    by_test true is h = inl (is, not_so (bytes_eq t hash) h)
    by_test false is h = inr (eq_true f t h)

-- a level that isn't `#` is covered by `+`
by_plus : (f t : Level) → bytes_eq f plus ≡ true → bytes_eq t hash ≡ false → covers f t ≡ true
by_plus f t is isnt = ap (λ b. cond b (not (bytes_eq t hash)) (bytes_eq f t)) is ∙ ap not isnt

-- a level that isn't `#` covers itself
by_same : (t : Level) → bytes_eq t hash ≡ false → covers t t ≡ true
by_same t isnt = by_test (bytes_eq t plus)
  where
    by_test : (b : Bool) → cond b (not (bytes_eq t hash)) (bytes_eq t t) ≡ true
    by_test true = ap not isnt
    by_test false = eq_same t

-- a covered level isn't `#`, unless the filter level is
never_hash : (f t : Level) → covers f t ≡ true → bytes_eq f hash ≡ false → bytes_eq t hash ≡ false
never_hash f t h isnt = elim (covers_cases f t h) [ inl p ↦ p.1 | inr e ↦ ap (λ l. bytes_eq l hash) (sym e) ∙ isnt ]

-- a level that is covered by one that is covered
covers_on : (f u t : Level) → bytes_eq f hash ≡ false → covers u t ≡ true → covers f u ≡ true → covers f t ≡ true
covers_on f u t isnt k h =
    elim (covers_cases f u h) [ inl p ↦ by_plus f t p.0 (never_hash u t k p.1) | inr e ↦ ap (λ l. covers l t) e ∙ k ]

-- ---- matching

-- the levels of a topic match those of a filter whose levels match those of another
levels_on : (ts us fs : List Level) → match_levels ts us ≡ true → match_levels us fs ≡ true → match_levels ts fs ≡ true
levels_on [] [] fs h k = k
levels_on (t ∷ ts) [] fs h k = absurd cc
levels_on ts (u ∷ us) [] h k = absurd cc
levels_on [] (u ∷ us) (f ∷ fs) h k = by_test (bytes_eq f hash) refl k
  where
    by_test : (b : Bool) → bytes_eq f hash ≡ b → (b || (covers f u && match_levels us fs)) ≡ true → b ≡ true
    by_test true is k = refl
    by_test false is k = sym (never_hash f u (both (covers f u) (match_levels us fs) k).0 is) ∙ h
levels_on (t ∷ ts) (u ∷ us) (f ∷ fs) h k = by_test (bytes_eq f hash) refl k (levels_on ts us fs)
  where
    over : (b : Bool) → b ≡ false → (b || (covers u t && match_levels ts us)) ≡ true → (covers u t && match_levels ts us) ≡ true
    over true e h = absurd cc
    over false e h = h

    by_test : (b : Bool) → bytes_eq f hash ≡ b → (b || (covers f u && match_levels us fs)) ≡ true → (match_levels ts us ≡ true → match_levels us fs ≡ true → match_levels ts fs ≡ true)
        → (b || (covers f t && match_levels ts fs)) ≡ true
    by_test true is k on = refl
    by_test false is k on =
        let m = both (covers f u) (match_levels us fs) k in
        let n = both (covers u t) (match_levels ts us) (over (bytes_eq u hash) (never_hash f u m.0 is) h) in
        ap (λ b. b && match_levels ts fs) (covers_on f u t is n.0 m.0) ∙ on n.1 m.1

-- levels match themselves
levels_same : (ts : List Level) → match_levels ts ts ≡ true
levels_same [] = refl
levels_same (t ∷ ts) = by_test (bytes_eq t hash) refl (levels_same ts)
  where
    by_test : (b : Bool) → bytes_eq t hash ≡ b → match_levels ts ts ≡ true → (b || (covers t t && match_levels ts ts)) ≡ true
    by_test true is h = refl
    by_test false is h = ap (λ b. b && match_levels ts ts) (by_same t is) ∙ h

-- what matches isn't reserved
free : (b : Bool) (m : Bool) → cond b false m ≡ true → (b ≡ false) × (m ≡ true)
free true m h = absurd cc
free false m h = (refl, h)

pub matching : IsMatching
matching = record {
  transitive = λ a b c h k.
      let m = free (is_reserved a) (match_levels (levels a) (levels b)) h in
      let n = free (is_reserved b) (match_levels (levels b) (levels c)) k in
      ap (λ r. cond r false (match_levels (levels a) (levels c))) m.0 ∙ levels_on (levels a) (levels b) (levels c) m.1 n.1;
  reflexive = λ t h. ap (λ r. cond r false (match_levels (levels t) (levels t))) h ∙ levels_same (levels t);
}
