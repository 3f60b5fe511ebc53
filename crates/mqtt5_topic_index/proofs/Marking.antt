-- The mark of a filter is one of those of each topic that matches it.
use Rattle.std.proofs.Common.{◌≡◌, ℕ, zero, suc, Bool, true, false, cond, not, ◌||◌, ◌&&◌, ◌==◌, List, [], ◌∷◌, bytes_eq, refl, sym, ap, subst, ◌∙◌}
use Rattle.std.proofs.lemmas.Bool.{eqb-true, eq-eqb}
use Rattle.std.proofs.lemmas.Slice.Eq.{bytes_eq-Decides}
use Rattle.mqtt5_base.specs.Grammar.{is_among}
use Rattle.mqtt5_base.specs.Topics.{levels, plus, hash, covers, match_levels, is_reserved, topic_matches}
use Rattle.mqtt5_base.proofs.Walk.{first, others, levels_are}
use Rattle.mqtt5_topic_index.specs.Marks.{mixed, is_wild, mark_from, reach, mark_of}
use Rattle.mqtt5_topic_index.specs.Gathering.{marks_from, marks_of}

-- ---- tests

both : (a b : Bool) → (a && b) ≡ true → (a ≡ true) × (b ≡ true)
both true b h = (refl, h)
both false b h = absurd cc

-- a number is the first of some, or among those behind it
pub among_first : (k m : ℕ) (ms : List ℕ) → k ≡ m → is_among (m ∷ ms) k ≡ true
among_first k m ms is = ap (λ b. b || is_among ms k) (eq-eqb k m is)

pub among_more : (k m : ℕ) (ms : List ℕ) → is_among ms k ≡ true → is_among (m ∷ ms) k ≡ true
among_more k m ms h = by_test (k == m)
  where
    by_test : (b : Bool) → (b || is_among ms k) ≡ true
    by_test true = refl
    by_test false = h

-- ---- levels

-- the first levels are equal, and the others match
abbrev Literal : List ℕ → List ℕ → Type 0
Literal t f = (bytes_eq (first f) (first t) && match_levels (others t) (others f)) ≡ true

-- where the first level of a filter is a wildcard, its mark is that of what is before
wild : (n m c : ℕ) (f : List ℕ) → is_wild c ≡ true → first f ≡ c ∷ [] → mark_from n m m f ≡ m
wild zero m c f w is = refl
wild (suc n) m c [] w is = absurd cc
wild (suc n) m c (b ∷ bs) w is = by_test (b == 47) is
  where
    by_test : (s : Bool) → cond s [] (b ∷ first bs) ≡ c ∷ [] → mark_from (suc n) m m (b ∷ bs) ≡ m
    by_test true is = absurd cc
    by_test false is =
        let same : b ≡ c = cc in
        ap (λ k. cond k m (cond (b == 47) (mark_from n (mixed m b) (mixed m b) bs) (mark_from n m (mixed m b) bs))) (ap is_wild same ∙ w)

-- at the start of a level: it is a wildcard, or literal
at_start : (n m : ℕ) (t f : List ℕ) → (Literal t f → is_among (m ∷ marks_from n m t) (mark_from n m m f) ≡ true)
    → match_levels (levels t) (levels f) ≡ true → is_among (m ∷ marks_from n m t) (mark_from n m m f) ≡ true
at_start n m t f literal h = by_test (bytes_eq (first f) hash) refl (sym (λ i. match_levels (levels_are t i) (levels_are f i)) ∙ h)
  where
    by_plus : (b : Bool) → bytes_eq (first f) plus ≡ b → (cond b (not (bytes_eq (first t) hash)) (bytes_eq (first f) (first t)) && match_levels (others t) (others f)) ≡ true
        → is_among (m ∷ marks_from n m t) (mark_from n m m f) ≡ true
    by_plus true is h = among_first (mark_from n m m f) m (marks_from n m t) (wild n m 43 f refl ((bytes_eq-Decides (first f) plus).0 is))
    by_plus false is h = literal h

    by_test : (b : Bool) → bytes_eq (first f) hash ≡ b → (b || (covers (first f) (first t) && match_levels (others t) (others f))) ≡ true
        → is_among (m ∷ marks_from n m t) (mark_from n m m f) ≡ true
    by_test true is h = among_first (mark_from n m m f) m (marks_from n m t) (wild n m 35 f refl ((bytes_eq-Decides (first f) hash).0 is))
    by_test false is h = by_plus (bytes_eq (first f) plus) refl h

-- nothing but `#` matches where the topic has ended
at_end : (n m : ℕ) (f : List ℕ) → match_levels [] (levels f) ≡ true → mark_from n m m f ≡ m
at_end n m f h = wild n m 35 f refl ((bytes_eq-Decides (first f) hash).0 (sym (ap (match_levels []) (levels_are f)) ∙ h))

-- within a level that is literal so far
in_level : (n start m : ℕ) (t f : List ℕ) → Literal t f → is_among (start ∷ marks_from n m t) (mark_from n start m f) ≡ true
in_level zero start m t f h = among_first start start [] refl
in_level (suc n) start m [] [] h = among_more (mixed m 47) start (mixed m 47 ∷ []) (among_first (mixed m 47) (mixed m 47) [] refl)
in_level (suc n) start m (x ∷ t) [] h = by_test (x == 47) h
  where
    by_test : (s : Bool) → (bytes_eq [] (cond s [] (x ∷ first t)) && match_levels (cond s (levels t) (others t)) []) ≡ true → is_among (start ∷ marks_from (suc n) m (x ∷ t)) (mixed m 47) ≡ true
    by_test true h = let none : false ≡ true = sym (ap (λ ls. match_levels ls []) (levels_are t)) ∙ h in absurd cc
    by_test false h = absurd cc
in_level (suc n) start m [] (c ∷ f) h = by_wild (is_wild c) refl
  where
    by_slash : (u : Bool) → (c == 47) ≡ u → (bytes_eq (cond u [] (c ∷ first f)) [] && match_levels [] (cond u (levels f) (others f))) ≡ true
        → is_among (start ∷ mixed m 47 ∷ []) (cond u (mark_from n (mixed m c) (mixed m c) f) (mark_from n start (mixed m c) f)) ≡ true
    by_slash true is h =
        among_more _ start (mixed m 47 ∷ []) (among_first _ (mixed m 47) [] (at_end n (mixed m c) f h ∙ ap (mixed m) (eqb-true c 47 is)))
    by_slash false is h = absurd cc

    by_wild : (w : Bool) → is_wild c ≡ w
        → is_among (start ∷ mixed m 47 ∷ []) (cond w start (cond (c == 47) (mark_from n (mixed m c) (mixed m c) f) (mark_from n start (mixed m c) f))) ≡ true
    by_wild true is = among_first start start (mixed m 47 ∷ []) refl
    by_wild false is = by_slash (c == 47) refl h
in_level (suc n) start m (x ∷ t) (c ∷ f) h = by_wild (is_wild c) (λ start m. in_level n start m t f)
  where
    -- what is to be shown, of what the tests of both first bytes are
    Shown : Bool → Bool → Type 0
    Shown s u =
        is_among (start ∷ cond s (mixed m x ∷ marks_from n (mixed m x) t) (marks_from n (mixed m x) t)) (cond u (mark_from n (mixed m c) (mixed m c) f) (mark_from n start (mixed m c) f))
        ≡ true

    by_slashes : (s u : Bool) → (x == 47) ≡ s → (c == 47) ≡ u
        → (bytes_eq (cond u [] (c ∷ first f)) (cond s [] (x ∷ first t)) && match_levels (cond s (levels t) (others t)) (cond u (levels f) (others f))) ≡ true
        → ((start m : ℕ) → Literal t f → is_among (start ∷ marks_from n m t) (mark_from n start m f) ≡ true) → Shown s u
    by_slashes true true is is' h on =
        let same : c ≡ x = eqb-true c 47 is' ∙ sym (eqb-true x 47 is) in
        let there = at_start n (mixed m c) t f (on (mixed m c) (mixed m c)) h in
        among_more _ start (mixed m x ∷ marks_from n (mixed m x) t) (subst (λ y. is_among (mixed m y ∷ marks_from n (mixed m y) t) (mark_from n (mixed m c) (mixed m c) f) ≡ true) same there)
    by_slashes true false is is' h on = absurd cc
    by_slashes false true is is' h on = absurd cc
    by_slashes false false is is' h on =
        let parts = both (c == x && bytes_eq (first f) (first t)) (match_levels (others t) (others f)) h in
        let heads = both (c == x) (bytes_eq (first f) (first t)) parts.0 in
        let same : c ≡ x = eqb-true c x heads.0 in
        let literal : Literal t f = ap (λ b. b && match_levels (others t) (others f)) heads.1 ∙ parts.1 in
        subst (λ y. is_among (start ∷ marks_from n (mixed m y) t) (mark_from n start (mixed m c) f) ≡ true) same (on start (mixed m c) literal)

    by_wild : (w : Bool) → ((start m : ℕ) → Literal t f → is_among (start ∷ marks_from n m t) (mark_from n start m f) ≡ true)
        → is_among (start ∷ marks_from (suc n) m (x ∷ t)) (cond w start (cond (c == 47) (mark_from n (mixed m c) (mixed m c) f) (mark_from n start (mixed m c) f))) ≡ true
    by_wild true on = among_first start start (marks_from (suc n) m (x ∷ t)) refl
    by_wild false on = by_slashes (x == 47) (c == 47) refl refl h on

-- what matches isn't reserved
free : (b m : Bool) → cond b false m ≡ true → m ≡ true
free true m h = absurd cc
free false m h = h

pub marked : (t f : List ℕ) → topic_matches t f ≡ true → is_among (marks_of t) (mark_of f) ≡ true
marked t f h = at_start reach 0 t f (in_level reach 0 0 t f) (free (is_reserved t) (match_levels (levels t) (levels f)) h)
