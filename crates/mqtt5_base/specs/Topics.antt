-- Topic names and topic filters (MQTT 5.0 section 4.7).
use Rattle.std.specs.Prelude.{◌≡◌, ℕ, Bool, true, false, not, ◌||◌, ◌&&◌, List, [], ◌∷◌, length}
use Rattle.std.specs.Prelude.{◌==◌, if◌then◌else◌}
use Rattle.std.specs.List.{slice_split}
use Rattle.std.specs.Str.{bytes_eq}
use Rattle.mqtt5_base.specs.Grammar.{is_among}

-- the levels of a text: its parts between `/` (4.7.1.1); the empty text has one empty level
abbrev pub levels : List ℕ → List (List ℕ)
levels t = slice_split (λ b. b == 47) t

-- the single-level wildcard `+` (4.7.1.3)
abbrev pub plus : List ℕ
plus = 43 ∷ []

-- the multi-level wildcard `#` (4.7.1.2)
abbrev pub hash : List ℕ
hash = 35 ∷ []

-- a level `+` of a filter covers each level but `#`, another an equal one (4.7.1.3)
abbrev pub covers : List ℕ → List ℕ → Bool
covers f t = if bytes_eq f plus then not (bytes_eq t hash) else bytes_eq f t

-- levels of a topic match levels of a filter; `#` matches all that is left, also nothing (4.7.1.2)
abbrev pub match_levels : List (List ℕ) → List (List ℕ) → Bool
match_levels [] [] = true
match_levels (t ∷ ts) [] = false
match_levels [] (f ∷ fs) = bytes_eq f hash
match_levels (t ∷ ts) (f ∷ fs) = bytes_eq f hash || (covers f t && match_levels ts fs)

-- whether a text has one of the two (4.7.1)
abbrev pub has_wildcards : List ℕ → Bool
has_wildcards t = is_among t 43 || is_among t 35

-- the topic of a publish has none (4.7.1)
abbrev pub is_valid_topic : List ℕ → Bool
is_valid_topic t = not (has_wildcards t)

-- a topic that starts with `$` (4.7.2)
abbrev pub is_reserved : List ℕ → Bool
is_reserved [] = false
is_reserved (b ∷ bs) = b == 36

-- A reserved topic matches no filter, where 4.7.2 keeps it from those alone that start with a
-- wildcard; another one matches where its levels do (4.7.1).
abbrev pub topic_matches : List ℕ → List ℕ → Bool
topic_matches topic filter =
    if is_reserved topic then false else match_levels (levels topic) (levels filter)

-- a wildcard, if there is one, is all of the level (4.7.1.2, 4.7.1.3)
abbrev pub stands_alone : List ℕ → Bool
stands_alone l = not (has_wildcards l) || length l == 1

-- a level before the last has no `#` besides (4.7.1.2)
abbrev pub is_inner : List ℕ → Bool
is_inner l = not (is_among l 35) && stands_alone l

-- each level before the last is an inner one, and in the last a wildcard stands alone (4.7.1)
abbrev pub are_valid : List (List ℕ) → Bool
are_valid [] = true
are_valid (l ∷ []) = stands_alone l
are_valid (l ∷ m ∷ ls) = is_inner l && are_valid (m ∷ ls)

-- a filter has a byte at least (4.7.3), and each of its levels is valid
abbrev pub is_valid_filter : List ℕ → Bool
is_valid_filter f = not (length f == 0) && are_valid (levels f)

-- What matching promises: of a topic that matches a filter, and that filter, which matches another,
-- the topic matches the other too; and a topic that isn't reserved matches itself.
pub record IsMatching : Type 0 where
  pub transitive : (a b c : List ℕ) → topic_matches a b ≡ true → topic_matches b c ≡ true
      → topic_matches a c ≡ true
  pub reflexive : (t : List ℕ) → is_reserved t ≡ false → topic_matches t t ≡ true
