-- This file serves the logic alone: the marks of a topic, and sets that are filled under them.
use Rattle.std.specs.Prelude.{◌≡◌, ℕ, zero, suc, ◌%◌, ◌<◌, ◌==◌, true, List, [], ◌∷◌, if◌then◌else◌}
use Rattle.std.specs.Ordering.{nat_cmp}
use Rattle.std.specs.BTreeSet.{BTreeSet, contains}
use Rattle.mqtt5_base.specs.Grammar.{is_among}
use Rattle.mqtt5_topic_index.specs.Marks.{mixed, reach}
use Rattle.mqtt5_topic_index.specs.Index.{entry}

-- the marks of a topic's first levels, one, two and so on, where what is before has a mark, and so many
-- bytes count
abbrev pub marks_from : ℕ → ℕ → List ℕ → List ℕ
marks_from zero m bs = []
marks_from (suc n) m [] = mixed m 47 ∷ []
marks_from (suc n) m (b ∷ bs) =
    if b == 47 then mixed m b ∷ marks_from n (mixed m b) bs else marks_from n (mixed m b) bs

-- with that of none
abbrev pub marks_of : List ℕ → List ℕ
marks_of t = 0 ∷ marks_from reach 0 t

-- the number of an entry
abbrev pub number_in : ℕ → ℕ
number_in e = e % 18446744073709551616

-- a set has each number of these marks, among such entries
abbrev pub Gathers : BTreeSet ℕ → List ℕ → BTreeSet ℕ → Type 0
Gathers es ms found =
    (m n : ℕ) → n < 18446744073709551616 → is_among ms m ≡ true
    → contains nat_cmp es (entry m n) ≡ true → contains nat_cmp found n ≡ true

-- a set has all of another
abbrev pub Keeps : BTreeSet ℕ → BTreeSet ℕ → Type 0
Keeps before now = (n : ℕ) → contains nat_cmp before n ≡ true → contains nat_cmp now n ≡ true
