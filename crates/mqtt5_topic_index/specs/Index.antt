-- Which numbers stand under topic filters, and are found by a topic (MQTT 5.0 section 4.7).
use Rattle.std.specs.Prelude.{◌≡◌, ℕ, ◌+◌, ◌*◌, ◌<◌, true, List}
use Rattle.std.specs.Ordering.{nat_cmp}
use Rattle.std.specs.BTreeSet.{BTreeSet, contains}
use Rattle.mqtt5_base.specs.Topics.{topic_matches}
use Rattle.mqtt5_topic_index.specs.Marks.{mark_of}
use Rattle.mqtt5_topic_index.specs.declared.index.TopicIndex.{TopicIndex}

-- a mark and a number below 2^64 in one
abbrev pub entry : ℕ → ℕ → ℕ
entry m n = m * 18446744073709551616 + n

-- a number stands under the filters of a mark
abbrev pub Stands : TopicIndex → ℕ → ℕ → Type 0
Stands x m n = (n < 18446744073709551616) × (contains nat_cmp x.entries (entry m n) ≡ true)

-- a set has each number that stands under the mark of a filter which a topic matches
abbrev pub Finds : TopicIndex → List ℕ → BTreeSet ℕ → Type 0
Finds x t found =
    (f : List ℕ) (n : ℕ) → topic_matches t f ≡ true → Stands x (mark_of f) n
    → contains nat_cmp found n ≡ true
