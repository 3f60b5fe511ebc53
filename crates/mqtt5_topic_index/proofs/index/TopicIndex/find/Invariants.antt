use Rattle.std.proofs.Common.{◌≡◌, ◌⊎◌, ℕ, ◌<◌, ◌-◌, true, drop}
use Rattle.std.specs.Ordering.{nat_cmp}
use Rattle.std.specs.BTreeSet.{contains}
use Rattle.mqtt5_base.specs.Grammar.{is_among}
use Rattle.mqtt5_topic_index.specs.Gathering.{marks_from, marks_of}
use Rattle.mqtt5_topic_index.specs.Marks.{reach}
use Rattle.mqtt5_topic_index.specs.Index.{entry}
use Rattle.mqtt5_topic_index.proofs.index.TopicIndex.find.Given as goal

abbrev pub invariant-loop-i : goal.invariant-loop-i
invariant-loop-i l = (m n : ℕ) → n < 18446744073709551616 → is_among (marks_of l.topic) m ≡ true → contains nat_cmp l.self.entries (entry m n) ≡ true
    → (contains nat_cmp l.found n ≡ true) ⊎ (is_among (marks_from (reach - l.i) l.mark (drop l.i l.topic)) m ≡ true)
