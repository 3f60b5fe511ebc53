use Rattle.std.proofs.Common.{◌≡◌, ◌⊎◌, ℕ, true, drop}
use Rattle.mqtt5_base.specs.Grammar.{is_among}
use Rattle.mqtt5_topic_index.specs.Index.{Stands}
use Rattle.mqtt5_sessions.proofs.marks.stand.Given as goal

abbrev pub invariant-loop-mark : goal.invariant-loop-mark
invariant-loop-mark l = record {
  others : (m n : ℕ) → Stands l.initial.index m n → Stands l.index m n;
  there : (m : ℕ) → is_among l.marks m ≡ true → Stands l.index m l.client ⊎ (is_among (drop l.mark-index l.marks) m ≡ true);
}
