use Rattle.std.proofs.Common.{◌≡◌, ◌⊎◌, ℕ, ◌<◌, true}
use Rattle.std.specs.Ordering.{nat_cmp}
use Rattle.std.specs.BTreeSet.{contains}
use Rattle.mqtt5_base.specs.Grammar.{is_among}
use Rattle.mqtt5_topic_index.specs.Index.{entry}
use Rattle.mqtt5_topic_index.specs.Gathering.{Keeps}
use Rattle.mqtt5_topic_index.proofs.index.gather.Given as goal

abbrev pub invariant-loop-one : goal.invariant-loop-one
invariant-loop-one l = record {
  kept : Keeps l.initial.found l.found;
  rest : (n : ℕ) → n < 18446744073709551616 → contains nat_cmp l.entries (entry l.mark n) ≡ true → (contains nat_cmp l.found n ≡ true) ⊎ (is_among l.one-iterator (entry l.mark n) ≡ true);
}
