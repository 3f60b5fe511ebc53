use Rattle.std.proofs.Common.{◌≡◌, ℕ, true, drop}
use Rattle.mqtt5_base.specs.Grammar.{is_among}
use Rattle.mqtt5_topic_index.specs.Index.{Stands}
use Rattle.mqtt5_sessions.specs.Indexed.{marks_in}
use Rattle.mqtt5_sessions.proofs.marks.leave.Given as goal

abbrev pub invariant-loop-subscription : goal.invariant-loop-subscription
invariant-loop-subscription l = record {
  gone : (m : ℕ) → is_among (marks_in l.subscriptions) m ≡ true → Stands l.index m l.client → is_among (marks_in (drop l.subscription-index l.subscriptions)) m ≡ true;
  others : (m n : ℕ) → (n ≡ l.client → ⊥) → Stands l.initial.index m n → Stands l.index m n;
}
