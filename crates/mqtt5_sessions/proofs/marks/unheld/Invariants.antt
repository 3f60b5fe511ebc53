use Rattle.std.proofs.Common.{◌≡◌, ℕ, true, false, drop}
use Rattle.mqtt5_base.specs.Grammar.{is_among}
use Rattle.mqtt5_sessions.specs.Indexed.{marks_in}
use Rattle.mqtt5_sessions.proofs.marks.unheld.Given as goal

abbrev pub invariant-loop-subscription : goal.invariant-loop-subscription
invariant-loop-subscription l = record {
  held : (m : ℕ) → is_among l.left.items m ≡ true → is_among (marks_in l.subscriptions) m ≡ is_among (marks_in (drop l.subscription-index l.subscriptions)) m;
  rest : (m : ℕ) → is_among l.fn.marks.items m ≡ true → is_among (marks_in l.subscriptions) m ≡ false → is_among l.left.items m ≡ true;
}
