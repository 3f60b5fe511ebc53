use Rattle.std.proofs.Common.{◌≡◌, ℕ, ◌-◌, ◌*◌, ◌<◌, None}
use Rattle.std.specs.FinMap.{get}
use Rattle.mqtt5_inflight.proofs.pages.Pages.next_after.Given as goal

abbrev pub invariant-loop-number : goal.invariant-loop-number
invariant-loop-number l = (q : ℕ) → l.after < q → q < 64 * l.number → get l.self q ≡ None

abbrev pub decreases-loop-number : goal.decreases-loop-number
decreases-loop-number l = 1024 - l.number
