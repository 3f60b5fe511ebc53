use Rattle.std.proofs.Common.{◌≡◌, ℕ, ◌<◌, ◌≤◌, None}
use Rattle.std.specs.Prelude.{slice_index_or}
use Rattle.mqtt5_inflight.proofs.page.Page.next_from.Given as goal

abbrev pub invariant-loop-next : goal.invariant-loop-next
invariant-loop-next l = (k : ℕ) → l.offset ≤ k → k < l.next → slice_index_or l.self k None ≡ None
