use Rattle.std.proofs.Common.{◌≡◌, drop}
use Rattle.mqtt5_sessions.specs.Counts.{sizes_after}
use Rattle.mqtt5_sessions.proofs.counts.sizes.Given as goal

abbrev pub invariant-loop-i : goal.invariant-loop-i
invariant-loop-i l = sizes_after l.sum (drop l.i l.publishes.items) ≡ sizes_after 0 (drop l.from l.publishes.items)
