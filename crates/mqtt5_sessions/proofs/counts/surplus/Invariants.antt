use Rattle.std.proofs.Common.{◌≡◌, ◌≤◌, ◌+◌, ◌-◌, drop, length}
use Rattle.mqtt5_sessions.specs.Counts.{sizes_after}
use Rattle.mqtt5_sessions.specs.Shedding.{surplus}
use Rattle.mqtt5_sessions.proofs.counts.surplus.Given as goal

abbrev pub invariant-loop-count : goal.invariant-loop-count
invariant-loop-count l =
    (l.count ≤ length l.publishes.items)
    × (l.sum ≡ sizes_after 0 (drop l.count l.publishes.items))
    × (l.count + surplus l.any l.most l.bytes (drop l.count l.publishes.items) ≡ surplus l.any l.most l.bytes l.publishes.items)

abbrev pub decreases-loop-count : goal.decreases-loop-count
decreases-loop-count l = length l.publishes.items - l.count
