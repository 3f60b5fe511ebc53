use Rattle.std.proofs.Common.{◌≡◌, ℕ, ◌≤◌, length}
use Rattle.mqtt5_base.specs.Reading.{items_within}
use Rattle.mqtt5_base.proofs.property.read_items.Given as goal

-- reading on from here gives what reading from the start does
abbrev pub invariant-loop-alloc : goal.invariant-loop-alloc
invariant-loop-alloc g l = (n : ℕ) × (length l.block ≤ n) × (items_within n g.P.PropertySet.table (g.P.PropertySet.found l.set) l.block ≡ items_within (length l.fn.block) g.P.PropertySet.table (g.P.PropertySet.found l.fn.set) l.fn.block)

abbrev pub decreases-loop-alloc : goal.decreases-loop-alloc
decreases-loop-alloc g l = length l.block
