use Rattle.std.proofs.Common.{◌≡◌, ℕ, ◌≤◌, [], length, map}
use Rattle.mqtt5_base.specs.Fields.{repeated}
use Rattle.mqtt5_base.specs.Reading.{repeated_within}
use Rattle.mqtt5_base.specs.Layout.{all_kept}
use Rattle.mqtt5_subscribe.proofs.listed.read_list.Given as goal

-- reading on from here gives what reading from the start does, and the items so far are as they are read again
abbrev pub invariant-loop-alloc : goal.invariant-loop-alloc
invariant-loop-alloc g l =
    (n : ℕ) × (length l.stream ≤ n)
    × (repeated_within n (repeated g.T.Listed.first g.T.Listed.others) (all_kept (map g.T.Listed.written l.items)) l.stream ≡ repeated_within (length l.fn.stream) (repeated g.T.Listed.first g.T.Listed.others) [] l.fn.stream)
    × (map g.T.Listed.settled l.items ≡ l.items)

abbrev pub decreases-loop-alloc : goal.decreases-loop-alloc
decreases-loop-alloc g l = length l.stream
