use Rattle.std.proofs.Common.{◌≡◌, length}
use Rattle.mqtt5_base.specs.Topics.{levels, are_valid}
use Rattle.mqtt5_base.proofs.mqttbytes.valid_filter.Given as goal

-- what is left decides
abbrev pub invariant-loop-levels : goal.invariant-loop-levels
invariant-loop-levels l = are_valid (levels l.left) ≡ are_valid (levels l.filter)

abbrev pub decreases-loop-levels : goal.decreases-loop-levels
decreases-loop-levels l = length l.left
