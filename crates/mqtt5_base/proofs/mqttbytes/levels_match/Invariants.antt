use Rattle.std.proofs.Common.{◌≡◌, length}
use Rattle.mqtt5_base.specs.Topics.{levels, match_levels}
use Rattle.mqtt5_base.proofs.mqttbytes.levels_match.Given as goal

-- what is left decides
abbrev pub invariant-loop-levels : goal.invariant-loop-levels
invariant-loop-levels l = match_levels (levels l.topic_left) (levels l.filter_left) ≡ match_levels (levels l.topic) (levels l.filter)

abbrev pub decreases-loop-levels : goal.decreases-loop-levels
decreases-loop-levels l = length l.filter_left
