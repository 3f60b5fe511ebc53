use Rattle.std.proofs.Common.{◌-◌, length}
use Rattle.mqtt5_base.proofs.Walk.{common_so_far}
use Rattle.mqtt5_base.proofs.mqttbytes.common_len.Given as goal

abbrev pub invariant-loop-len : goal.invariant-loop-len
invariant-loop-len l = common_so_far l.topic l.filter l.len

abbrev pub decreases-loop-len : goal.decreases-loop-len
decreases-loop-len l = length l.topic - l.len
