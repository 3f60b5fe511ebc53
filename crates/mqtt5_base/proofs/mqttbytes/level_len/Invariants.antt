use Rattle.std.proofs.Common.{◌-◌, length}
use Rattle.mqtt5_base.proofs.Walk.{level_so_far}
use Rattle.mqtt5_base.proofs.mqttbytes.level_len.Given as goal

abbrev pub invariant-loop-len : goal.invariant-loop-len
invariant-loop-len l = level_so_far l.text l.len

abbrev pub decreases-loop-len : goal.decreases-loop-len
decreases-loop-len l = length l.text - l.len
