use Rattle.std.proofs.Common.{arith}
use Rattle.mqtt5_base.proofs.Marks.{common_on}
use Rattle.mqtt5_base.proofs.mqttbytes.common_len.Goals as goal

pub loop-len-preserved : goal.loop-len-preserved
loop-len-preserved c =
    let in_topic = c.loop-len-test.true in
    let in_filter = c.if-filter-len-ge-LANES.true in
    (omega arith, omega arith, common_on c.args.topic.now c.args.filter.now c.loop-len.len c.loop-len.invariant.2 c.in_default.ensures.value)
