use Rattle.mqtt5_base.proofs.Walk.{common-ended}
use Rattle.mqtt5_base.proofs.mqttbytes.common_by_bytes.Goals as goal

pub returns-else-len-filter-clause-value : goal.returns-else-len-filter-clause-value
returns-else-len-filter-clause-value c = common-ended c.args.topic.now c.args.filter.now c.loop-len.len c.if-len-filter.false c.loop-len.invariant.2
