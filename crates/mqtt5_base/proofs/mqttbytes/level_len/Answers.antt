use Rattle.std.proofs.Common.{◌==◌, arith}
use Rattle.mqtt5_base.proofs.Marks.{until_on}
use Rattle.mqtt5_base.proofs.mqttbytes.level_len.Goals as goal

pub loop-len-preserved : goal.loop-len-preserved
loop-len-preserved c =
    let inside = c.loop-len-test.true in
    (omega arith, until_on (λ b. b == 47) c.args.text.now c.loop-len.len c.loop-len.invariant.1 c.in_default.ensures.value)
