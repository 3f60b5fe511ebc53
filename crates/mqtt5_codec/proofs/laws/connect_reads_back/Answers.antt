use Rattle.std.proofs.Common.{◌<◌, arith}
use Rattle.mqtt5_codec.proofs.PacketsAgain.{connect_read_back}
use Rattle.mqtt5_codec.proofs.laws.connect_reads_back.Goals as goal

pub returns : goal.returns
returns c =
    let k = c.args.connect.now in
    let small : k.keep_alive < 65536 = omega arith in
    connect_read_back k c.args.will.now c.args.login.now small c.block_known.ensures c.will_known.ensures
