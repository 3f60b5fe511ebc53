use Rattle.std.proofs.Common.{◌<◌, arith}
use Rattle.mqtt5_codec.proofs.PacketsAgain.{unsuback_read_back}
use Rattle.mqtt5_codec.proofs.laws.unsuback_reads_back.Goals as goal

pub returns : goal.returns
returns c =
    let p = c.args.p.now in
    let small : p.pkid < 65536 = omega arith in
    unsuback_read_back p small c.block_known.ensures
