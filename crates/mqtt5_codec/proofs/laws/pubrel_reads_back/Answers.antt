use Rattle.std.proofs.Common.{◌<◌, arith}
use Rattle.mqtt5_codec.proofs.PacketsAgain.{pubrel_read_back}
use Rattle.mqtt5_codec.proofs.laws.pubrel_reads_back.Goals as goal

pub returns : goal.returns
returns c =
    let p = c.args.p.now in
    let small : p.pkid < 65536 = omega arith in
    pubrel_read_back p small c.block_known.ensures
