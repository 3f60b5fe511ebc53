use Rattle.mqtt5_codec.proofs.PacketsAgain.{disconnect_read_back}
use Rattle.mqtt5_codec.proofs.laws.disconnect_reads_back.Goals as goal

pub returns : goal.returns
returns c = disconnect_read_back c.args.p.now c.block_known.ensures
