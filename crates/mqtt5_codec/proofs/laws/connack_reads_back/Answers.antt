use Rattle.mqtt5_codec.proofs.PacketsAgain.{connack_read_back}
use Rattle.mqtt5_codec.proofs.laws.connack_reads_back.Goals as goal

pub returns : goal.returns
returns c = connack_read_back c.args.p.now c.block_known.ensures
