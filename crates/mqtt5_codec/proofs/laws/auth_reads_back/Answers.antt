use Rattle.mqtt5_codec.proofs.PacketsAgain.{auth_read_back}
use Rattle.mqtt5_codec.proofs.laws.auth_reads_back.Goals as goal

pub returns : goal.returns
returns c = auth_read_back c.args.p.now c.block_known.ensures
