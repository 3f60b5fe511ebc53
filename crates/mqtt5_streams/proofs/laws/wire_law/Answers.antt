use Rattle.mqtt5_streams.proofs.Wire.{wire}
use Rattle.mqtt5_streams.proofs.laws.wire_law.Goals as goal

pub returns : goal.returns
returns c = wire
