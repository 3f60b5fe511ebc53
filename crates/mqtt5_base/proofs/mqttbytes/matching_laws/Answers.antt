use Rattle.mqtt5_base.proofs.Matching.{matching}
use Rattle.mqtt5_base.proofs.mqttbytes.matching_laws.Goals as goal

pub returns : goal.returns
returns c = matching
