use Rattle.mqtt5_network.proofs.Copied.{copies_shown}
use Rattle.mqtt5_network.proofs.laws.copies_law.Goals as goal

pub returns : goal.returns
returns c = record { exactly_once = copies_shown }
