use Rattle.mqtt5_broker.proofs.Passed.{none_passed}
use Rattle.mqtt5_broker.proofs.laws.waiting_law.Goals as goal

pub returns : goal.returns
returns c = none_passed
