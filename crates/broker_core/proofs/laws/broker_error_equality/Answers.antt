use Rattle.mqtt5_base.specs.Variants.{decided}
use Rattle.broker_core.specs.Sound.{broker_error_sound}
use Rattle.broker_core.specs.contracts.error.BrokerErrorEq.TheImpl.Laws as equivalence
use Rattle.broker_core.proofs.laws.broker_error_equality.Goals as goal

pub returns : goal.returns
returns c = decided broker_error_sound equivalence.laws-law
