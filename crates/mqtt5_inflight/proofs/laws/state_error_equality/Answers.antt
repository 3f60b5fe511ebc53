use Rattle.mqtt5_base.specs.Variants.{decided}
use Rattle.mqtt5_inflight.specs.Sound.{state_error_sound}
use Rattle.mqtt5_inflight.specs.contracts.error.StateErrorEq.TheImpl.Laws as equivalence
use Rattle.mqtt5_inflight.proofs.laws.state_error_equality.Goals as goal

pub returns : goal.returns
returns c = decided state_error_sound equivalence.laws-law
