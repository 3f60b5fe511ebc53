use Rattle.mqtt5_base.specs.Variants.{decided}
use Rattle.mqtt5_base.specs.ErrorSound.{error_sound}
use Rattle.mqtt5_base.specs.contracts.error.ErrorEq.TheImpl.Laws as equivalence
use Rattle.mqtt5_base.proofs.laws.error_equality.Goals as goal

pub returns : goal.returns
returns c = decided error_sound equivalence.laws-law
