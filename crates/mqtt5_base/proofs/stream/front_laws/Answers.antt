use Rattle.mqtt5_base.proofs.FrontFound.{front_found}
use Rattle.mqtt5_base.proofs.FrontLemmas.{front_is}
use Rattle.mqtt5_base.proofs.stream.front_laws.Goals as goal

pub returns-clause-found : goal.returns-clause-found
returns-clause-found c = front_found

pub returns-clause-stays : goal.returns-clause-stays
returns-clause-stays c = front_is
