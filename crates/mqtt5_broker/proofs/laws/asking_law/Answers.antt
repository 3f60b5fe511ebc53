use Rattle.mqtt5_broker.proofs.Asked.{held_taken, nobody_connects}
use Rattle.mqtt5_broker.proofs.laws.asking_law.Goals as goal

pub returns-clause-taken : goal.returns-clause-taken
returns-clause-taken c = λ at d bytes b. held_taken at d bytes b

pub returns-clause-nobody : goal.returns-clause-nobody
returns-clause-nobody c = λ at d b none h. nobody_connects c.front_laws.ensures.found c.front_laws.ensures.stays at d b none h
