use Rattle.mqtt5_broker.proofs.Counted.{serves_holds}
use Rattle.mqtt5_broker.proofs.Parts.{new_shared, calls_shared, one_turn, somebody_has, forwards_in_turn, waits_for_turn}
use Rattle.mqtt5_broker.proofs.laws.sharing_law.Goals as goal

pub returns-clause-new : goal.returns-clause-new
returns-clause-new c = λ b none e. new_shared b none e

pub returns-clause-calls : goal.returns-clause-calls
returns-clause-calls c = λ cs b h. calls_shared cs b h

pub returns-clause-one : goal.returns-clause-one
returns-clause-one c = λ f i j s t b h has other a d p q. one_turn f i j s t b h has other a d p q

pub returns-clause-somebody : goal.returns-clause-somebody
returns-clause-somebody c = λ f i b h e. somebody_has f i b h e

pub returns-clause-forwards : goal.returns-clause-forwards
returns-clause-forwards c = λ own s h p e t local. forwards_in_turn own s h p e t local

pub returns-clause-waits : goal.returns-clause-waits
returns-clause-waits c = λ own s h p e t. waits_for_turn own s h p e t

pub returns-clause-no_more : goal.returns-clause-no_more
returns-clause-no_more c = λ d i x b. serves_holds d i x b
