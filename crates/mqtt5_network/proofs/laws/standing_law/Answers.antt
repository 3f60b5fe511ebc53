use Rattle.mqtt5_network.proofs.Standing.{standing_exactly, standing_least, standing_twice, standing_most, standing_losses, standing_ledger, standing_none}
use Rattle.mqtt5_network.proofs.laws.standing_law.Goals as goal

pub returns-clause-exactly_once : goal.returns-clause-exactly_once
returns-clause-exactly_once c = λ n i p test first class rest. standing_exactly n i p first test rest class

pub returns-clause-at_least_once : goal.returns-clause-at_least_once
returns-clause-at_least_once c = λ n i p test first class rest. standing_least n i p first test rest class

pub returns-clause-at_most_once : goal.returns-clause-at_most_once
returns-clause-at_most_once c = λ n i p test first class. standing_twice n i p first test class

pub returns-clause-at_most_once_at_0 : goal.returns-clause-at_most_once_at_0
returns-clause-at_most_once_at_0 c = λ n i p test first class none. standing_most n i p first test _ (λ e. absurd cc) class none

pub returns-clause-for_each_loss : goal.returns-clause-for_each_loss
returns-clause-for_each_loss c = λ n i p qos test first class. standing_losses n i p first test qos class

pub returns-clause-ledger : goal.returns-clause-ledger
returns-clause-ledger c = λ n i p test first class. standing_ledger n i p first test class

pub returns-clause-for_none : goal.returns-clause-for_none
returns-clause-for_none c = λ n i p qos test first class none. standing_none n i p first test qos class none
