use Rattle.mqtt5_network.proofs.Joined.{added_at, joined}
use Rattle.mqtt5_network.proofs.Handed.{handed_exactly, handed_least, handed_most, handed_losses, handed_ledger}
use Rattle.mqtt5_network.proofs.laws.routing_law.Goals as goal

pub returns-clause-added : goal.returns-clause-added
returns-clause-added c = added_at

pub returns-clause-exactly_once : goal.returns-clause-exactly_once
returns-clause-exactly_once c = λ n test reached class rest. handed_exactly n (joined n reached) test rest class

pub returns-clause-at_least_once : goal.returns-clause-at_least_once
returns-clause-at_least_once c = λ n test reached class rest. handed_least n (joined n reached) test rest class

pub returns-clause-at_most_once : goal.returns-clause-at_most_once
returns-clause-at_most_once c = λ n qos test reached other class. handed_most n (joined n reached) test qos other class

pub returns-clause-for_each_loss : goal.returns-clause-for_each_loss
returns-clause-for_each_loss c = λ n qos test reached class. handed_losses n (joined n reached) test qos class

pub returns-clause-ledger : goal.returns-clause-ledger
returns-clause-ledger c = λ n test reached class. handed_ledger n (joined n reached) test class
