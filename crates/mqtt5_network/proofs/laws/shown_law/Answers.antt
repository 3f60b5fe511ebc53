use Rattle.mqtt5_network.proofs.Counted.{shown_exactly, shown_least, shown_most, shown_losses, shown_ledger}
use Rattle.mqtt5_network.proofs.Places.{hidden_of, here_of}
use Rattle.mqtt5_network.proofs.Joined.{joined, place_of}
use Rattle.mqtt5_network.proofs.Handed.{rest_of}
use Rattle.mqtt5_network.proofs.laws.shown_law.Goals as goal

pub returns-clause-exactly_once : goal.returns-clause-exactly_once
returns-clause-exactly_once c = λ n p test reached has class rest. shown_exactly n.handed p.client (here_of n.handed p (place_of n p (joined n reached) has) rest.here) test (rest_of p rest) class

pub returns-clause-at_least_once : goal.returns-clause-at_least_once
returns-clause-at_least_once c = λ n p test reached has class rest. shown_least n.handed p.client (here_of n.handed p (place_of n p (joined n reached) has) rest.here) test (rest_of p rest) class

pub returns-clause-at_most_once : goal.returns-clause-at_most_once
returns-clause-at_most_once c = λ n p qos test reached has other class. shown_most n.handed _ (hidden_of n.handed p (place_of n p (joined n reached) has)).client test qos other class

pub returns-clause-for_each_loss : goal.returns-clause-for_each_loss
returns-clause-for_each_loss c = λ n p qos test reached has class. shown_losses n.handed _ (hidden_of n.handed p (place_of n p (joined n reached) has)).client test qos class

pub returns-clause-ledger : goal.returns-clause-ledger
returns-clause-ledger c = λ n p test reached has class. shown_ledger n.handed _ (hidden_of n.handed p (place_of n p (joined n reached) has)).client test class
