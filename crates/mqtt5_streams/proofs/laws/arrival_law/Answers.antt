use Rattle.mqtt5_streams.proofs.Arrived.{settled, all_once, all_least}
use Rattle.mqtt5_streams.proofs.laws.arrival_law.Goals as goal

pub returns-clause-settled : goal.returns-clause-settled
returns-clause-settled c = λ codec limit small events w typed a. settled codec limit small events typed w a

pub returns-clause-exactly_once : goal.returns-clause-exactly_once
returns-clause-exactly_once c = λ codec limit small events w typed a content is. all_once codec limit small events typed w a content is

pub returns-clause-at_least_once : goal.returns-clause-at_least_once
returns-clause-at_least_once c = λ codec limit small events w typed a content is. all_least codec limit small events typed w a content is
