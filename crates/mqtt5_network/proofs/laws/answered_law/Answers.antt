use Rattle.mqtt5_network.proofs.Answered.{clear_again, told_at_most, taken_in, shown_since_answered}
use Rattle.mqtt5_network.proofs.Sample.{answered}
use Rattle.mqtt5_network.proofs.laws.answered_law.Goals as goal

pub returns-clause-clear : goal.returns-clause-clear
returns-clause-clear c = clear_again

pub returns-clause-at_most : goal.returns-clause-at_most
returns-clause-at_most c = told_at_most

pub returns-clause-taken_in : goal.returns-clause-taken_in
returns-clause-taken_in c = taken_in

pub returns-clause-exactly_once : goal.returns-clause-exactly_once
returns-clause-exactly_once c = shown_since_answered

pub returns-clause-shows : goal.returns-clause-shows
returns-clause-shows c = answered
