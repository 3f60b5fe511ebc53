use Rattle.mqtt5_network.proofs.Joined.{joined}
use Rattle.mqtt5_network.proofs.Handed.{never_twice}
use Rattle.mqtt5_network.proofs.Granting.{shown_exactly_once, shown_at_least_once, shown_others, shown_kind, shown_since, none_added}
use Rattle.mqtt5_network.proofs.Sample.{shows}
use Rattle.mqtt5_network.proofs.laws.granted_law.Goals as goal

pub returns-clause-exactly_once : goal.returns-clause-exactly_once
returns-clause-exactly_once c = λ n es i test reached class new none on all rest. shown_exactly_once test n es i reached none on rest class new all

pub returns-clause-at_least_once : goal.returns-clause-at_least_once
returns-clause-at_least_once c = λ n es i test reached class none on all rest. shown_at_least_once test n es i reached none on rest class all

pub returns-clause-not_its_own : goal.returns-clause-not_its_own
returns-clause-not_its_own c = λ n es i test reached class new none on all rest. shown_others test n es i reached none on rest class new all

pub returns-clause-of_what_reaches : goal.returns-clause-of_what_reaches
returns-clause-of_what_reaches c = λ n es i test kind reached class new other none on all rest. shown_kind test n es i reached none on rest kind class new other all

pub returns-clause-exactly_since : goal.returns-clause-exactly_since
returns-clause-exactly_since c = λ n es i p q test reached class new rested on was is all rest. shown_since test es n i p q was is on (joined n reached) rest all class new rested

pub returns-clause-for_none : goal.returns-clause-for_none
returns-clause-for_none c = λ n es i p q test class new on was is all. none_added test es n i p q was is on class new all

pub returns-clause-never_twice : goal.returns-clause-never_twice
returns-clause-never_twice c = λ n p test reached has class new. never_twice n reached p has test class new

pub returns-clause-shows : goal.returns-clause-shows
returns-clause-shows c = shows
