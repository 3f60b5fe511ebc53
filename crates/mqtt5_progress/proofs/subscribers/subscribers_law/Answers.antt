use Rattle.mqtt5_progress.proofs.Subscribed as subscribed
use Rattle.mqtt5_progress.proofs.subscribers.subscribers_law.Goals as goal

pub returns-clause-reach : goal.returns-clause-reach
returns-clause-reach c = subscribed.reach

pub returns-clause-no_other : goal.returns-clause-no_other
returns-clause-no_other c = subscribed.no_other

pub returns-clause-exactly_once : goal.returns-clause-exactly_once
returns-clause-exactly_once c = subscribed.exactly

pub returns-clause-at_least_once : goal.returns-clause-at_least_once
returns-clause-at_least_once c = subscribed.least

pub returns-clause-late_exactly_once : goal.returns-clause-late_exactly_once
returns-clause-late_exactly_once c = subscribed.late_exactly

pub returns-clause-late_at_least_once : goal.returns-clause-late_at_least_once
returns-clause-late_at_least_once c = subscribed.late_least
