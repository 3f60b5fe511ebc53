use Rattle.mqtt5_progress.proofs.Later as later
use Rattle.mqtt5_progress.proofs.late.late_progress_law.Goals as goal

pub returns-clause-settled : goal.returns-clause-settled
returns-clause-settled c = later.settled

pub returns-clause-none_stored : goal.returns-clause-none_stored
returns-clause-none_stored c = later.none_stored

pub returns-clause-exactly_once : goal.returns-clause-exactly_once
returns-clause-exactly_once c = later.exactly

pub returns-clause-at_least_once : goal.returns-clause-at_least_once
returns-clause-at_least_once c = later.least
