use Rattle.mqtt5_progress.proofs.Later as later
use Rattle.mqtt5_progress.proofs.late.late_delivery_law.Goals as goal

pub returns-clause-at_most_once : goal.returns-clause-at_most_once
returns-clause-at_most_once c = later.at_most

pub returns-clause-at_least_once : goal.returns-clause-at_least_once
returns-clause-at_least_once c = later.at_least

pub returns-clause-ledger : goal.returns-clause-ledger
returns-clause-ledger c = later.ledger
