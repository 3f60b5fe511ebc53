use Rattle.mqtt5_progress.proofs.Later as later
use Rattle.mqtt5_progress.proofs.late.late_law.Goals as goal

pub returns-clause-same_world : goal.returns-clause-same_world
returns-clause-same_world c = later.same_world

pub returns-clause-same_ids : goal.returns-clause-same_ids
returns-clause-same_ids c = later.same_ids

pub returns-clause-same_replies : goal.returns-clause-same_replies
returns-clause-same_replies c = later.same_replies

pub returns-clause-moved : goal.returns-clause-moved
returns-clause-moved c = later.moved

pub returns-clause-same_below : goal.returns-clause-same_below
returns-clause-same_below c = later.same_below
