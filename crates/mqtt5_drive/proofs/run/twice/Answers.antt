use Rattle.mqtt5_drive.proofs.Joins.{twice_ok, twice_stops}
use Rattle.mqtt5_drive.proofs.run.twice.Goals as goal

pub returns-clause-ok : goal.returns-clause-ok
returns-clause-ok c = twice_ok

pub returns-clause-stops : goal.returns-clause-stops
returns-clause-stops c = twice_stops
