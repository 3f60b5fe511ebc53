use Rattle.std.proofs.Common.{[]}
use Rattle.std.proofs.lemmas.Result.{on_ok_weaker, IfErr-weaker}
use Rattle.mqtt5_drive.proofs.Settles.{fronts_of}
use Rattle.mqtt5_drive.proofs.Taking.{came_ok, came_stops}
use Rattle.mqtt5_drive.proofs.run.take_input.Goals as goal

pub returns-clause-ok : goal.returns-clause-ok
returns-clause-ok c = on_ok_weaker c.take_held.result (λ leads held came is more. came_ok (fronts_of c.front_laws.ensures.found c.front_laws.ensures.stays) _ _ _ _ _ _ _ _ held came is more leads) c.take_held.ensures.ok

pub returns-clause-err : goal.returns-clause-err
returns-clause-err c = IfErr-weaker c.take_held.result _ _ (λ e stops held came is more. came_stops (fronts_of c.front_laws.ensures.found c.front_laws.ensures.stays) _ _ _ _ _ _ _ [] held came is more e stops) c.take_held.ensures.err
