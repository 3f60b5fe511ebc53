use Rattle.std.proofs.Common.{◌≡◌, drop, [], arith}
use Rattle.std.proofs.lemmas.List.{drop_all}
use Rattle.mqtt5_drive.proofs.Taking.{ended}
use Rattle.mqtt5_drive.proofs.run.drive.Goals as goal

pub returns-clause-ok : goal.returns-clause-ok
returns-clause-ok c =
    let none : drop c.loop-step.step-index c.args.steps.now ≡ [] = drop_all c.loop-step.step-index c.args.steps.now (omega arith) in
    ended _ _ _ _ _ _ _ (rw none at c.loop-step.invariant.leads)
