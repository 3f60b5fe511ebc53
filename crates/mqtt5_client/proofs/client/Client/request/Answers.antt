use Rattle.std.proofs.Common.{Ok, Err, inl, inr, refl}
use Rattle.mqtt5_client.proofs.Requested.{taken_runs, taken_writable, taken_err, taken_unchanged, taken_unsent, over_by}
use Rattle.mqtt5_client.proofs.client.Client.request.Goals as goal

pub returns-then-self-clause-err : goal.returns-then-self-clause-err
returns-then-self-clause-err c = inl (c.if-self.true, refl, refl)

pub returns-in-Ok-clause-ok : goal.returns-in-Ok-clause-ok
returns-in-Ok-clause-ok c =
    taken_runs (Ok tt) c.args.self.now _ c.args.request c.args.at c.in-Ok.ensures refl
    (over_by c.args.self.now.disconnected c.is_disconnect-disconnects.result c.args.request c.is_disconnect-disconnects.ensures c.if-self.false) c.requires

pub returns-in-Ok-clause-writable : goal.returns-in-Ok-clause-writable
returns-in-Ok-clause-writable c = taken_writable (Ok tt) c.args.self.now.codec c.args.request c.args.at _ _ _ _ c.in-Ok.ensures

pub returns-in-Err-clause-err : goal.returns-in-Err-clause-err
returns-in-Err-clause-err c = inr (c.if-self.false, taken_err (Err c.in-Err.refused) c.args.self.now.codec c.args.request c.args.at _ _ _ _ c.in-Err.ensures)

pub returns-in-Err-clause-unchanged : goal.returns-in-Err-clause-unchanged
returns-in-Err-clause-unchanged c = taken_unchanged (Err c.in-Err.refused) c.args.self.now.codec c.args.request c.args.at _ _ _ _ c.in-Err.ensures

pub returns-in-Err-clause-unsent : goal.returns-in-Err-clause-unsent
returns-in-Err-clause-unsent c = taken_unsent (Err c.in-Err.refused) c.args.self.now.codec c.args.request c.args.at _ _ _ _ c.in-Err.ensures
