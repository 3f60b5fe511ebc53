use Rattle.std.proofs.lemmas.Result.{err_from_is_err_and}
use Rattle.mqtt5_drive.proofs.Settles.{fronts_of}
use Rattle.mqtt5_drive.proofs.Taking.{takes, stops_at, waits, ends_at}
use Rattle.mqtt5_drive.proofs.run.take_frames.Goals as goal

pub returns-in_err-packet-clause-err : goal.returns-in_err-packet-clause-err
returns-in_err-packet-clause-err c =
    let p = err_from_is_err_and c.from_residual.result c.from_residual.ensures.1 in
    rw (p.1, p.2) (ends_at (fronts_of c.front_laws.ensures.found c.front_laws.ensures.stays) c.frame_laws.ensures _ _ _ _ _ _ _ _ _ _ c.loop-packet.invariant c.in_err-packet.ensures.decodes)

pub loop-packet-preserved : goal.loop-packet-preserved
loop-packet-preserved c =
    takes (fronts_of c.front_laws.ensures.found c.front_laws.ensures.stays) c.frame_laws.ensures _ _ _ _ _ _ _ _ _ c.in-Some.packet _ _ c.loop-packet.invariant (rw c.in-Some.is at c.in_ok-packet.ensures.decodes) c.in_ok-deliver.ensures

pub returns-in_err-deliver-clause-err : goal.returns-in_err-deliver-clause-err
returns-in_err-deliver-clause-err c =
    let p = err_from_is_err_and c.from_residual-in_err-deliver.result c.from_residual-in_err-deliver.ensures.1 in
    rw (p.1, p.2) (stops_at (fronts_of c.front_laws.ensures.found c.front_laws.ensures.stays) c.frame_laws.ensures _ _ _ _ _ _ _ _ _ c.in-Some.packet _ _ _ c.loop-packet.invariant (rw c.in-Some.is at c.in_ok-packet.ensures.decodes) c.in_err-deliver.ensures)

pub returns-clause-ok : goal.returns-clause-ok
returns-clause-ok c = waits (fronts_of c.front_laws.ensures.found c.front_laws.ensures.stays) c.frame_laws.ensures _ _ _ _ _ _ _ _ _ c.loop-packet.invariant (rw c.in_default.is at c.in_ok-packet.ensures.decodes)
