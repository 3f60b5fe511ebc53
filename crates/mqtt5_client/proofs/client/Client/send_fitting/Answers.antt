use Rattle.std.proofs.lemmas.Result.{err_from_is_err_and}
use Rattle.mqtt5_client.proofs.client.Client.send_fitting.Goals as goal

pub returns-in_err-frames-clause-err : goal.returns-in_err-frames-clause-err
returns-in_err-frames-clause-err c =
    let p = err_from_is_err_and c.from_residual-in_err-frames.result c.from_residual-in_err-frames.ensures.1 in
    rw (p.1, p.2) (rw (c.in_ok-requests.ensures, c.in_ok-copy.ensures) at c.in_err-frames.ensures.err)
