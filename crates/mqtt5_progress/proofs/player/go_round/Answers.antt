use Rattle.std.proofs.lemmas.Result.{err_from_is_err_and}
use Rattle.mqtt5_world.proofs.Faults.{stops_then}
use Rattle.mqtt5_progress.specs.Progress.{all_down, upward}
use Rattle.mqtt5_progress.proofs.player.go_round.Goals as goal

pub returns-in_err-all_up : goal.returns-in_err-all_up
returns-in_err-all_up c =
    let p = err_from_is_err_and c.from_residual.result c.from_residual.ensures.1 in
    rw (p.1, p.2) (stops_then _ _ (upward c.args.world.now) (all_down (upward c.args.world.now).down) c.in_err-all_up.ensures)
