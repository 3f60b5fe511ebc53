use Rattle.std.proofs.Common.{arith}
use Rattle.std.proofs.lemmas.Result.{err_from_is_err_and}
use Rattle.mqtt5_progress.proofs.Played.{settle_next, settle_stops}
use Rattle.mqtt5_progress.proofs.player.go_rounds.Goals as goal

pub returns-in_err-go_round : goal.returns-in_err-go_round
returns-in_err-go_round c =
    let p = err_from_is_err_and c.from_residual.result c.from_residual.ensures.1 in
    rw (p.1, p.2) (settle_stops _ c.loop.counter 4 c.loop.world c.go_round.new.world _ c.loop-test.true c.loop.invariant.same c.in_err-go_round.ensures)

pub loop-preserved : goal.loop-preserved
loop-preserved c = record {
  within = omega (arith, c.loop-test.true);
  same = settle_next c.loop.counter 4 c.loop.world c.go_round.new.world _ c.loop-test.true c.loop.invariant.same c.in_ok-go_round.ensures;
}
