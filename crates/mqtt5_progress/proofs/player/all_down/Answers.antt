use Rattle.std.proofs.Common.{◌<◌, length, arith}
use Rattle.std.proofs.lemmas.Result.{err_from_is_err_and}
use Rattle.mqtt5_world.specs.declared.event.WorldEvent.TheVariants as events
use Rattle.mqtt5_progress.proofs.Played.{goes_on, stops_on}
use Rattle.mqtt5_progress.proofs.player.all_down.Goals as goal

pub returns-in_err-play : goal.returns-in_err-play
returns-in_err-play c =
    let p = err_from_is_err_and c.from_residual.result c.from_residual.ensures.1 in
    let below : c.loop.counter < length c.args.world.now.down = omega (arith, c.loop.invariant.end, c.loop-test.true) in
    rw (p.1, p.2) (stops_on events.Down c.args.world.now.down _ c.loop.counter c.loop.world c.play.new.self c.args.world.now below c.loop.invariant.same c.in_err-play.ensures)

pub loop-preserved : goal.loop-preserved
loop-preserved c =
    let below : c.loop.counter < length c.args.world.now.down = omega (arith, c.loop.invariant.end, c.loop-test.true) in
    record {
      end = c.loop.invariant.end;
      within = omega (arith, c.loop-test.true);
      same = goes_on events.Down c.args.world.now.down c.loop.counter c.loop.world c.play.new.self _ below c.loop.invariant.same c.in_ok-play.ensures;
    }
