use Rattle.std.proofs.Common.{◌<◌, length, arith}
use Rattle.std.proofs.lemmas.Result.{err_from_is_err_and}
use Rattle.mqtt5_world.proofs.Faults.{stops_at}
use Rattle.mqtt5_world.proofs.world.World.play_all.Goals as goal

pub returns-in_err-play : goal.returns-in_err-play
returns-in_err-play c =
    let p = err_from_is_err_and c.from_residual.result c.from_residual.ensures.1 in
    let below : c.loop-event.event-index < length c.args.events.now = omega (arith, c.loop-event-test.true) in
    rw (p.1, p.2) (stops_at _ _ _ _ c.args.events.now c.loop-event.event-index c.event-item.result below c.event-item.is c.loop-event.invariant c.in_err-play.ensures)
