use Rattle.mqtt5_world.proofs.Faults.{only_memory}
use Rattle.mqtt5_world.proofs.player.played.Goals as goal

pub returns-in-Err-clause-err : goal.returns-in-Err-clause-err
returns-in-Err-clause-err c = only_memory _ _ _ c.args.limit c.args.events.now c.in_ok-world.ensures.ok c.in-Err.ensures
