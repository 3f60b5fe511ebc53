use Rattle.std.proofs.Common.{ap, ◌∙◌}
use Rattle.mqtt5_world.specs.World.{run_world}
use Rattle.mqtt5_world.proofs.Faults.{only_memory}
use Rattle.mqtt5_progress.proofs.Played.{rounds_memory}
use Rattle.mqtt5_progress.proofs.player.played_out.Goals as goal

pub returns-in-Err-clause-err : goal.returns-in-Err-clause-err
returns-in-Err-clause-err c = only_memory _ _ _ c.args.limit c.args.events.now c.in_ok-world.ensures.ok c.in-Err.ensures

pub returns-in-Err-go_rounds-clause-err : goal.returns-in-Err-go_rounds-clause-err
returns-in-Err-go_rounds-clause-err c =
    rounds_memory _ _ _ c.args.limit c.args.events.now (c.in_default.ensures ∙ ap (run_world c.args.events.now) c.in_ok-world.ensures.ok) c.in-Err-go_rounds.ensures
