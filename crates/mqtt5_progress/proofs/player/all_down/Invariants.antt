use Rattle.std.proofs.Common.{◌≡◌, ◌≤◌, length, drop}
use Rattle.mqtt5_world.specs.World.{run_world}
use Rattle.mqtt5_progress.specs.Progress.{downward}
use Rattle.mqtt5_progress.specs.Progress as progress
use Rattle.mqtt5_progress.proofs.player.all_down.Given as goal

abbrev pub invariant-loop : goal.invariant-loop
invariant-loop l = record {
  end : l.end ≡ length l.fn.world.down;
  within : l.counter ≤ l.end;
  same : run_world (progress.all_down (drop l.counter l.fn.world.down)) l.world ≡ downward l.fn.world;
}
