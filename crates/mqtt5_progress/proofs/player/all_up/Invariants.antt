use Rattle.std.proofs.Common.{◌≡◌, ◌≤◌, length, drop}
use Rattle.mqtt5_world.specs.World.{run_world}
use Rattle.mqtt5_progress.specs.Progress.{upward}
use Rattle.mqtt5_progress.specs.Progress as progress
use Rattle.mqtt5_progress.proofs.player.all_up.Given as goal

abbrev pub invariant-loop : goal.invariant-loop
invariant-loop l = record {
  end : l.end ≡ length l.fn.world.up;
  within : l.counter ≤ l.end;
  same : run_world (progress.all_up (drop l.counter l.fn.world.up)) l.world ≡ upward l.fn.world;
}
