use Rattle.std.proofs.Common.{◌≡◌, ◌≤◌, ◌-◌}
use Rattle.mqtt5_progress.specs.Progress.{settle}
use Rattle.mqtt5_progress.proofs.player.go_rounds.Given as goal

abbrev pub invariant-loop : goal.invariant-loop
invariant-loop l = record {
  within : l.counter ≤ 4;
  same : settle (4 - l.counter) l.world ≡ settle 4 l.fn.world;
}
