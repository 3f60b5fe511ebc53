use Rattle.std.proofs.Common.{◌≡◌, ◌≤◌, length}
use Rattle.mqtt5_network_play.specs.Plays.{before, queues_of}
use Rattle.mqtt5_network_play.proofs.network.route.Given as goal

abbrev pub invariant-loop-place : goal.invariant-loop-place
invariant-loop-place l = record {
  queued : l.places.items ≡ before l.place (queues_of l.client l.publishes) l.initial.places.items;
  within : l.place ≤ length l.initial.places.items;
}
