use Rattle.std.proofs.Common.{◌≡◌, drop}
use Rattle.mqtt5_network.specs.Network.{run_network}
use Rattle.mqtt5_network_play.proofs.network.Network.play_all.Given as goal

abbrev pub invariant-loop-event : goal.invariant-loop-event
invariant-loop-event l = run_network (drop l.event-index l.events) l.self ≡ run_network l.events l.initial.self
