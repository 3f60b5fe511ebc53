use Rattle.std.proofs.Common.{take}
use Rattle.std.specs.List.{All}
use Rattle.mqtt5_network_play.specs.Plays.{RestsHere}
use Rattle.mqtt5_network_play.proofs.network.Network.step_from.Given as goal

abbrev pub invariant-loop-client : goal.invariant-loop-client
invariant-loop-client l = All RestsHere (take l.client l.self.places)
