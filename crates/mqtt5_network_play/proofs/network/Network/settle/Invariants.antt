use Rattle.mqtt5_network.specs.Network.{IsReached}
use Rattle.mqtt5_network.specs.Steps.{work_left}
use Rattle.mqtt5_network_play.specs.Plays.{RestsBefore}
use Rattle.mqtt5_network_play.specs.Reports.{TakesSteps}
use Rattle.mqtt5_network_play.proofs.network.Network.settle.Given as goal

abbrev pub invariant-loop-event : goal.invariant-loop-event
invariant-loop-event l = record { reached : IsReached l.self; steps : TakesSteps l.fn.self l.self; before : RestsBefore l.from l.self }

abbrev pub decreases-loop-event : goal.decreases-loop-event
decreases-loop-event l = work_left l.self
