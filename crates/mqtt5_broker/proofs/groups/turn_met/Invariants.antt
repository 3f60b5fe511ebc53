use Rattle.mqtt5_broker.proofs.Grouping.{TurnedMet}
use Rattle.mqtt5_broker.proofs.groups.turn_met.Given as goal

abbrev pub invariant-loop-group : goal.invariant-loop-group
invariant-loop-group l = TurnedMet l.on l.topic l.groups l.group-index l.initial.sessions l.sessions
