use Rattle.mqtt5_broker.proofs.Grouping.{GivenAll}
use Rattle.mqtt5_broker.proofs.groups.give_all.Given as goal

abbrev pub invariant-loop-group : goal.invariant-loop-group
invariant-loop-group l = GivenAll l.groups l.group-index l.initial.sessions l.sessions
