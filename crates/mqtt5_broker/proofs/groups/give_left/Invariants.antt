use Rattle.mqtt5_broker.proofs.Grouping.{GivenLeft}
use Rattle.mqtt5_broker.proofs.groups.give_left.Given as goal

abbrev pub invariant-loop-group : goal.invariant-loop-group
invariant-loop-group l = GivenLeft l.client l.groups l.group-index l.initial.sessions l.sessions
