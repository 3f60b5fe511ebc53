use Rattle.mqtt5_broker.proofs.Grouping.{GivenFirst}
use Rattle.mqtt5_broker.proofs.groups.Group.turn_without.Given as goal

abbrev pub invariant-loop-member : goal.invariant-loop-member
invariant-loop-member l = GivenFirst l.client l.self l.member-index l.initial.sessions l.sessions
