use Rattle.mqtt5_broker.proofs.Grouping.{JoinedAll}
use Rattle.mqtt5_broker.proofs.groups.join_all.Given as goal

abbrev pub invariant-loop-filter : goal.invariant-loop-filter
invariant-loop-filter l = JoinedAll l.client l.filters l.filter-index l.groups l.next.items
