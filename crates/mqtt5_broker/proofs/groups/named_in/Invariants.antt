use Rattle.mqtt5_broker.proofs.Grouping.{NamedIn}
use Rattle.mqtt5_broker.proofs.groups.named_in.Given as goal

abbrev pub invariant-loop-group : goal.invariant-loop-group
invariant-loop-group l = NamedIn l.packet l.groups l.group-index l.named.items
