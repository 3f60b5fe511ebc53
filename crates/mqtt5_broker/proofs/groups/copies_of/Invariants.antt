use Rattle.std.proofs.Common.{◌≡◌, take}
use Rattle.mqtt5_broker.proofs.groups.copies_of.Given as goal

abbrev pub invariant-loop-group : goal.invariant-loop-group
invariant-loop-group l = l.copies.items ≡ take l.group-index l.groups
