use Rattle.std.proofs.Common.{◌≡◌, ◌++◌, take, drop, map}
use Rattle.mqtt5_broker.specs.Groups.{without_member}
use Rattle.mqtt5_broker.proofs.groups.remove_from_all.Given as goal

abbrev pub invariant-loop-group : goal.invariant-loop-group
invariant-loop-group l = take l.group-index l.groups ++ map (without_member l.client) (drop l.group-index l.groups) ≡ map (without_member l.client) l.initial.groups
