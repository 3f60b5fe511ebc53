use Rattle.std.proofs.Common.{◌≡◌, ◌++◌, take, drop}
use Rattle.mqtt5_broker.specs.Groups.{rotates}
use Rattle.mqtt5_broker.proofs.groups.rotate_met.Given as goal

abbrev pub invariant-loop-group : goal.invariant-loop-group
invariant-loop-group l = take l.group-index l.groups ++ rotates l.topic l.sessions (drop l.group-index l.groups) ≡ rotates l.topic l.sessions l.initial.groups
