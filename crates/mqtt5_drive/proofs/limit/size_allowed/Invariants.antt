use Rattle.std.proofs.Common.{◌≡◌, drop}
use Rattle.mqtt5_drive.specs.Limit.{size_allowed}
use Rattle.mqtt5_drive.proofs.limit.size_allowed.Given as goal

abbrev pub invariant-loop-place : goal.invariant-loop-place
invariant-loop-place l = size_allowed (drop l.place l.events.items) l.allowed ≡ size_allowed (drop l.fn.from l.fn.events.items) l.fn.limit
