use Rattle.std.proofs.Common.{◌≡◌, ◌++◌, take}
use Rattle.mqtt5_progress.specs.Late.{with_id}
use Rattle.mqtt5_progress.proofs.late.push_released.Given as goal

abbrev pub invariant-loop-publish : goal.invariant-loop-publish
invariant-loop-publish l = l.handed.items ≡ l.initial.handed.items ++ with_id l.id (take l.publish-index l.stored)
