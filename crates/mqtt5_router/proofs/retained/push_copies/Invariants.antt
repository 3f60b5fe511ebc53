use Rattle.std.proofs.Common.{◌≡◌, ◌++◌, take}
use Rattle.std.specs.List.{filter_map}
use Rattle.mqtt5_network.specs.Retained.{copy_for}
use Rattle.mqtt5_router.proofs.retained.push_copies.Given as goal

abbrev pub invariant-loop-i : goal.invariant-loop-i
invariant-loop-i l = l.all.items ≡ l.initial.all.items ++ filter_map (copy_for l.subscription) (take l.i l.retained)
