use Rattle.std.proofs.Common.{◌≡◌, ◌++◌}
use Rattle.mqtt5_inflight.proofs.ids.keys_of.Given as goal

abbrev pub invariant-loop-id : goal.invariant-loop-id
invariant-loop-id l = l.keys.items ++ l.id-iterator ≡ l.ids.keys
