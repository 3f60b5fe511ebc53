use Rattle.std.proofs.Common.{◌≡◌}
use Rattle.mqtt5_subscribe.proofs.subscribe.Subscribe.new_many.Given as goal

-- the filters so far, and the properties as they were
abbrev pub invariant-loop-filter : goal.invariant-loop-filter
invariant-loop-filter g l = (l.all ≡ l.yielded) × (l.properties ≡ l.fn.properties)
