use Rattle.std.proofs.Common.{◌≡◌}
use Rattle.mqtt5_sessions.specs.Shedding.{without_firsts}
use Rattle.mqtt5_sessions.proofs.client.ClientState.shed.Given as goal

abbrev pub invariant-loop-left : goal.invariant-loop-left
invariant-loop-left l = without_firsts l.left l.self ≡ without_firsts l.count l.initial.self

abbrev pub decreases-loop-left : goal.decreases-loop-left
decreases-loop-left l = l.left
