use Rattle.std.proofs.Common.{◌≡◌, All, take}
use Rattle.std.specs.Prelude.{None}
use Rattle.mqtt5_talk.specs.Capabilities.{forbidden_filter}
use Rattle.mqtt5_talk.proofs.capabilities.Capabilities.check_filters.Given as goal

abbrev pub invariant-loop-filter : goal.invariant-loop-filter
invariant-loop-filter l = All (λ f. forbidden_filter l.self f.path.bytes ≡ None) (take l.filter-index l.subscribe.filters)
