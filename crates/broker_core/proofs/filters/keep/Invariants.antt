use Rattle.std.proofs.Common.{◌≡◌, ◌++◌}
use Rattle.broker_core.specs.Clients.{kept_filters}
use Rattle.broker_core.proofs.filters.keep.Given as goal

abbrev pub invariant-loop-filter : goal.invariant-loop-filter
invariant-loop-filter l = l.kept.items ++ kept_filters l.filter-iterator.rest.now ≡ l.initial.kept.items ++ kept_filters l.filters
