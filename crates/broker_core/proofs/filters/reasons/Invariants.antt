use Rattle.std.proofs.Common.{◌≡◌, ◌++◌, map}
use Rattle.broker_core.specs.Clients.{reason_of}
use Rattle.broker_core.proofs.filters.reasons.Given as goal

abbrev pub invariant-loop-filter : goal.invariant-loop-filter
invariant-loop-filter l = l.reasons ++ map reason_of l.filter-iterator.rest.now ≡ map reason_of l.filters
