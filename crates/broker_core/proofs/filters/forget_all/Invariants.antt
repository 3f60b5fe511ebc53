use Rattle.std.proofs.Common.{◌≡◌, ◌++◌}
use Rattle.broker_core.specs.Clients.{had_all, without_all}
use Rattle.broker_core.proofs.filters.forget_all.Given as goal

abbrev pub invariant-loop-filter : goal.invariant-loop-filter
invariant-loop-filter l =
    (l.reasons ++ had_all l.filter-iterator.rest.now l.kept.items ≡ had_all l.filters l.initial.kept.items)
    × (without_all l.filter-iterator.rest.now l.kept.items ≡ without_all l.filters l.initial.kept.items)
