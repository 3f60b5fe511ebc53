use Rattle.mqtt5_router.proofs.Filters.{TakenIn}
use Rattle.mqtt5_router.proofs.asking.with_filters.Given as goal

abbrev pub invariant-loop-filter : goal.invariant-loop-filter
invariant-loop-filter l = TakenIn l.identifier l.filters l.filter-index l.subscriptions l.next.items
