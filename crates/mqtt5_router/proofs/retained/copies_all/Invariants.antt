use Rattle.mqtt5_router.proofs.Copying.{Copied}
use Rattle.mqtt5_router.proofs.retained.copies_all.Given as goal

abbrev pub invariant-loop-filter : goal.invariant-loop-filter
invariant-loop-filter l = Copied l.retained l.identifier l.filters l.filter-index l.subscriptions l.all.items l.next.items
