use Rattle.mqtt5_router.proofs.Filters.{TakenOut, Answered}
use Rattle.mqtt5_router.proofs.asking.unsubscribe_all.Given as goal

abbrev pub invariant-loop-filter : goal.invariant-loop-filter
invariant-loop-filter l = record {
  reasons : Answered l.topic_filters l.filter-index l.fn.subscriptions.items l.reasons l.next.items;
  left : TakenOut l.topic_filters l.filter-index l.fn.subscriptions.items l.next.items;
}
