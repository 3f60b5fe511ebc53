use Rattle.std.proofs.Common.{length}
use Rattle.std.specs.Ordering.{nat_cmp}
use Rattle.std.specs.BTreeSet.{contains}
use Rattle.mqtt5_sessions.specs.Waiting.{IsFirst}
use Rattle.mqtt5_sessions.specs.Followed.{IsNoted}
use Rattle.mqtt5_sessions.proofs.waiting.next_waiting.Given as goal

abbrev pub invariant-loop-next : goal.invariant-loop-next
invariant-loop-next l = record {
  all : IsNoted l.noted l.clients;
  next : IsFirst (contains nat_cmp l.noted) l.from l.next;
}

abbrev pub decreases-loop-next : goal.decreases-loop-next
decreases-loop-next l = length l.noted.keys
