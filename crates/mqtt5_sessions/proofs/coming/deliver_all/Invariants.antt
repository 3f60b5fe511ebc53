use Rattle.std.proofs.Common.{◌≡◌, length}
use Rattle.mqtt5_topic_index.specs.declared.index.TopicIndex.{TopicIndex}
use Rattle.mqtt5_sessions.specs.Coming.{delivered}
use Rattle.mqtt5_sessions.specs.Followed.{IsFollowed}
use Rattle.mqtt5_sessions.proofs.coming.deliver_all.Given as goal

abbrev pub invariant-loop-alloc : goal.invariant-loop-alloc
invariant-loop-alloc l = record {
  same : delivered l.coming.items l.clients.items ≡ delivered l.initial.coming.items l.initial.clients.items;
  followed : (x : TopicIndex) → IsFollowed x l.initial.noted l.initial.clients.items → IsFollowed x l.noted l.clients.items;
}

abbrev pub decreases-loop-alloc : goal.decreases-loop-alloc
decreases-loop-alloc l = length l.coming.items
