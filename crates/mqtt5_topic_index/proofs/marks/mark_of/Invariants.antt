use Rattle.std.proofs.Common.{◌≡◌, ◌-◌, drop}
use Rattle.mqtt5_topic_index.specs.Marks.{mark_from, reach, mark_of}
use Rattle.mqtt5_topic_index.proofs.marks.mark_of.Given as goal

abbrev pub invariant-loop-i : goal.invariant-loop-i
invariant-loop-i l = mark_from (reach - l.i) l.start l.mark (drop l.i l.topic_filter) ≡ mark_of l.topic_filter
