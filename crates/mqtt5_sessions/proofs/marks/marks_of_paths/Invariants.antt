use Rattle.std.proofs.Common.{◌≡◌, map, take}
use Rattle.mqtt5_sessions.specs.Indexed.{path_mark}
use Rattle.mqtt5_sessions.proofs.marks.marks_of_paths.Given as goal

abbrev pub invariant-loop-topic_filter : goal.invariant-loop-topic_filter
invariant-loop-topic_filter l = l.marks.items ≡ map path_mark (take l.topic_filter-index l.topic_filters)
