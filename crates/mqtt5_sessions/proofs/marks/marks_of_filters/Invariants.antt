use Rattle.std.proofs.Common.{◌≡◌, map, take}
use Rattle.mqtt5_subscribe.specs.declared.filter.Filter.{Filter}
use Rattle.mqtt5_sessions.specs.Indexed.{path_mark}
use Rattle.mqtt5_sessions.proofs.marks.marks_of_filters.Given as goal

abbrev pub invariant-loop-filter : goal.invariant-loop-filter
invariant-loop-filter l = l.marks.items ≡ map (λ (f : Filter). path_mark f.path) (take l.filter-index l.filters)
