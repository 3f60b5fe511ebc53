use Rattle.std.proofs.Common.{◌≡◌, ◌++◌, take, drop, map, if◌then◌else◌}
use Rattle.mqtt5_broker.specs.Groups.{Group, is_among, without_member}
use Rattle.mqtt5_broker.proofs.groups.remove_met.Given as goal

abbrev pub invariant-loop-group : goal.invariant-loop-group
invariant-loop-group l =
    take l.group-index l.groups ++ map (λ (g : Group). if is_among l.filters g.topic_filter then without_member l.client g else g) (drop l.group-index l.groups)
    ≡ map (λ (g : Group). if is_among l.filters g.topic_filter then without_member l.client g else g) l.initial.groups
