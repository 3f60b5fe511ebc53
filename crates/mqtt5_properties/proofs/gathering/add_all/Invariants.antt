use Rattle.std.proofs.Common.{◌≡◌}
use Rattle.mqtt5_properties.specs.Gathering.{with_all}
use Rattle.mqtt5_properties.proofs.gathering.add_all.Given as goal

-- what is left, added to the set so far, gives the whole
abbrev pub invariant-loop-property : goal.invariant-loop-property
invariant-loop-property g l = with_all g.P.PropertySet.table l.property-iterator.rest.items (g.P.PropertySet.found l.set) ≡ with_all g.P.PropertySet.table l.fn.properties.items (g.P.PropertySet.found l.fn.set)
