use Rattle.std.proofs.Common.{◌≡◌, map, take}
use Rattle.mqtt5_broker.specs.Rights.{code_for}
use Rattle.mqtt5_broker.proofs.rights.codes_for.Given as goal

abbrev pub invariant-loop-filter : goal.invariant-loop-filter
invariant-loop-filter l = l.codes ≡ map (code_for l.user l.rights) (take l.filter-index l.filters)
