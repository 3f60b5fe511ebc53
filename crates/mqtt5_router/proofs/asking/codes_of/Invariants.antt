use Rattle.std.proofs.Common.{◌≡◌, map, take}
use Rattle.mqtt5_network.specs.Asking.{code_of}
use Rattle.mqtt5_router.proofs.asking.codes_of.Given as goal

abbrev pub invariant-loop-filter : goal.invariant-loop-filter
invariant-loop-filter l = l.codes ≡ map code_of (take l.filter-index l.filters)
