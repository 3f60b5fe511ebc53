use Rattle.std.proofs.Common.{◌≡◌, drop, map}
use Rattle.mqtt5_base.specs.Layout.{all_fit}
use Rattle.mqtt5_base.proofs.tagged.SequenceTagged.values_fit.Given as goal

-- the values that are left decide
abbrev pub invariant-loop-value : goal.invariant-loop-value
invariant-loop-value g l = all_fit g.T.FieldValue.kind (map g.T.FieldValue.atom (drop l.value-index l.value-items)) ≡ all_fit g.T.FieldValue.kind (map g.T.FieldValue.atom l.self)
