use Rattle.std.proofs.Common.{drop, map}
use Rattle.mqtt5_base.proofs.Parts.{IsPart}
use Rattle.mqtt5_base.proofs.tagged.SequenceTagged.put_values.Given as goal

-- what is written so far, and the values that are left
abbrev pub invariant-loop-value : goal.invariant-loop-value
invariant-loop-value g l = IsPart l.id g.T.FieldValue.kind l.fn.out l.out (map g.T.FieldValue.atom l.self) (map g.T.FieldValue.atom (drop l.value-index l.value-items))
