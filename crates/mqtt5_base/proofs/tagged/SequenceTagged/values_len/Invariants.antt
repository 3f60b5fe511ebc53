use Rattle.std.proofs.Common.{◌≡◌, ◌+◌, ◌≤◌, length, drop, min, map}
use Rattle.mqtt5_base.specs.Layout.{tagged}
use Rattle.mqtt5_base.proofs.tagged.SequenceTagged.values_len.Given as goal

-- the length so far and that of the values that are left
abbrev pub invariant-loop-value : goal.invariant-loop-value
invariant-loop-value g l = (l.len ≤ 18446744073709551615) × (min (l.len + length (tagged l.id g.T.FieldValue.kind (map g.T.FieldValue.atom (drop l.value-index l.value-items)))) 18446744073709551615 ≡ min (length (tagged l.id g.T.FieldValue.kind (map g.T.FieldValue.atom l.self))) 18446744073709551615)
