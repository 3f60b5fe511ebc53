use Rattle.std.proofs.Common.{◌≡◌, ◌+◌, ◌≤◌, length, drop, min, map}
use Rattle.mqtt5_base.specs.Fields.{repeated}
use Rattle.mqtt5_base.specs.Layout.{listed_bytes}
use Rattle.mqtt5_subscribe.proofs.listed.list_len.Given as goal

-- the length so far and that of the items that are left
abbrev pub invariant-loop-item : goal.invariant-loop-item
invariant-loop-item g l = (l.len ≤ 18446744073709551615) × (min (l.len + length (listed_bytes (repeated g.T.Listed.first g.T.Listed.others) (map g.T.Listed.written (drop l.item-index l.item-items)))) 18446744073709551615 ≡ min (length (listed_bytes (repeated g.T.Listed.first g.T.Listed.others) (map g.T.Listed.written l.items))) 18446744073709551615)
