use Rattle.std.proofs.Common.{◌≡◌, ◌+◌, ◌≤◌, length, drop, min, map}
use Rattle.mqtt5_base.specs.Fields.{repeated}
use Rattle.mqtt5_base.specs.Layout.{listed_bytes, listed_fit}
use Rattle.mqtt5_subscribe.proofs.listed.writable_list_len.Given as goal

-- the items that are left decide, and the length so far and theirs are that of all
abbrev pub invariant-loop-item : goal.invariant-loop-item
invariant-loop-item g l =
    (listed_fit (repeated g.T.Listed.first g.T.Listed.others) (map g.T.Listed.written (drop l.item-index l.item-items)) ≡ listed_fit (repeated g.T.Listed.first g.T.Listed.others) (map g.T.Listed.written l.items))
    × ((l.len ≤ 18446744073709551615) × (min (l.len + length (listed_bytes (repeated g.T.Listed.first g.T.Listed.others) (map g.T.Listed.written (drop l.item-index l.item-items)))) 18446744073709551615 ≡ min (length (listed_bytes (repeated g.T.Listed.first g.T.Listed.others) (map g.T.Listed.written l.items))) 18446744073709551615))
