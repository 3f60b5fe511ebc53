use Rattle.std.proofs.Common.{drop, map}
use Rattle.mqtt5_base.specs.Fields.{repeated}
use Rattle.mqtt5_subscribe.proofs.Parts.{IsPart}
use Rattle.mqtt5_subscribe.proofs.listed.put_list.Given as goal

-- what is written so far, and the items that are left
abbrev pub invariant-loop-item : goal.invariant-loop-item
invariant-loop-item g l = IsPart (repeated g.T.Listed.first g.T.Listed.others) l.fn.out l.out (map g.T.Listed.written l.items) (map g.T.Listed.written (drop l.item-index l.item-items))
