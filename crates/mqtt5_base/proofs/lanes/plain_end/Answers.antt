use Rattle.std.proofs.Common.{refl, take}
use Rattle.mqtt5_base.specs.Walk.{plain_len}
use Rattle.mqtt5_base.proofs.Marks.{told_of_bytes, told_near, plain_told, stops, until_all, until_some}
use Rattle.mqtt5_base.proofs.lanes.plain_end.Goals as goal

pub returns-clause-value : goal.returns-clause-value
returns-clause-value c =
    let t = c.args.text.now in
    told_of_bytes _ (plain_len (take 16 t)) (plain_len t) (until_all stops 16 t) (until_some stops 16 t)
    (plain_told t c.requires _ _ refl c.first_marked.ensures)

pub returns-clause-near : goal.returns-clause-near
returns-clause-near c = told_near _ _ (plain_told c.args.text.now c.requires _ _ refl c.first_marked.ensures)
