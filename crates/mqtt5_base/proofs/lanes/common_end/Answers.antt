use Rattle.std.proofs.Common.{refl, take}
use Rattle.mqtt5_base.specs.Walk.{common_len}
use Rattle.mqtt5_base.proofs.Marks.{told_of_bytes, told_near, common_told, common_all, common_some}
use Rattle.mqtt5_base.proofs.lanes.common_end.Goals as goal

pub returns-clause-value : goal.returns-clause-value
returns-clause-value c =
    let t = c.args.topic.now in
    let f = c.args.filter.now in
    told_of_bytes _ (common_len (take 16 t) (take 16 f)) (common_len t f) (common_all 16 t f) (common_some 16 t f)
    (common_told t f c.requires.in_topic c.requires.in_filter _ _ refl c.first_marked.ensures)

pub returns-clause-near : goal.returns-clause-near
returns-clause-near c = told_near _ _ (common_told c.args.topic.now c.args.filter.now c.requires.in_topic c.requires.in_filter _ _ refl c.first_marked.ensures)
