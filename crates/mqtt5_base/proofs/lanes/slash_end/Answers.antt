use Rattle.std.proofs.Common.{◌==◌, refl, take}
use Rattle.mqtt5_base.specs.Walk.{level_len}
use Rattle.mqtt5_base.proofs.Marks.{told_of_bytes, told_near, slash_told, until_all, until_some}
use Rattle.mqtt5_base.proofs.lanes.slash_end.Goals as goal

pub returns-clause-value : goal.returns-clause-value
returns-clause-value c =
    let t = c.args.text.now in
    told_of_bytes _ (level_len (take 16 t)) (level_len t) (until_all (λ b. b == 47) 16 t) (until_some (λ b. b == 47) 16 t)
    (slash_told t c.requires _ _ refl c.first_marked.ensures)

pub returns-clause-near : goal.returns-clause-near
returns-clause-near c = told_near _ _ (slash_told c.args.text.now c.requires _ _ refl c.first_marked.ensures)
