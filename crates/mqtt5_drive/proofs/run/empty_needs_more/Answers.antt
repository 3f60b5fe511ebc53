use Rattle.mqtt5_drive.proofs.run.empty_needs_more.Goals as goal

pub returns : goal.returns
returns c = λ limit input empty. (2, rw empty (c.front_laws.ensures.found limit).nothing)
