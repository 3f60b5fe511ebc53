use Rattle.std.proofs.Common.{List, ap}
use Rattle.mqtt5_drive.specs.Run.{Turn, run}
use Rattle.mqtt5_drive.proofs.Cuts.{cut}
use Rattle.mqtt5_drive.proofs.run.cutting.Goals as goal

pub returns : goal.returns
returns c = λ codec s held before after at pieces others same. ap (λ (more : List Turn). run codec more s held) (cut before after at pieces others same)
