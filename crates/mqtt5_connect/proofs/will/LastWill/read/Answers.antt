use Rattle.mqtt5_base.proofs.AnswersLemmas.{part_said}
use Rattle.mqtt5_connect.specs.Rows.{will_part}
use Rattle.mqtt5_connect.specs.Connects.{under_flags}
use Rattle.mqtt5_connect.proofs.will.LastWill.read.Goals as goal

pub returns-clause-read : goal.returns-clause-read
returns-clause-read c = part_said _ (will_part 0) (under_flags c.args.flags) _ _ c.read_part.ensures.read
