use Rattle.mqtt5_streams.proofs.Answered.{answers}
use Rattle.mqtt5_streams.proofs.laws.answers_law.Goals as goal

pub returns : goal.returns
returns c = λ codec limit small events admits typed writable. answers codec limit small events admits typed writable
