use Rattle.mqtt5_base.proofs.FrameLaws.{grammar}
use Rattle.mqtt5_base.proofs.laws.grammar_laws.Goals as goal

pub returns : goal.returns
returns c = grammar
