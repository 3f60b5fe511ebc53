use Rattle.mqtt5_broker.proofs.Names.{text_if}
use Rattle.mqtt5_broker.proofs.reasons.text_of.Goals as goal

pub returns : goal.returns
returns c = text_if c.from_str.result c.args.words.now c.from_str.ensures
