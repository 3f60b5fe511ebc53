use Rattle.mqtt5_broker.proofs.Names.{text_is}
use Rattle.mqtt5_broker.proofs.rights.filter_text.Goals as goal

pub returns : goal.returns
returns c = text_is c.in_ok-text.text c.args.filter.now c.in_ok-text.ensures
