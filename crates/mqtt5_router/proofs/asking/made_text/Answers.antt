use Rattle.mqtt5_router.proofs.Made.{text_is}
use Rattle.mqtt5_router.proofs.asking.made_text.Goals as goal

pub returns : goal.returns
returns c = text_is c.in_ok-made.made c.args.text.now c.in_ok-made.ensures
