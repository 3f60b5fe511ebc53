use Rattle.std.proofs.Common.{[]}
use Rattle.mqtt5_talk.proofs.Talking.{then_pinged, with_pings}
use Rattle.mqtt5_talk.proofs.opening.hear_or_ping.Goals as goal

pub returns-in-Err-clause-talked : goal.returns-in-Err-clause-talked
returns-in-Err-clause-talked g c = then_pinged _ _ _ _ _ _ _ _ _ c.if-pings.true c.hear.ensures.talked c.ask.ensures.told

pub returns-in_default-clause-talked : goal.returns-in_default-clause-talked
returns-in_default-clause-talked g c = with_pings _ _ _ _ _ _ _ [] c.hear.ensures.talked

pub returns-in_default-3-clause-talked : goal.returns-in_default-3-clause-talked
returns-in_default-3-clause-talked g c = with_pings _ _ _ _ _ _ _ [] c.hear.ensures.talked
