use Rattle.mqtt5_talk.proofs.Talking.{no_talk}
use Rattle.mqtt5_talk.proofs.subscribing.hear_event.Goals as goal

pub returns-clause-talked : goal.returns-clause-talked
returns-clause-talked g c = no_talk _ _ _
