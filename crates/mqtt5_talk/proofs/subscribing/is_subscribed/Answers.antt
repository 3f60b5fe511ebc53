use Rattle.mqtt5_talk.proofs.Talking.{took}
use Rattle.mqtt5_talk.proofs.subscribing.is_subscribed.Goals as goal

pub returns-in-Some-clause-talks : goal.returns-in-Some-clause-talks
returns-in-Some-clause-talks c = took _ _ c.pop_event.ensures.rest

pub returns-in-None-clause-talks : goal.returns-in-None-clause-talks
returns-in-None-clause-talks c = took _ _ c.pop_event.ensures.rest
