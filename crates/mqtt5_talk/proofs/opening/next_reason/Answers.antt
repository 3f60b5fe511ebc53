use Rattle.mqtt5_talk.proofs.Talking.{took}
use Rattle.mqtt5_talk.proofs.opening.next_reason.Goals as goal

pub returns-after-ack : goal.returns-after-ack
returns-after-ack c = record { talks = took _ _ c.pop_event.ensures.rest }

pub returns-in-Some : goal.returns-in-Some
returns-in-Some c = record { talks = took _ _ c.pop_event.ensures.rest }

pub returns-in-None : goal.returns-in-None
returns-in-None c = record { talks = took _ _ c.pop_event.ensures.rest }
