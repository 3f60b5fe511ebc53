use Rattle.mqtt5_talk.proofs.Talking.{then_silent, silent}
use Rattle.mqtt5_talk.proofs.publishing.publish.Goals as goal

pub returns-in_err-hand_allowed-clause-talked : goal.returns-in_err-hand_allowed-clause-talked
returns-in_err-hand_allowed-clause-talked g c = silent _ _ _ _ _ c.hand_allowed.ensures.said

pub returns-clause-talked : goal.returns-clause-talked
returns-clause-talked g c = then_silent _ _ _ _ _ _ _ _ _ _ (silent _ _ _ _ _ c.hand_allowed.ensures.said) c.await_acks.ensures.talked
