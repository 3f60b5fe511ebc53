use Rattle.std.proofs.Common.{[]}
use Rattle.mqtt5_talk.proofs.Talking.{then_told, silent_told}
use Rattle.mqtt5_talk.proofs.opening.ask.Goals as goal

pub returns-in_err-hand_in-clause-told : goal.returns-in_err-hand_in-clause-told
returns-in_err-hand_in-clause-told g c = silent_told _ _ _ _ c.hand_in.ensures.said

pub returns-clause-told : goal.returns-clause-told
returns-clause-told g c = then_told _ _ _ _ _ _ _ [] (silent_told _ _ _ _ c.hand_in.ensures.said) c.send.ensures.told
