use Rattle.std.proofs.Common.{[]}
use Rattle.mqtt5_talk.proofs.Talking.{then_talked, silent}
use Rattle.mqtt5_talk.proofs.opening.start_in_words.Goals as goal

pub returns-in-Err-Refused-clause-talked : goal.returns-in-Err-Refused-clause-talked
returns-in-Err-Refused-clause-talked g c = then_talked _ _ _ _ _ _ _ _ _ [] [] c.start.ensures.talked (silent _ _ _ _ [] c.take_reason.ensures.talks)
