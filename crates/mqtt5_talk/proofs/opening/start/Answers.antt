use Rattle.std.proofs.Common.{[]}
use Rattle.mqtt5_talk.proofs.Talking.{then_talked, as_talked}
use Rattle.mqtt5_talk.proofs.opening.start.Goals as goal

pub returns-in_err-send-clause-talked : goal.returns-in_err-send-clause-talked
returns-in_err-send-clause-talked g c = as_talked _ _ _ _ _ [] c.send.ensures.told

pub returns-clause-talked : goal.returns-clause-talked
returns-clause-talked g c =
    then_talked _ _ _ _ _ _ _ _ _ [] [] (as_talked _ _ _ _ _ [] c.send.ensures.told) c.await_answer.ensures.talked
