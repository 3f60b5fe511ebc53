use Rattle.std.proofs.Common.{[]}
use Rattle.mqtt5_talk.proofs.Talking.{then_talked, silent, as_talked}
use Rattle.mqtt5_talk.proofs.publishing.hear_acks.Goals as goal

pub returns-in_err-send-clause-talked : goal.returns-in_err-send-clause-talked
returns-in_err-send-clause-talked g c = as_talked _ _ _ _ _ [] c.send.ensures.told

pub returns-in-Some-clause-talked : goal.returns-in-Some-clause-talked
returns-in-Some-clause-talked g c =
    let heard = then_talked _ _ _ _ _ _ _ _ _ [] [] (as_talked _ _ _ _ _ [] c.send.ensures.told) c.hear_or_ping-heard.ensures.talked in
    then_talked _ _ _ _ _ _ _ _ _ [] [] heard (silent _ _ _ _ [] c.take_refusal.ensures.talks)

pub returns-in-None-clause-talked : goal.returns-in-None-clause-talked
returns-in-None-clause-talked g c =
    let heard = then_talked _ _ _ _ _ _ _ _ _ [] [] (as_talked _ _ _ _ _ [] c.send.ensures.told) c.hear_or_ping-heard.ensures.talked in
    then_talked _ _ _ _ _ _ _ _ _ [] [] heard (silent _ _ _ _ [] c.take_refusal.ensures.talks)
