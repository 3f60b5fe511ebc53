use Rattle.mqtt5_talk.proofs.Talking.{then_silent, as_talked}
use Rattle.std.proofs.Common.{[]}
use Rattle.mqtt5_talk.proofs.publishing.publish_all.Goals as goal

pub returns-in-Err-clause-talked : goal.returns-in-Err-clause-talked
returns-in-Err-clause-talked g c =
    let (ms, talked, gives, all) = c.publish_each.ensures.talked in
    (ms, then_silent _ _ _ _ _ _ _ _ _ _ talked (as_talked _ _ _ _ _ [] c.send.ensures.told), gives, tt)
