use Rattle.std.proofs.Common.{[]}
use Rattle.mqtt5_talk.proofs.Talking.{then_talked, silent, no_talk}
use Rattle.mqtt5_talk.proofs.subscribing.await_subscribed.Goals as goal

pub loop-init : goal.loop-init
loop-init g c = record { ready = c.requires.ready; talked = no_talk _ _ _ }

pub returns-in_err-hear_event-clause-talked : goal.returns-in_err-hear_event-clause-talked
returns-in_err-hear_event-clause-talked g c = then_talked _ _ _ _ _ _ _ _ _ [] [] c.loop.invariant.talked c.hear_event.ensures.talked

pub returns-in_err-is_subscribed-clause-talked : goal.returns-in_err-is_subscribed-clause-talked
returns-in_err-is_subscribed-clause-talked g c =
    let heard = then_talked _ _ _ _ _ _ _ _ _ [] [] c.loop.invariant.talked c.hear_event.ensures.talked in
    then_talked _ _ _ _ _ _ _ _ _ [] [] heard (silent _ _ _ _ [] c.is_subscribed.ensures.talks)

pub loop-preserved : goal.loop-preserved
loop-preserved g c =
    let heard = then_talked _ _ _ _ _ _ _ _ _ [] [] c.loop.invariant.talked c.hear_event.ensures.talked in
    record { ready = c.is_subscribed.ensures.ready c.in_ok-hear_event.ensures.ready; talked = then_talked _ _ _ _ _ _ _ _ _ [] [] heard (silent _ _ _ _ [] c.is_subscribed.ensures.talks) }
