use Rattle.std.proofs.Common.{[]}
use Rattle.mqtt5_talk.proofs.Talking.{then_talked, no_talk, as_talked}
use Rattle.mqtt5_talk.proofs.publishing.await_acks.Goals as goal

pub loop-init : goal.loop-init
loop-init g c = record { ready = c.requires.ready; talked = no_talk _ _ _ }

pub returns-in_err-hear_acks-clause-talked : goal.returns-in_err-hear_acks-clause-talked
returns-in_err-hear_acks-clause-talked g c = then_talked _ _ _ _ _ _ _ _ _ [] [] c.loop.invariant.talked c.hear_acks.ensures.talked

pub loop-preserved : goal.loop-preserved
loop-preserved g c = record { ready = c.in_ok-hear_acks.ensures.ready; talked = then_talked _ _ _ _ _ _ _ _ _ [] [] c.loop.invariant.talked c.hear_acks.ensures.talked }

pub returns-then-inflight-eq0-clause-talked : goal.returns-then-inflight-eq0-clause-talked
returns-then-inflight-eq0-clause-talked g c = then_talked _ _ _ _ _ _ _ _ _ [] [] c.loop.invariant.talked (as_talked _ _ _ _ _ [] c.send.ensures.told)
