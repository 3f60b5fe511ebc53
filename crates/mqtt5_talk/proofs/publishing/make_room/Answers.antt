use Rattle.std.proofs.Common.{[]}
use Rattle.mqtt5_talk.proofs.Talking.{then_talked, silent, as_talked}
use Rattle.mqtt5_talk.proofs.publishing.make_room.Goals as goal

pub returns-in_err-send_enough-clause-talked : goal.returns-in_err-send_enough-clause-talked
returns-in_err-send_enough-clause-talked g c = then_talked _ _ _ _ _ _ _ _ _ [] [] (silent _ _ _ _ [] c.take_refusal.ensures.talks) (as_talked _ _ _ _ _ [] c.send_enough.ensures.told)

pub loop-init : goal.loop-init
loop-init g c = record {
  ready = c.send_enough.ensures.ready;
  talked = then_talked _ _ _ _ _ _ _ _ _ [] [] (silent _ _ _ _ [] c.take_refusal.ensures.talks) (as_talked _ _ _ _ _ [] c.send_enough.ensures.told);
}

pub returns-in_err-hear_acks-clause-talked : goal.returns-in_err-hear_acks-clause-talked
returns-in_err-hear_acks-clause-talked g c = then_talked _ _ _ _ _ _ _ _ _ [] [] c.loop.invariant.talked c.hear_acks.ensures.talked

pub loop-preserved : goal.loop-preserved
loop-preserved g c = record { ready = c.in_ok-hear_acks.ensures.ready; talked = then_talked _ _ _ _ _ _ _ _ _ [] [] c.loop.invariant.talked c.hear_acks.ensures.talked }

pub returns-in-Some-clause-talked : goal.returns-in-Some-clause-talked
returns-in-Some-clause-talked g c = silent _ _ _ _ [] c.take_refusal.ensures.talks
