use Rattle.std.proofs.Common.{[], Ok, ap, refl}
use Rattle.mqtt5_talk.proofs.Talking.{then_talked, no_talk}
use Rattle.mqtt5_talk.proofs.opening.await_answer.Goals as goal

pub loop-init : goal.loop-init
loop-init g c = record { ready = c.requires.ready; none = c.requires.none; codec = refl; talked = no_talk _ _ _ }

pub returns-in_err-hear-clause-talked : goal.returns-in_err-hear-clause-talked
returns-in_err-hear-clause-talked g c = then_talked _ _ _ _ _ _ _ _ _ [] [] c.loop.invariant.talked c.hear.ensures.talked

pub returns-in_err-capabilities-clause-talked : goal.returns-in_err-capabilities-clause-talked
returns-in_err-capabilities-clause-talked g c = then_talked _ _ _ _ _ _ _ _ _ [] [] c.loop.invariant.talked c.hear.ensures.talked

pub returns-in-Some-clause-talked : goal.returns-in-Some-clause-talked
returns-in-Some-clause-talked g c = then_talked _ _ _ _ _ _ _ _ _ [] [] c.loop.invariant.talked c.hear.ensures.talked

pub returns-in-Some-clause-limit : goal.returns-in-Some-clause-limit
returns-in-Some-clause-limit g c = rw (c.loop.invariant.none, c.loop.invariant.codec) at c.hear.ensures.codec

pub loop-preserved : goal.loop-preserved
loop-preserved g c =
    let none = c.in_ok-capabilities.ensures.none (ap Ok c.in_default.is) in
    record {
      ready = c.hear.ensures.ready;
      none = none;
      codec = rw (c.loop.invariant.none, none, c.loop.invariant.codec) at c.hear.ensures.codec;
      talked = then_talked _ _ _ _ _ _ _ _ _ [] [] c.loop.invariant.talked c.hear.ensures.talked;
    }
