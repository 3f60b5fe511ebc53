use Rattle.mqtt5_talk.proofs.Talking.{as_turned}
use Rattle.mqtt5_talk.proofs.opening.hear.Goals as goal

pub returns-in-Ok-eq0-clause-talked : goal.returns-in-Ok-eq0-clause-talked
returns-in-Ok-eq0-clause-talked g c =
    let (came, sent, consumed, appended, left, count) = c.turn.ensures.carried in as_turned _ _ _ _ c.turn.result _ _ came sent consumed appended left c.turn.ensures.codec

pub returns-in-Ok-clause-talked : goal.returns-in-Ok-clause-talked
returns-in-Ok-clause-talked g c =
    let (came, sent, consumed, appended, left, count) = c.turn.ensures.carried in as_turned _ _ _ _ c.turn.result _ _ came sent consumed appended left c.turn.ensures.codec

pub returns-in-Err-clause-talked : goal.returns-in-Err-clause-talked
returns-in-Err-clause-talked g c =
    let (came, sent, consumed, appended, left, count) = c.turn.ensures.carried in as_turned _ _ _ _ c.turn.result _ _ came sent consumed appended left c.turn.ensures.codec
