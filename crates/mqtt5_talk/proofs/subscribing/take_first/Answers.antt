use Rattle.std.proofs.Common.{[], refl}
use Rattle.mqtt5_talk.specs.Answers.{acks_of}
use Rattle.mqtt5_talk.proofs.Talking.{then_told, silent_told, took}
use Rattle.mqtt5_talk.proofs.subscribing.take_first.Goals as goal

pub returns-in-Some-clause-told : goal.returns-in-Some-clause-told
returns-in-Some-clause-told g c =
    let (ps, told, showed, shown) = c.take_event.ensures.told in (
      ps,
      then_told _ _ _ _ _ _ [] (acks_of ps) (silent_told _ _ _ [] (took _ _ c.pop_event.ensures.rest)) told,
      showed,
      shown,
    )

pub returns-in-None-clause-told : goal.returns-in-None-clause-told
returns-in-None-clause-told g c = ([], silent_told _ _ _ [] (took _ _ c.pop_event.ensures.rest), (0, _, (refl, refl)), (0, (refl, refl), refl))
