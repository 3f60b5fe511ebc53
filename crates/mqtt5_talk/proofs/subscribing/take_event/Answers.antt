use Rattle.std.proofs.Common.{[], refl}
use Rattle.mqtt5_talk.proofs.Showing.{shows_none}
use Rattle.mqtt5_talk.proofs.Talking.{nothing_told}
use Rattle.mqtt5_talk.proofs.subscribing.take_event.Goals as goal

pub returns-in-Incoming-SubAck-clause-told : goal.returns-in-Incoming-SubAck-clause-told
returns-in-Incoming-SubAck-clause-told g c =
    ([], nothing_told _ _, (0, _, (refl, refl)), shows_none g.S.Screen.shows _ c.judge.result c.judge.ensures.none)

pub returns-in-Incoming-UnsubAck-clause-told : goal.returns-in-Incoming-UnsubAck-clause-told
returns-in-Incoming-UnsubAck-clause-told g c =
    ([], nothing_told _ _, (0, _, (refl, refl)), shows_none g.S.Screen.shows _ c.judge_end.result c.judge_end.ensures.none)

pub returns-in-Incoming-Auth-clause-told : goal.returns-in-Incoming-Auth-clause-told
returns-in-Incoming-Auth-clause-told g c =
    ([], nothing_told _ _, (0, _, (refl, refl)), shows_none g.S.Screen.shows _ c.refuse_auth.result c.refuse_auth.ensures.none)

pub returns-in_default-clause-told : goal.returns-in_default-clause-told
returns-in_default-clause-told g c = ([], nothing_told _ _, (0, _, (refl, refl)), (0, (refl, refl), refl))
