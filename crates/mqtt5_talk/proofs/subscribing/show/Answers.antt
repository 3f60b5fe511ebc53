use Rattle.std.proofs.Common.{[], ◌∷◌, refl}
use Rattle.std.proofs.lemmas.Result.{err_from_is_err_and}
use Rattle.mqtt5_talk.proofs.Showing.{one_acked, shows_one}
use Rattle.mqtt5_talk.proofs.Talking.{nothing_told}
use Rattle.mqtt5_talk.proofs.subscribing.show.Goals as goal

pub returns-in_err-is_shown-clause-told : goal.returns-in_err-is_shown-clause-told
returns-in_err-is_shown-clause-told g c =
    let p = err_from_is_err_and c.from_residual.result c.from_residual.ensures.1 in ([], nothing_told _ _, (0, _, (refl, refl)), rw p.1 tt)

pub returns-in_err-acknowledge-clause-told : goal.returns-in_err-acknowledge-clause-told
returns-in_err-acknowledge-clause-told g c =
    let p = err_from_is_err_and c.from_residual-in_err-acknowledge.result c.from_residual-in_err-acknowledge.ensures.1 in
    let one = shows_one g.S.Screen.shows _ _ c.args.publish.now _ c.in_ok-is_shown.ensures in
    (c.args.publish.now ∷ [], one_acked _ _ _ _ c.args.publish.now c.acknowledge.ensures.told, (_, _, one), rw p.1 tt)

pub returns-clause-told : goal.returns-clause-told
returns-clause-told g c =
    let one = shows_one g.S.Screen.shows _ _ c.args.publish.now _ c.in_ok-is_shown.ensures in
    (c.args.publish.now ∷ [], one_acked _ _ _ _ c.args.publish.now c.acknowledge.ensures.told, (_, _, one), (_, one, refl))
