use Rattle.std.proofs.Common.{[], ◌++◌, ◌+◌, refl, arith}
use Rattle.std.proofs.lemmas.Result.{err_from_is_err_and}
use Rattle.mqtt5_talk.proofs.Showing.{more_told, shows_append, showed_append}
use Rattle.mqtt5_talk.proofs.Talking.{nothing_told}
use Rattle.mqtt5_talk.proofs.subscribing.show_events.Goals as goal

pub loop-init : goal.loop-init
loop-init g c = record { ready = c.requires.ready; shown = ([], 0, nothing_told _ _, (refl, refl), omega arith) }

pub returns-in_err-left-clause-told : goal.returns-in_err-left-clause-told
returns-in_err-left-clause-told g c =
    let (ps, n, told, shows, count) = c.loop.invariant.shown in
    let (qs, more, showed, shown) = c.take_first.ensures.told in
    let p = err_from_is_err_and c.from_residual.result c.from_residual.ensures.1 in
    (ps ++ qs, more_told _ _ _ _ _ _ ps qs told more, showed_append g.S.Screen.shows _ _ ps qs n shows showed, rw p.1 tt)

pub loop-preserved : goal.loop-preserved
loop-preserved g c =
    let (ps, n, told, shows, count) = c.loop.invariant.shown in
    let (qs, more, showed, (m, given, both)) = c.in_ok-left.ensures.told in
    record {
      ready = c.in_ok-left.ensures.ready;
      shown = (
        ps ++ qs,
        n + m,
        more_told _ _ _ _ _ _ ps qs told more,
        shows_append g.S.Screen.shows _ _ _ ps qs n m shows given,
        omega (arith, count, both, c.in_ok-left.ensures.most, c.if-left-eq0.false),
      );
    }
