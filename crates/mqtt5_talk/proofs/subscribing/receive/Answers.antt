use Rattle.std.proofs.Common.{◌≡◌, [], ◌++◌, ◌+◌, refl, arith, subst, ℕ}
use Rattle.std.proofs.lemmas.Result.{err_from_is_err_and}
use Rattle.mqtt5_talk.specs.Answers.{acks_of, ShowsAll}
use Rattle.mqtt5_talk.proofs.Showing.{more_talked, shows_append, showed_append}
use Rattle.mqtt5_talk.proofs.Talking.{no_talk, then_silent}
use Rattle.mqtt5_talk.proofs.subscribing.receive.Goals as goal

pub loop-init : goal.loop-init
loop-init g c = record { ready = c.requires.ready; shown = ([], 0, no_talk _ _ _, (refl, refl), omega arith) }

pub returns-in_err-left-clause-talked : goal.returns-in_err-left-clause-talked
returns-in_err-left-clause-talked g c =
    let (ps, n, talked, shows, count) = c.loop.invariant.shown in
    let (qs, told, showed, shown) = c.show_events.ensures.told in
    let p = err_from_is_err_and c.from_residual.result c.from_residual.ensures.1 in
    (ps ++ qs, more_talked _ _ _ _ _ _ _ _ ps qs talked told, showed_append g.S.Screen.shows _ _ ps qs n shows showed, rw p.1 tt)

pub returns-then-left-eq0-clause-talked : goal.returns-then-left-eq0-clause-talked
returns-then-left-eq0-clause-talked g c =
    let (ps, n, talked, shows, count) = c.loop.invariant.shown in
    let (qs, told, showed, (m, more, both)) = c.in_ok-left.ensures.told in
    let all = shows_append g.S.Screen.shows _ _ _ ps qs n m shows more in
    let e : n + m ≡ c.args.count = omega (arith, count, both, c.if-left-eq0.true) in (
      ps ++ qs,
      more_talked _ _ _ _ _ _ _ _ ps qs talked told,
      showed_append g.S.Screen.shows _ _ ps qs n shows showed,
      subst (λ (k : ℕ). ShowsAll g.S.Screen.shows c.args.screen.now (ps ++ qs) k c.show_events.new.screen) e all,
    )

pub returns-in_err-hear_messages-clause-talked : goal.returns-in_err-hear_messages-clause-talked
returns-in_err-hear_messages-clause-talked g c =
    let (ps, n, talked, shows, count) = c.loop.invariant.shown in
    let (qs, told, showed, (m, more, both)) = c.in_ok-left.ensures.told in
    let p = err_from_is_err_and c.from_residual-in_err-hear_messages.result c.from_residual-in_err-hear_messages.ensures.1 in (
      ps ++ qs,
      then_silent _ _ _ _ _ _ _ _ _ (acks_of (ps ++ qs)) (more_talked _ _ _ _ _ _ _ _ ps qs talked told) c.hear_messages.ensures.talked,
      showed_append g.S.Screen.shows _ _ ps qs n shows showed,
      rw p.1 tt,
    )

pub loop-preserved : goal.loop-preserved
loop-preserved g c =
    let (ps, n, talked, shows, count) = c.loop.invariant.shown in
    let (qs, told, showed, (m, more, both)) = c.in_ok-left.ensures.told in
    record {
      ready = c.in_ok-hear_messages.ensures.ready;
      shown = (
        ps ++ qs,
        n + m,
        then_silent _ _ _ _ _ _ _ _ _ (acks_of (ps ++ qs)) (more_talked _ _ _ _ _ _ _ _ ps qs talked told) c.hear_messages.ensures.talked,
        rw (c.in_ok-hear_messages.ensures.screen) (shows_append g.S.Screen.shows _ _ _ ps qs n m shows more),
        omega (arith, count, both),
      );
    }
