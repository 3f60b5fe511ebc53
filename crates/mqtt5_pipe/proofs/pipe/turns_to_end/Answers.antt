use Rattle.std.proofs.Common.{[], ◌++◌, refl, ◌∙◌}
use Rattle.std.proofs.lemmas.Result.{err_from_is_err_and}
use Rattle.std.proofs.KnownBytes.{Appends-nil, Appends-trans, Consumes-nil, Consumes-trans}
use Rattle.mqtt5_pipe.proofs.Joined.{at_start, turn_runs, turn_stops}
use Rattle.mqtt5_pipe.proofs.pipe.turns_to_end.Goals as goal

pub loop-init : goal.loop-init
loop-init g c = record { codec = refl; over = refl; carried = ([], [], Consumes-nil _, Appends-nil _, at_start c.args.client.now c.args.at c.args.client.now.input refl c.requires.ready) }

pub returns-in_err-turn_once-clause-carried : goal.returns-in_err-turn_once-clause-carried
returns-in_err-turn_once-clause-carried g c =
    let (came, sent, consumed, appended, ran) = c.loop.invariant.carried in
    let (came', sent', consumed', appended', left, none) = c.in_err-turn_once.ensures.carried in
    let p = err_from_is_err_and c.from_residual.result c.from_residual.ensures.1 in (
      came ++ came',
      sent ++ sent',
      Consumes-trans _ _ _ came came' consumed consumed',
      Appends-trans _ _ _ sent sent' appended appended',
      rw (p.1, p.2) (turn_stops c.args.client.now c.loop.client c.turn_once.new.client c.args.at came came' sent sent' ran c.loop.invariant.codec _ left),
    )

pub returns-then-branch-eq0-clause-carried : goal.returns-then-branch-eq0-clause-carried
returns-then-branch-eq0-clause-carried g c =
    let (came, sent, consumed, appended, ran) = c.loop.invariant.carried in
    let (came', sent', consumed', appended', left, count) = c.in_ok-turn_once.ensures.carried in (
      came ++ came',
      sent ++ sent',
      Consumes-trans _ _ _ came came' consumed consumed',
      Appends-trans _ _ _ sent sent' appended appended',
      (turn_runs c.args.client.now c.loop.client c.turn_once.new.client c.args.at came came' sent sent' ran c.loop.invariant.codec left.0, left.1),
    )

pub loop-preserved : goal.loop-preserved
loop-preserved g c =
    let (came, sent, consumed, appended, ran) = c.loop.invariant.carried in
    let (came', sent', consumed', appended', left, count) = c.in_ok-turn_once.ensures.carried in
    record {
      codec = c.turn_once.ensures.codec ∙ c.loop.invariant.codec;
      over = c.turn_once.ensures.over ∙ c.loop.invariant.over;
      carried = (
        came ++ came',
        sent ++ sent',
        Consumes-trans _ _ _ came came' consumed consumed',
        Appends-trans _ _ _ sent sent' appended appended',
        turn_runs c.args.client.now c.loop.client c.turn_once.new.client c.args.at came came' sent sent' ran c.loop.invariant.codec left.0,
      );
    }
