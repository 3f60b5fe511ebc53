use Rattle.std.proofs.Common.{◌≡◌, true, false, sym, ap, ◌∙◌, subst}
use Rattle.mqtt5_base.specs.Grammar.{is_among}
use Rattle.mqtt5_sessions.specs.Indexed.{mark_in, marks_in}
use Rattle.mqtt5_sessions.proofs.Indexed.{without_mark, kept_mark, left_marks, mark_there}
use Rattle.mqtt5_sessions.proofs.marks.unheld.Goals as goal

pub loop-subscription-preserved : goal.loop-subscription-preserved
loop-subscription-preserved c =
    let ss = c.args.subscriptions.now in
    let i = c.loop-subscription.subscription-index in
    let s = c.subscription-item.result in
    let k = c.mark_in.result in
    let ms = c.loop-subscription.left.items in
    let within = c.loop-subscription-test.true in
    let here = ap mark_in (sym c.subscription-item.is) ∙ sym c.mark_in.ensures in
    record {
      held =
          λ m h.
          let w = without_mark k ms m (subst (λ ms. is_among ms m ≡ true) c.without.ensures h) in
          c.loop-subscription.invariant.held m w.0 ∙ left_marks ss i s m within (λ e. w.1 (e ∙ here));
      rest =
          λ m h free.
          subst (λ ms. is_among ms m ≡ true) (sym c.without.ensures)
          (kept_mark k ms m (c.loop-subscription.invariant.rest m h free)
          (λ e. (let no : false ≡ true = sym free ∙ ap (is_among (marks_in ss)) (e ∙ sym here) ∙ mark_there ss i s within in cc)));
    }
