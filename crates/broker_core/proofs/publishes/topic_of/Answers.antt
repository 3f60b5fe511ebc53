use Rattle.std.proofs.Common.{sym, subst, ap, ◌∙◌, true, ◌≡◌}
use Rattle.std.specs.Str.{IsUtf8}
use Rattle.broker_core.specs.Clients.{is_topic_text, is_offered}
use Rattle.broker_core.proofs.Routable.{routable, no_text}
use Rattle.broker_core.proofs.publishes.topic_of.Goals as goal

pub returns-then-is_topic-clause-ok : goal.returns-then-is_topic-clause-ok
returns-then-is_topic-clause-ok c =
    let offered = sym c.is_offered.ensures ∙ c.if-not-is_offered.false in
    let e = c.in-Ok.ensures.cases.0 ∙ c.as_slice.ensures in
    (routable c.args.publish.now offered (subst IsUtf8 c.as_slice.ensures c.in-Ok.ensures.cases.1) (ap is_topic_text (sym e) ∙ sym c.is_topic.ensures ∙ c.if-is_topic.true), e)

pub returns-in-Err-clause-err : goal.returns-in-Err-clause-err
returns-in-Err-clause-err c =
    let offered = sym c.is_offered.ensures ∙ c.if-not-is_offered.false in
    no_text c.args.publish.now offered (λ text. c.in-Err.ensures.cases.0 (subst IsUtf8 (sym c.as_slice.ensures) text))
