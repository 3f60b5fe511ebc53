use Rattle.std.proofs.Common.{inl, inr, refl, sym, ◌∙◌}
use Rattle.mqtt5_c.proofs.CallLemmas.{declined}
use Rattle.mqtt5_c.proofs.ask.publish_with.Goals as goal

pub returns-in-Err-clause-err : goal.returns-in-Err-clause-err
returns-in-Err-clause-err c = declined (λ bad. inr (inl bad)) c.in-Err.ensures.err

pub returns-then-lacks_topic-clause-err : goal.returns-then-lacks_topic-clause-err
returns-then-lacks_topic-clause-err c = inl (inr (inr (c.in-Ok.set, c.in-Ok.ensures.ok, sym c.lacks_topic.ensures ∙ c.if-lacks_topic.true)), refl)

pub returns-in-Err-publish_of-clause-err : goal.returns-in-Err-publish_of-clause-err
returns-in-Err-publish_of-clause-err c = declined (λ bad. inl bad) c.in-Err-publish_of.ensures.err
