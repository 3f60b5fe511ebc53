use Rattle.std.proofs.Common.{All, List, refl, subst}
use Rattle.std.proofs.lemmas.List.Elements.{All-more}
use Rattle.std.proofs.lemmas.List.{take_all}
use Rattle.mqtt5_subscribe.specs.declared.unsuback.UnsubAckReason.{UnsubAckReason}
use Rattle.mqtt5_talk.specs.Answers.{IsEnded}
use Rattle.mqtt5_talk.proofs.subscribing.first_left.Goals as goal

pub loop-reason-preserved : goal.loop-reason-preserved
loop-reason-preserved c = All-more IsEnded c.args.reasons.now c.loop-reason.reason-index _ c.loop-reason-test.true c.loop-reason.invariant (c.if-not-is_ended.ensures.0 refl)

pub returns : goal.returns
returns c = subst (λ (l : List UnsubAckReason). All IsEnded l) (take_all c.loop-reason.reason-index c.args.reasons.now c.loop-reason-test.false) c.loop-reason.invariant
