use Rattle.std.proofs.Common.{All, List, refl, subst}
use Rattle.std.proofs.lemmas.List.Elements.{All-more}
use Rattle.std.proofs.lemmas.List.{take_all}
use Rattle.mqtt5_subscribe.specs.declared.suback.SubscribeReasonCode.{SubscribeReasonCode}
use Rattle.mqtt5_talk.specs.Answers.{IsSuccess}
use Rattle.mqtt5_talk.proofs.subscribing.first_refusal.Goals as goal

pub loop-code-preserved : goal.loop-code-preserved
loop-code-preserved c = All-more IsSuccess c.args.codes.now c.loop-code.code-index _ c.loop-code-test.true c.loop-code.invariant (c.if-not-is_success.ensures.0 refl)

pub returns : goal.returns
returns c = subst (λ (l : List SubscribeReasonCode). All IsSuccess l) (take_all c.loop-code.code-index c.args.codes.now c.loop-code-test.false) c.loop-code.invariant
