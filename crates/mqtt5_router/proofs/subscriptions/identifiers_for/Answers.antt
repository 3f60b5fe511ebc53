use Rattle.std.proofs.Common.{List, ℕ, ◌++◌, ap, ◌∙◌, arith}
use Rattle.mqtt5_network.specs.declared.subscription.Subscription.{Subscription}
use Rattle.mqtt5_router.specs.Topics.{identifier_for}
use Rattle.mqtt5_router.proofs.Holding.{identifiers_next}
use Rattle.mqtt5_router.proofs.subscriptions.identifiers_for.Goals as goal

pub loop-i-preserved : goal.loop-i-preserved
loop-i-preserved c =
    let s : Subscription = c.index-subscriptions-i.result in
    let p = c.args.publish.now in
    c.in_ok-push_identifier.ensures
    ∙ ap (λ (ns : List ℕ). ns ++ identifier_for c.args.own p s) c.loop-i.invariant
    ∙ identifiers_next c.args.own p c.args.subscriptions.now c.loop-i.i s (omega (arith, c.loop-i-test.true)) c.index-subscriptions-i.is
