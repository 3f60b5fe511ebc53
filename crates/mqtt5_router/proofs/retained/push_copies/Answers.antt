use Rattle.std.proofs.Common.{List, ◌++◌, ap, ◌∙◌, arith}
use Rattle.std.specs.Option.{option_to_list}
use Rattle.mqtt5_publish.specs.declared.publish.Publish.{Publish}
use Rattle.mqtt5_network.specs.Retained.{copy_for}
use Rattle.mqtt5_router.proofs.Copying.{copies_next}
use Rattle.mqtt5_router.proofs.retained.push_copies.Goals as goal

pub loop-i-preserved : goal.loop-i-preserved
loop-i-preserved c =
    let s = c.args.subscription.now in
    let x : Publish = c.index-retained-i.result in
    c.in_ok-push_copy.ensures
    ∙ ap (λ (ps : List Publish). ps ++ option_to_list (copy_for s x)) c.loop-i.invariant
    ∙ copies_next s c.args.all.now.items c.args.retained.now c.loop-i.i x (omega (arith, c.loop-i-test.true)) c.index-retained-i.is
