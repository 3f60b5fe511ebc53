use Rattle.std.proofs.Common.{sym, ap, ◌∙◌, subst}
use Rattle.std.specs.Str.{IsUtf8, is_utf8}
use Rattle.std.proofs.lemmas.Bool.{false_from_ne_true}
use Rattle.std.proofs.lemmas.Str.{is_utf8-from_IsUtf8, IsUtf8-from_is_utf8}
use Rattle.mqtt5_router.specs.Topics.{holds_to}
use Rattle.mqtt5_router.proofs.Passing.{holds_text, holds_never}
use Rattle.mqtt5_router.proofs.subscriptions.holds_for.Goals as goal

pub returns-in-Ok : goal.returns-in-Ok
returns-in-Ok c =
    let e = c.as_slice.ensures in
    let topic = c.args.publish.now.topic in
    let s = c.args.subscription.now in
    c.holds_to.ensures
    ∙ ap (holds_to c.args.own s) (c.in-Ok.ensures.cases.0 ∙ e)
    ∙ sym (holds_text c.args.own s c.args.publish.now (is_utf8-from_IsUtf8 topic (subst IsUtf8 e c.in-Ok.ensures.cases.1)))

pub returns-in-Err : goal.returns-in-Err
returns-in-Err c =
    let topic = c.args.publish.now.topic in
    sym (holds_never c.args.own c.args.subscription.now c.args.publish.now
    (false_from_ne_true (is_utf8 topic) (λ t. c.in-Err.ensures.cases.0 (subst IsUtf8 (sym c.as_slice.ensures) (IsUtf8-from_is_utf8 topic t)))))
