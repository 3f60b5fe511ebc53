use Rattle.std.proofs.Common.{sym, ap, ◌∙◌, subst}
use Rattle.std.specs.Str.{IsUtf8, is_utf8}
use Rattle.std.proofs.lemmas.Bool.{false_from_ne_true}
use Rattle.std.proofs.lemmas.Str.{is_utf8-from_IsUtf8, IsUtf8-from_is_utf8}
use Rattle.mqtt5_router.specs.Topics.{granted_to}
use Rattle.mqtt5_router.proofs.Passing.{granted_text, granted_never}
use Rattle.mqtt5_router.proofs.subscriptions.granted_for.Goals as goal

pub returns-in-Ok : goal.returns-in-Ok
returns-in-Ok c =
    let e = c.as_slice.ensures in
    let topic = c.args.publish.now.topic in
    c.granted_to.ensures
    ∙ ap (granted_to c.args.own c.args.subscriptions.now) (c.in-Ok.ensures.cases.0 ∙ e)
    ∙ sym (granted_text c.args.own c.args.subscriptions.now c.args.publish.now (is_utf8-from_IsUtf8 topic (subst IsUtf8 e c.in-Ok.ensures.cases.1)))

pub returns-in-Err : goal.returns-in-Err
returns-in-Err c =
    let topic = c.args.publish.now.topic in
    sym (granted_never c.args.own c.args.subscriptions.now c.args.publish.now
    (false_from_ne_true (is_utf8 topic) (λ t. c.in-Err.ensures.cases.0 (subst IsUtf8 (sym c.as_slice.ensures) (IsUtf8-from_is_utf8 topic t)))))
