use Rattle.std.proofs.Common.{cond, sym, ap, ◌∙◌}
use Rattle.std.specs.Str.{is_utf8}
use Rattle.std.proofs.lemmas.Bool.{false_from_ne_true}
use Rattle.std.proofs.lemmas.Str.{is_utf8-from_IsUtf8, IsUtf8-from_is_utf8}
use Rattle.mqtt5_broker.specs.Groups.{rotated_for, turned_for}
use Rattle.mqtt5_broker.proofs.groups.turn_to.Goals as goal

pub returns-in-Ok-clause-groups : goal.returns-in-Ok-clause-groups
returns-in-Ok-clause-groups c =
    let t = c.args.topic.now in
    let gs = c.args.groups.now in
    let s = c.args.sessions.now in
    c.turn_text.ensures.groups ∙ ap (λ u. rotated_for u gs s) c.in-Ok.ensures.cases.0 ∙ sym (ap (λ v. cond v (rotated_for t gs s) gs) (is_utf8-from_IsUtf8 t c.in-Ok.ensures.cases.1))

pub returns-in-Ok-clause-sessions : goal.returns-in-Ok-clause-sessions
returns-in-Ok-clause-sessions c =
    let t = c.args.topic.now in
    let gs = c.args.groups.now in
    let s = c.args.sessions.now in
    c.turn_text.ensures.sessions ∙ ap (λ u. turned_for u gs s) c.in-Ok.ensures.cases.0 ∙ sym (ap (λ v. cond v (turned_for t gs s) s) (is_utf8-from_IsUtf8 t c.in-Ok.ensures.cases.1))

pub returns-in-Err-clause-groups : goal.returns-in-Err-clause-groups
returns-in-Err-clause-groups c =
    let t = c.args.topic.now in
    let gs = c.args.groups.now in
    let s = c.args.sessions.now in
    sym (ap (λ v. cond v (rotated_for t gs s) gs) (false_from_ne_true (is_utf8 t) (λ h. c.in-Err.ensures.cases.0 (IsUtf8-from_is_utf8 t h))))

pub returns-in-Err-clause-sessions : goal.returns-in-Err-clause-sessions
returns-in-Err-clause-sessions c =
    let t = c.args.topic.now in
    let gs = c.args.groups.now in
    let s = c.args.sessions.now in
    sym (ap (λ v. cond v (turned_for t gs s) s) (false_from_ne_true (is_utf8 t) (λ h. c.in-Err.ensures.cases.0 (IsUtf8-from_is_utf8 t h))))
