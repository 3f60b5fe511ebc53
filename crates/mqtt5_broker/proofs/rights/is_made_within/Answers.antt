use Rattle.std.proofs.Common.{sym, ap, ◌∙◌}
use Rattle.std.specs.Str.{is_utf8}
use Rattle.std.proofs.lemmas.Bool.{false_from_ne_true}
use Rattle.std.proofs.lemmas.Str.{is_utf8-from_IsUtf8, IsUtf8-from_is_utf8}
use Rattle.mqtt5_broker.specs.Rights.{is_within}
use Rattle.mqtt5_broker.proofs.Names.{bytes_back, none_back}
use Rattle.mqtt5_broker.proofs.rights.is_made_within.Goals as goal

pub returns-in-Ok : goal.returns-in-Ok
returns-in-Ok c =
    let t = c.args.bytes.now in
    let fs = c.args.filters.now in
    c.is_within.ensures ∙ ap (λ u. is_within u fs) (c.in-Ok.ensures.cases.0 ∙ sym (bytes_back t (is_utf8-from_IsUtf8 t c.in-Ok.ensures.cases.1)))

pub returns-in-Err : goal.returns-in-Err
returns-in-Err c =
    let t = c.args.bytes.now in
    let fs = c.args.filters.now in
    c.is_within-in-Err.ensures ∙ ap (λ u. is_within u fs) (sym (none_back t (false_from_ne_true (is_utf8 t) (λ h. c.in-Err.ensures.cases.0 (IsUtf8-from_is_utf8 t h)))))
