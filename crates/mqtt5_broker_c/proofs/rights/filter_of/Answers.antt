use Rattle.std.proofs.Common.{sym, ap, ◌∙◌, ◌&&◌}
use Rattle.std.specs.Str.{is_utf8}
use Rattle.std.proofs.lemmas.Bool.{false_from_ne_true}
use Rattle.std.proofs.lemmas.Str.{is_utf8-from_IsUtf8, IsUtf8-from_is_utf8}
use Rattle.mqtt5_base.specs.Topics.{is_valid_filter}
use Rattle.mqtt5_broker_c.proofs.rights.filter_of.Goals as goal

pub returns-then-valid_filter-clause-some : goal.returns-then-valid_filter-clause-some
returns-then-valid_filter-clause-some c =
    let t = c.args.bytes.now in
    sym c.if-valid_filter.true ∙ c.valid_filter.ensures ∙ ap is_valid_filter c.in-Ok.ensures.cases.0
    ∙ sym (ap (λ u. u && is_valid_filter t) (is_utf8-from_IsUtf8 t c.in-Ok.ensures.cases.1))

pub returns-in-Err-clause-some : goal.returns-in-Err-clause-some
returns-in-Err-clause-some c =
    let t = c.args.bytes.now in
    sym (ap (λ u. u && is_valid_filter t) (false_from_ne_true (is_utf8 t) (λ h. c.in-Err.ensures.cases.0 (IsUtf8-from_is_utf8 t h))))
