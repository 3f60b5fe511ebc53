use Rattle.std.proofs.Common.{sym, ap, ◌∙◌, Err}
use Rattle.std.proofs.lemmas.Result.{err_from_is_err_and}
use Rattle.mqtt5_codec.proofs.ReadingLemmas.{no_type}
use Rattle.mqtt5_codec.proofs.codec.read_frame.Goals as goal

pub returns-in_err-packet_type : goal.returns-in_err-packet_type
returns-in_err-packet_type c =
    let p = err_from_is_err_and c.from_residual.result c.from_residual.ensures.1 in
    let none = c.in_err-packet_type.ensures in
    rw (p.1, p.2) (λ memory. no_type _ _ none.0 ∙ ap (λ e. Err e) (sym none.1))
