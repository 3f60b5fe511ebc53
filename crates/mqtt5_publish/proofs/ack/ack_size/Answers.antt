use Rattle.std.proofs.Common.{◌∙◌, ap, sym, option_map, min, length, List, ℕ}
use Rattle.mqtt5_base.specs.Layout.{frame_of}
use Rattle.mqtt5_publish.specs.AckBody.{ack_body}
use Rattle.mqtt5_publish.proofs.AckLemmas.{ack_written}
use Rattle.mqtt5_publish.proofs.ack.ack_size.Goals as goal

pub returns : goal.returns
returns g c = λ first id.
    let p = option_map g.P.PropertySet.found c.args.properties.now in
    c.frame_size.ensures first (ack_body g.P.PropertySet.table id (g.R.Reason.code c.args.reason) p) c.body_len.ensures
    ∙ ap (λ (b : List ℕ). min (length (frame_of first b)) 18446744073709551615) (sym (ack_written g.R.Reason.codes g.P.PropertySet.table first id (g.R.Reason.code c.args.reason) p))
