use Rattle.std.proofs.Common.{◌&&◌, sym, ◌∙◌}
use Rattle.mqtt5_control.proofs.ThirdsLemmas.{connack_fits, of_three}
use Rattle.mqtt5_control.proofs.connack.ConnAckPropertiesPropertySet.set_fits.Goals as goal

pub returns : goal.returns
returns c =
    of_three c.first_fit.result c.second_fit.result c.third_fit.result
    ∙ (λ i. c.first_fit.ensures i && (c.second_fit.ensures i && c.third_fit.ensures i))
    ∙ sym (connack_fits c.args.self.now)
