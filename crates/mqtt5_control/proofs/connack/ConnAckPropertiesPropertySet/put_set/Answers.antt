use Rattle.std.proofs.Common.{sym, ◌∙◌}
use Rattle.mqtt5_base.specs.Layout.{items_fit}
use Rattle.mqtt5_base.proofs.KindsAgain.{both_hold}
use Rattle.mqtt5_control.specs.Thirds.{connack_first_table, connack_second_table, connack_third_table, connack_first, connack_second, connack_third}
use Rattle.mqtt5_control.proofs.ThirdsLemmas.{connack_fits}
use Rattle.mqtt5_control.proofs.connack.ConnAckPropertiesPropertySet.put_set.Goals as goal

pub put_second-requires-clause-fits : goal.put_second-requires-clause-fits
put_second-requires-clause-fits c =
    let s = c.args.self.now in
    (both_hold (items_fit connack_second_table (connack_second s)) (items_fit connack_third_table (connack_third s)) (both_hold (items_fit connack_first_table (connack_first s)) _ (sym (connack_fits s) ∙ c.requires.fits)).1).0

pub put_third-requires-clause-fits : goal.put_third-requires-clause-fits
put_third-requires-clause-fits c =
    let s = c.args.self.now in
    (both_hold (items_fit connack_second_table (connack_second s)) (items_fit connack_third_table (connack_third s)) (both_hold (items_fit connack_first_table (connack_first s)) _ (sym (connack_fits s) ∙ c.requires.fits)).1).1
