-- Properties of a table in parts can be written where each part's can.
use Rattle.std.specs.Prelude.{◌&&◌}
use Rattle.std.proofs.Common.{◌≡◌, Bool, true, false, List, [], ◌∷◌, ◌++◌, length, refl, ap, ◌∙◌, arith}
use Rattle.mqtt5_base.specs.Grammar.{Entry, Found, kinds, entry_of}
use Rattle.mqtt5_base.specs.Layout.{all_fit_by, items_fit}
use Rattle.mqtt5_control.specs.declared.connack.ConnAckProperties.{ConnAckProperties}
use Rattle.mqtt5_control.specs.Rows.{connack_table}
use Rattle.mqtt5_control.specs.ConnAcks.{connack_found}
use Rattle.mqtt5_control.specs.Thirds.{connack_first_table, connack_second_table, connack_third_table, connack_first, connack_second, connack_third}

-- a test within a test
regrouped : (a b c : Bool) → (a && (b && c)) ≡ ((a && b) && c)
regrouped true b c = refl
regrouped false b c = refl

-- two parts
fit_parts : (t u : List Entry) (f g : Found) → length t ≡ length f → items_fit (t ++ u) (f ++ g) ≡ (items_fit t f && items_fit u g)
fit_parts [] u [] g l = refl
fit_parts [] u (here ∷ f) g l = absurd (omega (arith, l))
fit_parts (e ∷ t) u [] g l = absurd (omega (arith, l))
fit_parts (e ∷ t) u (here ∷ f) g l =
    let one = all_fit_by (entry_of kinds e.id) here in
    ap (λ (b : Bool). one && b) (fit_parts t u f g (omega (arith, l))) ∙ regrouped one (items_fit t f) (items_fit u g)

-- The properties of a ConnAck can be written where each third can.
pub connack_fits : (s : ConnAckProperties) → items_fit connack_table (connack_found s)
    ≡ (items_fit connack_first_table (connack_first s) && (items_fit connack_second_table (connack_second s) && items_fit connack_third_table (connack_third s)))
connack_fits s =
    fit_parts connack_first_table (connack_second_table ++ connack_third_table) (connack_first s) (connack_second s ++ connack_third s) refl
    ∙ ap (λ (b : Bool). items_fit connack_first_table (connack_first s) && b) (fit_parts connack_second_table connack_third_table (connack_second s) (connack_third s) refl)

-- all of three tests
pub of_three : (a b c : Bool) → ((a && b) && c) ≡ (a && (b && c))
of_three true true c = refl
of_three true false c = refl
of_three false b c = refl
