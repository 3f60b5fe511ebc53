-- The will and the login can be written where both can.
use Rattle.std.proofs.Common.{◌&&◌, ◌≡◌, true, [], ◌∷◌, Option}
use Rattle.mqtt5_base.specs.Layout.{part_fits, parts_fit}
use Rattle.mqtt5_base.proofs.KindsAgain.{both_hold}
use Rattle.mqtt5_connect.specs.Rows.{will_part, login_part, connect_parts}
use Rattle.mqtt5_connect.specs.Connects.{will_group, login_group}
use Rattle.mqtt5_connect.specs.declared.will.LastWill.{LastWill}
use Rattle.mqtt5_connect.specs.declared.login.Login.{Login}

-- The will can be written, and so can the login.
pub each_fits : (will : Option LastWill) (login : Option Login) → parts_fit connect_parts (will_group will ∷ login_group login ∷ []) ≡ true → (part_fits (will_part 2) (will_group will) ≡ true) × (part_fits (login_part 2) (login_group login) ≡ true)
each_fits will login h =
    let f = both_hold (part_fits (will_part 2) (will_group will)) (part_fits (login_part 2) (login_group login) && true) h in
    (f.0, (both_hold (part_fits (login_part 2) (login_group login)) true f.1).0)
