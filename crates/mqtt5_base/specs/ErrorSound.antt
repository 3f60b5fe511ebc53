-- This file serves the logic alone: the derived `==` of errors finds equal values alone.
use Rattle.std.proofs.Common.{rules}
use Rattle.mqtt5_base.specs.Sound.{Sound, number_sound}
use Rattle.mqtt5_base.specs.Variants.{enum_sound, no_field, one_field, two_fields}
use Rattle.mqtt5_base.specs.contracts.error.Error.{enum}
use Rattle.mqtt5_base.specs.contracts.error.ErrorPartialEq.TheImpl as error

pub error_sound : Sound error.eq-value.it
error_sound =
    enum_sound enum _
    (search (rules, no_field, one_field number_sound, two_fields number_sound number_sound))
