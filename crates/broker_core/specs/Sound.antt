-- This file serves the logic alone: the derived `==` of a broker's errors finds equal values alone.
use Rattle.std.proofs.Common.{rules}
use Rattle.mqtt5_base.specs.Sound.{Sound, number_sound}
use Rattle.mqtt5_base.specs.Variants.{enum_sound, no_field, one_field}
use Rattle.mqtt5_base.specs.ErrorSound.{error_sound}
use Rattle.broker_core.specs.contracts.error.BrokerError.{enum}
use Rattle.broker_core.specs.contracts.error.BrokerErrorPartialEq.TheImpl as error

pub broker_error_sound : Sound error.eq-value.it
broker_error_sound =
    enum_sound enum _ (search (rules, no_field, one_field number_sound, one_field error_sound))
