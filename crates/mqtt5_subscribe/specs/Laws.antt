-- What the default of a retain handling option promises (MQTT 5.0 section 3.8.3.1).
use Rattle.std.specs.Prelude.{◌≡◌}
use Rattle.mqtt5_subscribe.specs.declared.filter.RetainForwardRule.{RetainForwardRule}
use Rattle.mqtt5_subscribe.specs.declared.filter.RetainForwardRule.TheVariants.{OnEverySubscribe}
use Rattle.mqtt5_subscribe.specs.contracts.filter.RetainForwardRuleDefault.TheImpl as default

-- where none is said, retained messages are sent on every subscribe
abbrev pub IsDefaultRule : Type 0
IsDefaultRule = (r : RetainForwardRule) → default.is_default-value.it r → r ≡ OnEverySubscribe
