-- The properties of the packets that acknowledge others (MQTT 5.0 sections 3.4.2.2, 3.5.2.2,
-- 3.6.2.2, 3.7.2.2, 3.9.2.1 and 3.11.2.1).
use Rattle.std.specs.Prelude.{List, [], ◌∷◌, None}
use Rattle.mqtt5_base.specs.declared.ack_properties.AckProperties.{AckProperties}
use Rattle.mqtt5_base.specs.Grammar.{Entry, single, several_of, Found}
use Rattle.mqtt5_base.specs.Views.{texts, pairs}

-- a reason string and user properties, in the order of writing
abbrev pub ack_table : List Entry
ack_table = single 31 ∷ several_of 38 ∷ []

-- the set without values
abbrev pub no_ack_properties : AckProperties
no_ack_properties = record { reason_string = None; user_properties = [] }

-- their values
abbrev pub ack_found : AckProperties → Found
ack_found s = texts s.reason_string ∷ pairs s.user_properties ∷ []
