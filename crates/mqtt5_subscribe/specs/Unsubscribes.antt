-- An Unsubscribe as the values of its row (MQTT 5.0 section 3.10).
use Rattle.std.specs.Prelude.{[], ◌∷◌, map, option_map}
use Rattle.mqtt5_base.specs.Texts.{Utf8}
use Rattle.mqtt5_base.specs.Grammar.{Found, plain}
use Rattle.mqtt5_base.specs.Views.{pairs, text_atom}
use Rattle.mqtt5_base.specs.Layout.{Written, just, WrittenPacket}
use Rattle.mqtt5_subscribe.specs.declared.unsubscribe.UnsubscribeProperties.{UnsubscribeProperties}
use Rattle.mqtt5_subscribe.specs.declared.unsubscribe.Unsubscribe.{Unsubscribe}
use Rattle.mqtt5_subscribe.specs.Lists.{listed_packet}

-- a filter (3.10.3)
abbrev pub path_written : Utf8 → Written
path_written t = just (plain (text_atom t) ∷ [])

-- the set without values (3.10.2.1)
abbrev pub no_unsubscribe_properties : UnsubscribeProperties
no_unsubscribe_properties = record { user_properties = [] }

-- the values of the properties (3.10.2.1)
abbrev pub unsubscribe_found : UnsubscribeProperties → Found
unsubscribe_found s = pairs s.user_properties ∷ []

-- an Unsubscribe as it is written; the first byte has a flag that is always set (3.10.1)
abbrev pub unsubscribe_packet : Unsubscribe → WrittenPacket
unsubscribe_packet p =
    listed_packet 162 p.pkid (option_map unsubscribe_found p.properties)
    (map path_written p.filters)
