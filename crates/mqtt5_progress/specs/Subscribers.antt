-- What of the publishes that a broker hands on reaches a subscriber, by its topic filters (MQTT 5.0
-- sections 3.3.4 and 4.7).
use Rattle.std.specs.Prelude.{Bool, ◌&&◌, List, filter}
use Rattle.std.specs.List.{list_any}
use Rattle.std.specs.Str.{is_utf8}
use Rattle.mqtt5_base.specs.Texts.{Utf8}
use Rattle.mqtt5_base.specs.Topics.{topic_matches}
use Rattle.mqtt5_publish.specs.declared.publish.Publish.{Publish}

-- whether the topic of a publish, which is text (3.3.2.1), matches one of these filters (4.7)
abbrev pub hits : List Utf8 → Publish → Bool
hits filters p = is_utf8 p.topic && list_any (λ f. topic_matches p.topic f.bytes) filters

-- what reaches a subscriber with these filters: each publish once, however many of them it matches
-- (3.3.4)
abbrev pub received : List Utf8 → List Publish → List Publish
received filters handed = filter (hits filters) handed
