-- Topic aliases of publishes (MQTT 5.0 section 3.3.2.3.4).
use Rattle.std.specs.Prelude.{ℕ, Option, Some, None, nat_lt, if◌then◌else◌}
use Rattle.mqtt5_publish.specs.declared.publish.Publish.{Publish}
use Rattle.mqtt5_publish.specs.declared.publish.PublishProperties.{PublishProperties}

-- the topic alias among the properties (3.3.2.3.4)
abbrev pub alias_in : Option PublishProperties → Option ℕ
alias_in None = None
alias_in (Some set) = set.topic_alias

-- the topic alias of a publish (3.3.2.3.4)
abbrev pub alias_of : Publish → Option ℕ
alias_of p = alias_in p.properties

-- an alias above the broker's maximum (3.2.2.3.8)
abbrev pub alias_over : ℕ → Option ℕ → Option ℕ
alias_over max None = None
alias_over max (Some alias) = if nat_lt max alias then Some alias else None
