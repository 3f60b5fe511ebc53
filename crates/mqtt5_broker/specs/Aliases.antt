-- Topic aliases of clients (MQTT 5.0 section 3.3.2.3.4).
use Rattle.std.specs.Prelude.{ℕ, ◌==◌, nat_lt, ◌||◌, List, Option, Some, None, option_map, if◌then◌else◌}
use Rattle.mqtt5_publish.specs.declared.publish.Publish.{Publish}
use Rattle.mqtt5_publish.specs.declared.publish.PublishProperties.{PublishProperties}
use Rattle.mqtt5_codec.specs.declared.packet.Packet.{Packet}
use Rattle.mqtt5_codec.specs.declared.packet.Packet.TheVariants as packets
use Rattle.mqtt5_inflight.specs.Aliases.{alias_of}

-- an alias, where it is one of those from 1 to the greatest that is taken (3.2.2.3.8)
abbrev pub up_to : ℕ → Option ℕ → Option ℕ
up_to most None = None
up_to most (Some a) = if a == 0 || nat_lt most a then None else Some a

-- the one that a packet uses
abbrev pub alias_used : ℕ → Packet → Option ℕ
alias_used most (packets.Publish p) = up_to most (alias_of p)
alias_used most other = None

-- a publish without its alias
abbrev pub no_alias : PublishProperties → PublishProperties
no_alias set = record set { topic_alias = None }

abbrev pub unaliased : Publish → Publish
unaliased p = record p { properties = option_map no_alias p.properties }

-- which has the topic that the alias stands for
abbrev pub named : List ℕ → Publish → Publish
named t p = unaliased (record p { topic = t })
