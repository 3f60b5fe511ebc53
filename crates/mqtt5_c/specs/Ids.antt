-- The next packet identifier (MQTT 5.0 section 2.2.1).
use Rattle.std.specs.Prelude.{Bool, is_none}
use Rattle.std.specs.FinMap as map
use Rattle.mqtt5_session.specs.Session.{Core}
use Rattle.mqtt5_session.specs.Requests.{next_id}

-- whether it is free: neither does a publish await its ack under it, nor is it released
abbrev pub is_free : Core → Bool
is_free c = is_none (map.get c.in_use (next_id c))
