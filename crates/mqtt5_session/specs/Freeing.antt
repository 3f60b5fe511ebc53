-- This file serves the logic alone: the publish that waits; what is left where an id is made free,
-- and what is sent then.
use Rattle.std.specs.Prelude.{◌≢◌, ℕ, Option, Some, None, ◌==◌, if◌then◌else◌}
use Rattle.std.specs.FinMap as map
use Rattle.mqtt5_base.specs.declared.quality.QoS.TheVariants.{AtMostOnce}
use Rattle.mqtt5_publish.specs.declared.publish.Publish.{Publish}
use Rattle.mqtt5_inflight.specs.declared.slot.Slot.TheVariants.{Sent}
use Rattle.mqtt5_inflight.specs.InUse.{InUse}

-- what waits has a QoS of 1 or 2
abbrev pub IsCounted : Option Publish → Type 0
IsCounted None = Unit {0}
IsCounted (Some p) = p.qos ≢ AtMostOnce

-- the publish that is sent then
abbrev pub sent_for : Option Publish → ℕ → Option Publish
sent_for None id = None
sent_for (Some p) id = if p.pkid == id then Some p else None

-- the ids in use then
abbrev pub in_use_after : Option Publish → InUse → ℕ → InUse
in_use_after None in_use id = map.remove in_use id
in_use_after (Some p) in_use id =
    if p.pkid == id then map.insert in_use id (Sent p) else map.remove in_use id

-- the publish that waits then
abbrev pub waiting_after : Option Publish → ℕ → Option Publish
waiting_after None id = None
waiting_after (Some p) id = if p.pkid == id then None else Some p
