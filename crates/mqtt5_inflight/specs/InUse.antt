-- The packet identifiers in use (MQTT 5.0 sections 2.2.1 and 4.3).
use Rattle.std.specs.Prelude.{◌≡◌, ◌≢◌, ℕ, ◌<◌, ◌≤◌, IsTrue, Bool, true, false, Option, Some, None}
use Rattle.std.specs.Ordering.{nat_cmp}
use Rattle.std.specs.FinMap as map
use Rattle.mqtt5_base.specs.declared.quality.QoS.TheVariants.{AtMostOnce}
use Rattle.mqtt5_publish.specs.declared.publish.Publish.{Publish}
use Rattle.mqtt5_inflight.specs.declared.slot.Slot.{Slot}
use Rattle.mqtt5_inflight.specs.declared.slot.Slot.TheVariants.{Sent, Released}

-- the ids in use, and what is known of each (2.2.1)
abbrev pub InUse : Type 0
InUse = map.FinMap nat_cmp Slot

-- the publish that awaits its ack, where that is what is known (4.3.2, 4.3.3)
abbrev pub awaiting_ack : Option Slot → Option Publish
awaiting_ack (Some (Sent p)) = Some p
awaiting_ack slot = None

-- whether it is known to be released (4.3.3)
abbrev pub is_released : Option Slot → Bool
is_released (Some Released) = true
is_released slot = false

-- a publish that awaits an ack under this id has it as its own id, and a QoS of 1 or 2 (2.2.1)
abbrev pub HasId : ℕ → Slot → Type 0
HasId id (Sent p) = (p.pkid ≡ id) × (p.qos ≢ AtMostOnce)
HasId id Released = Unit {0}

-- the same, where something is known
abbrev pub OwnId : ℕ → Option Slot → Type 0
OwnId id None = Unit {0}
OwnId id (Some slot) = HasId id slot

-- ids in use lie in 1..=limit, and a publish stands under its own id (2.2.1)
pub record IsWithin (limit : ℕ) (in_use : InUse) : Type 0 where
  pub low : (id : ℕ) → IsTrue (map.contains_key in_use id) → 0 < id
  pub high : (id : ℕ) → IsTrue (map.contains_key in_use id) → id ≤ limit
  pub own : (id : ℕ) → OwnId id (map.get in_use id)
