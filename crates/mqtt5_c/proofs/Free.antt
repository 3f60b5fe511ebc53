-- This file serves the logic alone: an id is free where no publish is under it, and it isn't released.
use Rattle.std.proofs.Common.{◌≡◌, Option, Some, None, ◌&&◌, not, refl}
use Rattle.std.specs.Prelude.{is_none}
use Rattle.mqtt5_inflight.specs.declared.slot.Slot.{Slot}
use Rattle.mqtt5_inflight.specs.declared.slot.Slot.TheVariants.{Sent, Released}
use Rattle.mqtt5_inflight.specs.InUse.{awaiting_ack, is_released}

pub is_free : (slot : Option Slot) → (is_none (awaiting_ack slot) && not (is_released slot)) ≡ is_none slot
is_free None = refl
is_free (Some (Sent p)) = refl
is_free (Some Released) = refl
