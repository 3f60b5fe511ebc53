-- Why a session isn't saved.
use Rattle.std.specs.Prelude.{◌≡◌, ◌≢◌, ◌⊎◌, ℕ, List, [], Option, Some, Err, slice_get}
use Rattle.std.specs.FinSet.{from_list}
use Rattle.mqtt5_base.specs.declared.error.Error.{Error}
use Rattle.mqtt5_base.specs.declared.error.Error.TheVariants as errors
use Rattle.mqtt5_publish.specs.declared.publish.Publish.{Publish}
use Rattle.mqtt5_codec.specs.declared.packet.Packet.{Packet}
use Rattle.mqtt5_codec.specs.declared.packet.Packet.TheVariants as packets
use Rattle.mqtt5_codec.specs.Packets.{packet_writing}
use Rattle.mqtt5_inflight.specs.Errors.{state_error}
use Rattle.mqtt5_inflight.specs.declared.error.StateError.{StateError}
use Rattle.mqtt5_inflight.specs.declared.error.StateError.TheVariants as faults
use Rattle.mqtt5_session.specs.Session.{Core, Session}
use Rattle.mqtt5_session.specs.Parts.{stored_packets}

-- a packet can't be written (4.13), or memory ran out
abbrev pub CantPut : Packet → Error → Type 0
CantPut p f = (f ≡ errors.OutOfMemory) ⊎ (packet_writing p ≡ Err f)

-- so one of these
abbrev pub CantPutOne : List Packet → Error → Type 0
CantPutOne ps f =
    (f ≡ errors.OutOfMemory)
    ⊎ ((i : ℕ) × (p : Packet) × (slice_get ps i ≡ Some p) × (packet_writing p ≡ Err f))

-- so the publish that waits
abbrev pub CantPutWaiting : Option Publish → Error → Type 0
CantPutWaiting w f =
    (f ≡ errors.OutOfMemory)
    ⊎ ((p : Publish) × (w ≡ Some p) × (packet_writing (packets.Publish p) ≡ Err f))

-- so the publish of a session that waits, or a packet that tells of the rest of it
abbrev pub CantPutCore : Core → Error → Type 0
CantPutCore c f =
    CantPutWaiting c.waiting f
    ⊎ ((ids : List ℕ) × (from_list ids ≡ c.incoming) × CantPutOne (stored_packets c ids) f)

-- Why a session isn't saved: an event isn't taken out; memory ran out; or a packet of it can't be
-- written.
abbrev pub NotSaved : StateError → Session → Type 0
NotSaved e s =
    ((e ≡ faults.InvalidState) × (s.events ≢ []))
    ⊎ ((e ≡ faults.OutOfMemory) ⊎ ((f : Error) × (e ≡ state_error f) × CantPutCore s.core f))
