-- This file serves the logic alone: one request after another is sent again, where it fits.
use Rattle.std.specs.Prelude.{◌≡◌, ℕ, ◌⊎◌, List, ◌++◌, map, Option, None, Some, Result, Ok, Err}
use Rattle.mqtt5_base.specs.declared.error.Error.{Error}
use Rattle.mqtt5_control.specs.declared.connack.ConnAckProperties.{ConnAckProperties}
use Rattle.mqtt5_control.specs.ConnAcks.{no_connack_properties}
use Rattle.mqtt5_codec.specs.declared.packet.Packet.{Packet}
use Rattle.mqtt5_codec.specs.declared.codec.Codec.{Codec}
use Rattle.mqtt5_inflight.specs.declared.event.Request.{Request}
use Rattle.mqtt5_inflight.specs.Errors.{state_error}
use Rattle.mqtt5_inflight.specs.declared.error.StateError.{StateError}
use Rattle.mqtt5_inflight.specs.declared.error.StateError.TheVariants as faults
use Rattle.mqtt5_session.specs.Session.{Core, Session, Answer}
use Rattle.mqtt5_session.specs.Resuming.{send_all, Sendings}
use Rattle.mqtt5_drive.specs.Run.{reply_bytes}
use Rattle.mqtt5_client.specs.TakingUp.{fitting}
use Rattle.mqtt5_client.specs.Again.{frames_of}

-- what is fitting of these is sent
abbrev pub all_fitting : Codec → List Request → Session → ℕ → Sendings
all_fitting codec rs s at = send_all (map (fitting codec) rs) s at

-- memory ran out, or the session refuses one of these for its topic alias, or a packet can't be
-- written
abbrev pub NotResent : StateError → Codec → List Request → Session → ℕ → Type 0
NotResent e codec rs s at =
    (e ≡ faults.OutOfMemory) ⊎ ((all_fitting codec rs s at ≡ Err e)
    ⊎ ((sent : List Packet) × (t : Session) × (all_fitting codec rs s at ≡ Ok (sent, t))
    × ((f : Error) × (frames_of codec sent ≡ Err f) × (e ≡ state_error f))))

-- the frames of what was sent so far; or one of them can't be written, and the first fault is kept,
-- or that memory ran out
abbrev pub Stands : Option StateError → List ℕ → Result (List ℕ) Error → Type 0
Stands None frames value = value ≡ Ok frames
Stands (Some e) frames value =
    (e ≡ faults.OutOfMemory) ⊎ ((f : Error) × (value ≡ Err f) × (e ≡ state_error f))

-- one more frame is put behind those before it, or why it can't be written is kept; after a fault
-- any bytes may be there
abbrev pub Adds : Option StateError → List ℕ → Result (List ℕ) Error → Option StateError → List ℕ
    → Type 0
Adds (Some e) old value fault new = fault ≡ Some e
Adds None old value None new = (bytes : List ℕ) × (value ≡ Ok bytes) × (new ≡ old ++ bytes)
Adds None old value (Some e) new = Stands (Some e) new value

-- the frame of an answer's packet is added, or the session refuses, or memory ran out
abbrev pub SendsFrame : Result Unit StateError → Codec → Answer → Option StateError → List ℕ
    → Session → Option StateError → List ℕ → Type 0
SendsFrame (Ok done) codec a fault old t kept new =
    (reply : Option Packet) × (a ≡ (Ok reply, t))
    × Adds fault old (reply_bytes codec reply) kept new
SendsFrame (Err e) codec a fault old t kept new = (e ≡ faults.OutOfMemory) ⊎ (a.0 ≡ Err e)

-- what a ConnAck says that allows what the last one allowed
abbrev pub allowed_by : Core → ConnAckProperties
allowed_by c = record no_connack_properties {
  receive_max = Some c.current;
  topic_alias_max = Some c.alias_max;
}
