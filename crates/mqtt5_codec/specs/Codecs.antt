-- What reading a packet from a stream answers, and what it leaves of the stream (MQTT 5.0 section
-- 2.1).
use Rattle.std.specs.Prelude.{◌≡◌, ℕ, List, Option, Some, None, Result, Ok, Err, ◌⊎◌}
use Rattle.bytes.specs.Filled.{Filled}
use Rattle.mqtt5_base.specs.declared.error.Error.{Error}
use Rattle.mqtt5_base.specs.declared.error.Error.TheVariants.{OutOfMemory}
use Rattle.mqtt5_base.specs.Front.{Bad, More, Whole, front_of_error}
use Rattle.mqtt5_base.specs.FrontAt.{front}
use Rattle.mqtt5_codec.specs.declared.packet.Packet.{Packet}
use Rattle.mqtt5_codec.specs.declared.codec.Codec.{Codec}
use Rattle.mqtt5_codec.specs.Packets.{IsFrameOf, IsFaultOf}

-- without limits
abbrev pub no_limits : Codec
no_limits = record { max_incoming_size = None; max_outgoing_size = None }

-- The whole frame at the front, of which that is said, was taken out.
abbrev pub TakesFrame : (List ℕ → Type 0) → Option ℕ → List ℕ → List ℕ → Type 0
TakesFrame IsSaid limit old new =
    (frame : List ℕ) × (front limit old ≡ Whole frame new) × IsSaid frame

-- The fault of the whole frame at the front, which was taken out; or want of memory, with a whole
-- frame at the front, which was taken out or not.
abbrev pub FailsFrame : Error → Option ℕ → List ℕ → List ℕ → Type 0
FailsFrame e limit old new =
    TakesFrame (λ frame. IsFaultOf frame e) limit old new
    ⊎ ((e ≡ OutOfMemory)
    × ((frame : List ℕ) × (rest : List ℕ) × (front limit old ≡ Whole frame rest)
    × ((new ≡ old) ⊎ (new ≡ rest))))

-- The packet of the whole frame at the front, which was taken out; or the fault of that frame; or
-- the error of a front without one, with the stream unchanged.
abbrev pub ReadsPacket : Result Packet Error → Option ℕ → List ℕ → List ℕ → Type 0
ReadsPacket (Ok p) limit old new = TakesFrame (λ frame. IsFrameOf frame p) limit old new
ReadsPacket (Err e) limit old new =
    FailsFrame e limit old new ⊎ ((front limit old ≡ front_of_error e) × (new ≡ old))

-- The same, but a front that needs more bytes is no error.
abbrev pub Decodes : Result (Option Packet) Error → Option ℕ → List ℕ → List ℕ → Type 0
Decodes (Ok None) limit old new = ((n : ℕ) × (front limit old ≡ More n)) × (new ≡ old)
Decodes (Ok (Some p)) limit old new = TakesFrame (λ frame. IsFrameOf frame p) limit old new
Decodes (Err e) limit old new =
    FailsFrame e limit old new ⊎ ((front limit old ≡ Bad e) × (new ≡ old))

-- Where more bytes are needed, nothing was reserved: the spare room is what it was.
abbrev pub Reserves : Result (Option Packet) Error → Filled → Filled → Type 0
Reserves (Ok None) old new = new ≡ old
Reserves result old new = Unit {0}
