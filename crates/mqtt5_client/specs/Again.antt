-- The bytes of what is sent again on a new connection (MQTT 5.0 section 4.4), and what a resume
-- leaves of a client.
use Rattle.std.specs.Prelude.{◌≡◌, ℕ, ◌⊎◌, List, [], ◌∷◌, ◌++◌, Result, Ok, Err}
use Rattle.bytes.specs.Filled.{Filled}
use Rattle.mqtt5_base.specs.declared.error.Error.{Error}
use Rattle.mqtt5_codec.specs.declared.packet.Packet.{Packet}
use Rattle.mqtt5_codec.specs.declared.codec.Codec.{Codec}
use Rattle.mqtt5_codec.specs.Packets.{writing_under}
use Rattle.mqtt5_inflight.specs.Errors.{state_error}
use Rattle.mqtt5_inflight.specs.declared.error.StateError.{StateError}
use Rattle.mqtt5_inflight.specs.declared.error.StateError.TheVariants.{OutOfMemory}
use Rattle.mqtt5_session.specs.Resuming.{resume_of}
use Rattle.mqtt5_client.specs.declared.client.Client.{Client}

-- bytes go behind others, or their refusal ends it
abbrev pub behind : List ℕ → Result (List ℕ) Error → (List ℕ → Result (List ℕ) Error)
    → Result (List ℕ) Error
behind output (Ok bytes) goes_on = goes_on (output ++ bytes)
behind output (Err e) goes_on = Err e

-- the frames of packets, one behind the other, or the first refusal
abbrev pub frames_behind : List ℕ → Codec → List Packet → Result (List ℕ) Error
frames_behind output codec [] = Ok output
frames_behind output codec (p ∷ ps) =
    behind output (writing_under codec.max_outgoing_size p) (λ o. frames_behind o codec ps)

-- of them alone
abbrev pub frames_of : Codec → List Packet → Result (List ℕ) Error
frames_of codec ps = frames_behind [] codec ps

-- these are the frames, or memory ran out, or this is the first refusal
abbrev pub Framed : Result (List ℕ) Error → Result Filled StateError → Type 0
Framed value (Ok frames) = value ≡ Ok frames.items
Framed value (Err e) = (e ≡ OutOfMemory) ⊎ ((f : Error) × (value ≡ Err f) × (e ≡ state_error f))

-- the session's packets are sent, whole, behind what waits to be sent
abbrev pub SendsAgain : Client → ℕ → Client → Type 0
SendsAgain old at new =
    (packets : List Packet) × (frames : List ℕ) × (resume_of old.state at ≡ Ok (packets, new.state))
    × (frames_of old.codec packets ≡ Ok frames) × (new.output.items ≡ old.output.items ++ frames)

-- The session refused, and is unchanged; or it was taken up, and a packet can't be written, or
-- memory ran out.
abbrev pub Refuses : StateError → Client → ℕ → Client → Type 0
Refuses e old at new =
    ((new.state ≡ old.state) × ((e ≡ OutOfMemory) ⊎ (resume_of old.state at ≡ Err e)))
    ⊎ ((packets : List Packet) × (resume_of old.state at ≡ Ok (packets, new.state))
    × ((e ≡ OutOfMemory)
    ⊎ ((f : Error) × (frames_of old.codec packets ≡ Err f) × (e ≡ state_error f))))
