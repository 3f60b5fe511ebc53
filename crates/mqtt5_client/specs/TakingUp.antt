-- What a client does with its session on a new connection, as the ConnAck says (MQTT 5.0 sections
-- 3.2.2.1.1, 3.2.2.3.6 and 4.4).
use Rattle.std.specs.Prelude.{◌≡◌, ℕ, ◌⊎◌, Bool, true, false, List, [], ◌∷◌, ◌++◌, map, min, None}
use Rattle.std.specs.Prelude.{Ok, Err, is_ok, if◌then◌else◌}
use Rattle.std.specs.List.{flat_map}
use Rattle.mqtt5_base.specs.declared.error.Error.{Error}
use Rattle.mqtt5_publish.specs.declared.publish.Publish.{Publish}
use Rattle.mqtt5_publish.specs.declared.pubrel.PubRelReason.TheVariants as pubrel_reasons
use Rattle.mqtt5_codec.specs.declared.packet.Packet.{Packet}
use Rattle.mqtt5_codec.specs.declared.packet.Packet.TheVariants as packets
use Rattle.mqtt5_codec.specs.declared.codec.Codec.{Codec}
use Rattle.mqtt5_codec.specs.Packets.{writing_under}
use Rattle.mqtt5_inflight.specs.Errors.{state_error}
use Rattle.mqtt5_inflight.specs.declared.event.Request.{Request}
use Rattle.mqtt5_inflight.specs.declared.event.Request.TheVariants as requests
use Rattle.mqtt5_inflight.specs.declared.error.StateError.{StateError}
use Rattle.mqtt5_inflight.specs.declared.error.StateError.TheVariants as faults
use Rattle.mqtt5_inflight.specs.Unacked.{requests_of}
use Rattle.mqtt5_session.specs.Session.{Session, fresh}
use Rattle.mqtt5_session.specs.Resuming.{on_clean, send_all, Sendings}
use Rattle.mqtt5_client.specs.declared.client.Client.{Client}
use Rattle.mqtt5_client.specs.Client.{given_back}
use Rattle.mqtt5_client.specs.Again.{frames_of}

-- ---- the broker has the session (4.4)

-- whether a publish can be written under the broker's limit (3.2.2.3.6)
abbrev pub is_writable : Codec → Publish → Bool
is_writable codec p = is_ok (writing_under codec.max_outgoing_size (packets.Publish p))

-- what is sent of a request: in place of a publish that can't be written the release of its id,
-- which the broker answers whether it has that publish or not (3.7.2.1)
abbrev pub fitting : Codec → Request → Request
fitting codec (requests.Publish p) =
    if is_writable codec p then requests.Publish p
    else requests.PubRel
    (record { pkid = p.pkid; reason = pubrel_reasons.Success; properties = None })
fitting codec request = request

-- what is given back of it: the publish that can't be written
abbrev pub unfitting : Codec → Request → List Request
unfitting codec (requests.Publish p) = if is_writable codec p then [] else requests.Publish p ∷ []
unfitting codec request = []

-- what awaits an ack
abbrev pub unacked : Session → List Request
unacked s = requests_of s.core.limit s.core.in_use

-- to take up what fits is to clean, and to send what is fitting of what that gives
abbrev pub fitting_of : Codec → Session → ℕ → Sendings
fitting_of codec s at = send_all (map (fitting codec) (unacked s)) (on_clean s) at

-- these packets are sent, whole, behind what waits to be sent
abbrev pub SendsFitting : Client → ℕ → Client → Type 0
SendsFitting old at new =
    (sent : List Packet) × (frames : List ℕ)
    × (fitting_of old.codec old.state at ≡ Ok (sent, new.state))
    × (frames_of old.codec sent ≡ Ok frames) × (new.output.items ≡ old.output.items ++ frames)

-- memory ran out, or the session refuses a publish for its topic alias, or a packet can't be
-- written
abbrev pub NotSent : StateError → Codec → Session → ℕ → Type 0
NotSent e codec s at =
    (e ≡ faults.OutOfMemory) ⊎ ((fitting_of codec s at ≡ Err e)
    ⊎ ((sent : List Packet) × (t : Session) × (fitting_of codec s at ≡ Ok (sent, t))
    × ((f : Error) × (frames_of codec sent ≡ Err f) × (e ≡ state_error f))))

-- ---- the broker has none (3.2.2.1.1)

-- a new session, with what the ConnAck allowed: the ids in use at a time and the topic aliases
-- (3.2.2.3.3, 3.2.2.3.8)
abbrev pub ended : Session → ℕ → Session
ended s at =
    let new = fresh s.core.limit s.core.manual_acks in
    record new {
      core = record new.core {
        current = min s.core.current s.core.limit;
        alias_max = s.core.alias_max;
      };
      last_incoming = at;
    }

-- the session ends, and the output stands
abbrev pub Ends : Client → ℕ → Client → Type 0
Ends old at new =
    (new.state ≡ ended old.state at) × (new.output.items ≡ old.output.items)
    × (old.state.events ≡ [])

-- ---- either

-- the session is taken up, or it ends, as the ConnAck says whether the broker has it
abbrev pub TakesUp : Bool → Client → ℕ → Client → Type 0
TakesUp true old at new = SendsFitting old at new
TakesUp false old at new = Ends old at new

-- what is given back: the publishes that can't be written, or all that awaited an ack or its id
abbrev pub returned : Bool → Client → List Request
returned true c = flat_map (unfitting c.codec) (unacked c.state)
returned false c = given_back c.state.core

-- why not; a session isn't ended while events wait
abbrev pub NotTakenUp : Bool → StateError → Client → ℕ → Type 0
NotTakenUp true e old at = NotSent e old.codec old.state at
NotTakenUp false e old at = (e ≡ faults.OutOfMemory) ⊎ (e ≡ faults.InvalidState)
