-- What a request is sent as, and what becomes of it: its packet is judged before the session takes
-- it, so that what can't be written takes no packet identifier (MQTT 5.0 sections 2.2.1, 3.2.2.3.6
-- and 4.13).
use Rattle.std.specs.Prelude.{◌≡◌, ℕ, Bool, true, false, ◌==◌, ◌⊎◌, List, ◌++◌, length, Option}
use Rattle.std.specs.Prelude.{Some, None, Result, Ok, Err, IsOk, if◌then◌else◌}
use Rattle.mqtt5_base.specs.declared.error.Error.{Error}
use Rattle.mqtt5_base.specs.declared.quality.QoS.{QoS}
use Rattle.mqtt5_base.specs.declared.quality.QoS.TheVariants.{AtMostOnce}
use Rattle.mqtt5_subscribe.specs.declared.subscribe.Subscribe.{Subscribe}
use Rattle.mqtt5_control.specs.declared.disconnect.DisconnectReasonCode.TheVariants.{NormalDisconnection}
use Rattle.mqtt5_codec.specs.declared.packet.Packet.{Packet}
use Rattle.mqtt5_codec.specs.declared.packet.Packet.TheVariants as packets
use Rattle.mqtt5_codec.specs.declared.codec.Codec.{Codec}
use Rattle.mqtt5_inflight.specs.Errors.{state_error}
use Rattle.mqtt5_inflight.specs.declared.event.Request.{Request}
use Rattle.mqtt5_inflight.specs.declared.event.Request.TheVariants as requests
use Rattle.mqtt5_inflight.specs.declared.error.StateError.{StateError}
use Rattle.mqtt5_inflight.specs.declared.error.StateError.TheVariants as faults
use Rattle.mqtt5_session.specs.Session.{Core, Session}
use Rattle.mqtt5_session.specs.Requests.{next_id, id_for, release_of, disconnect_of, on_request}
use Rattle.mqtt5_drive.specs.Run.{reply_bytes}

-- the id that a publish gets: of QoS 0 none, so its own stays (2.2.1)
abbrev pub id_asked : QoS → Core → ℕ → ℕ
id_asked AtMostOnce c id = id
id_asked qos c id = id_for c id

-- a Subscribe under this id; none without a filter, which the session refuses (3.8.3)
abbrev pub subscribe_asked : ℕ → Subscribe → Option Packet
subscribe_asked id p =
    if length p.filters == 0 then None else Some (packets.Subscribe (record p { pkid = id }))

-- the packet that a request is sent as, at once or when its id is free (3); None of one that a
-- client never sends
abbrev pub packet_asked : Core → Request → Option Packet
packet_asked c (requests.Publish p) =
    Some (packets.Publish (record p { pkid = id_asked p.qos c p.pkid }))
packet_asked c (requests.Subscribe p) = subscribe_asked (next_id c) p
packet_asked c (requests.Unsubscribe p) = Some (packets.Unsubscribe (record p { pkid = next_id c }))
packet_asked c (requests.PubRel p) = Some (release_of (id_for c p.pkid))
packet_asked c (requests.PubAck p) = Some (packets.PubAck p)
packet_asked c (requests.PubRec p) = Some (packets.PubRec p)
packet_asked c requests.PingReq = Some (packets.PingReq (record {}))
packet_asked c requests.Disconnect = Some (disconnect_of NormalDisconnection)
packet_asked c other = None

-- its bytes, or why it can't be written under the broker's limit (3.2.2.3.6)
abbrev pub bytes_asked : Codec → Core → Request → Result (List ℕ) Error
bytes_asked codec c request = reply_bytes codec (packet_asked c request)

-- Why a request isn't taken, and the session then. Memory ran out, or the packet can't be written:
-- the session is unchanged. Or the packet can be written, and the session refuses the request.
abbrev pub Declines : StateError → Codec → Request → ℕ → Session → Session → Type 0
Declines e codec request at old new =
    ((new ≡ old)
    × ((e ≡ faults.OutOfMemory)
    ⊎ ((f : Error) × (bytes_asked codec old.core request ≡ Err f) × (e ≡ state_error f))))
    ⊎ (IsOk (bytes_asked codec old.core request) × (on_request old request at ≡ (Err e, new)))

-- Why a client doesn't take a request, and its session then: a Disconnect was asked for before,
-- behind which nothing may be sent (3.14.4), or the request is declined.
abbrev pub NotAsked : Bool → StateError → Codec → Request → ℕ → Session → Session → Type 0
NotAsked over e codec request at old new =
    ((over ≡ true) × (e ≡ faults.Disconnected) × (new ≡ old))
    ⊎ ((over ≡ false) × Declines e codec request at old new)

-- A request is taken, and the bytes of the session's reply are put at the output's end; its packet
-- can be written, also where it has to wait. Or it is declined, and the output is unchanged.
abbrev pub Takes : Result Unit StateError → Codec → Request → ℕ → Session → List ℕ → Session
    → List ℕ → Type 0
Takes (Ok done) codec request at s o t u =
    (reply : Option Packet) × (bytes : List ℕ) × (on_request s request at ≡ (Ok reply, t))
    × (reply_bytes codec reply ≡ Ok bytes)
    × (u ≡ o ++ bytes) × IsOk (bytes_asked codec s.core request)
Takes (Err e) codec request at s o t u = (u ≡ o) × Declines e codec request at s t
