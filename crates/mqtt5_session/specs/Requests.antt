-- What each request makes of the session: a reply or a refusal, and the session after it (MQTT 5.0
-- sections 2.2.1, 3 and 4.3).
use Rattle.std.specs.Prelude.{ℕ, ◌+◌, ◌-◌, ◌^◌, Bool, true, false, ◌&&◌, length, Option, Some}
use Rattle.std.specs.Prelude.{None, Ok, Err, ◌==◌, is_some, nat_lt, nat_le, min, if◌then◌else◌}
use Rattle.std.specs.FinMap as map
use Rattle.mqtt5_base.specs.declared.quality.QoS.{QoS}
use Rattle.mqtt5_base.specs.declared.quality.QoS.TheVariants.{AtMostOnce, AtLeastOnce, ExactlyOnce}
use Rattle.mqtt5_publish.specs.declared.publish.Publish.{Publish}
use Rattle.mqtt5_publish.specs.declared.pubrel.PubRelReason.TheVariants as pubrel_reasons
use Rattle.mqtt5_subscribe.specs.declared.subscribe.Subscribe.{Subscribe}
use Rattle.mqtt5_subscribe.specs.declared.unsubscribe.Unsubscribe.{Unsubscribe}
use Rattle.mqtt5_control.specs.declared.disconnect.DisconnectReasonCode.{DisconnectReasonCode}
use Rattle.mqtt5_control.specs.declared.disconnect.DisconnectReasonCode.TheVariants as reasons
use Rattle.mqtt5_control.specs.declared.disconnect.Disconnect.{Disconnect}
use Rattle.mqtt5_control.specs.declared.auth.AuthReasonCode.{AuthReasonCode}
use Rattle.mqtt5_control.specs.declared.auth.AuthReasonCode.TheVariants as auth_reasons
use Rattle.mqtt5_control.specs.declared.auth.AuthProperties.{AuthProperties}
use Rattle.mqtt5_control.specs.declared.auth.Auth.{Auth}
use Rattle.mqtt5_codec.specs.declared.packet.Packet.{Packet}
use Rattle.mqtt5_codec.specs.declared.packet.Packet.TheVariants as packets
use Rattle.mqtt5_inflight.specs.declared.slot.Slot.{Slot}
use Rattle.mqtt5_inflight.specs.declared.slot.Slot.TheVariants.{Sent, Released}
use Rattle.mqtt5_inflight.specs.declared.event.Request.{Request}
use Rattle.mqtt5_inflight.specs.declared.event.Request.TheVariants as requests
use Rattle.mqtt5_inflight.specs.declared.event.Outgoing.{Outgoing}
use Rattle.mqtt5_inflight.specs.declared.event.Outgoing.TheVariants as outgoing
use Rattle.mqtt5_inflight.specs.declared.error.StateError.{StateError}
use Rattle.mqtt5_inflight.specs.declared.error.StateError.TheVariants as errors
use Rattle.mqtt5_inflight.specs.Aliases.{alias_of, alias_over}
use Rattle.mqtt5_session.specs.Session.{Core, Session, Answer, with_event}

-- ---- identifiers

-- the next id (2.2.1)
abbrev pub next_id : Core → ℕ
next_id c = c.last + 1

-- the last id once the next one was given: it goes back to 0 at the current maximum (2.2.1)
abbrev pub last_given : Core → ℕ
last_given c = if nat_le c.current (next_id c) then 0 else next_id c

-- the id of a request with this id: 0 stands for the next one (2.2.1)
abbrev pub id_for : Core → ℕ → ℕ
id_for c id = if id == 0 then next_id c else id

-- the last id after it (2.2.1)
abbrev pub last_after : Core → ℕ → ℕ
last_after c id = if id == 0 then last_given c else c.last

-- what is sent is told, at this moment
abbrev pub with_event_at : Session → Outgoing → ℕ → Session
with_event_at s event at = record (with_event s event) { last_outgoing = at }

-- ---- a publish

-- its refusal
abbrev pub alias_fault : ℕ → Option ℕ → Option StateError
alias_fault max None = None
alias_fault max (Some alias) = Some (errors.InvalidAlias alias max)

-- the refusal of a publish for its alias
abbrev pub over_maximum : Core → Publish → Option StateError
over_maximum c p = alias_fault c.alias_max (alias_over c.alias_max (alias_of p))

-- a step, unless it is refused
abbrev pub unless : Option StateError → Session → Answer → Answer
unless (Some e) s answer = (Err e, s)
unless None s answer = answer

-- a publish of QoS 0 is sent and forgotten (4.3.1)
abbrev pub out_once : Session → Publish → ℕ → Answer
out_once s p at =
    unless (over_maximum s.core p) s
    (Ok (Some (packets.Publish p)), with_event_at s (outgoing.Publish p.pkid) at)

-- what becomes of a publish of QoS 1 or 2: it is refused, it waits until its id is free, or it is
-- stored and sent
pub data Verdict : Type 0 where
  Refuse : StateError → Verdict
  Wait : Verdict
  Store : Verdict

-- by what is known of its id, and by what waits: one publish at most (2.2.1)
abbrev pub by_use : Option Slot → Option Publish → Verdict
by_use None waiting = Store
by_use (Some slot) None = Wait
by_use (Some slot) (Some other) = Refuse errors.InvalidState

-- by its alias first
abbrev pub by_alias : Option StateError → Verdict → Verdict
by_alias (Some e) verdict = Refuse e
by_alias None verdict = verdict

-- a publish with its id is judged: the id, the alias, and what is known of the id (2.2.1,
-- 3.3.2.3.4)
abbrev pub verdict_of : Core → Publish → Verdict
verdict_of c p =
    if nat_lt c.limit p.pkid then Refuse (errors.Unsolicited p.pkid)
    else by_alias (over_maximum c p) (by_use (map.get c.in_use p.pkid) c.waiting)

-- a publish is stored under its id until its ack comes, and the last id is set (4.3.2, 4.3.3)
abbrev pub with_stored : Session → Publish → ℕ → ℕ → Session
with_stored s p last at = record (with_event_at s (outgoing.Publish p.pkid) at) {
  core = record s.core { in_use = map.insert s.core.in_use p.pkid (Sent p); last = last };
}

-- a publish waits until its id is free, and the last id is set (2.2.1)
abbrev pub awaits : Session → Publish → ℕ → ℕ → Session
awaits s p last at = record (with_event_at s (outgoing.AwaitAck p.pkid) at) {
  core = record s.core { waiting = Some p; last = last };
}

-- a publish of QoS 1 or 2, as it was judged
abbrev pub out_acked : Verdict → Session → Publish → ℕ → ℕ → Answer
out_acked (Refuse e) s p last at = (Err e, s)
out_acked Wait s p last at = (Ok None, awaits s p last at)
out_acked Store s p last at = (Ok (Some (packets.Publish p)), with_stored s p last at)

-- the same, with its id given
abbrev pub out_identified : Session → Publish → ℕ → ℕ → Answer
out_identified s p last at = out_acked (verdict_of s.core p) s p last at

-- a publish by its QoS (4.3)
abbrev pub out_publish : QoS → Session → Publish → ℕ → Answer
out_publish AtMostOnce s p at = out_once s p at
out_publish AtLeastOnce s p at =
    out_identified s (record p { pkid = id_for s.core p.pkid }) (last_after s.core p.pkid) at
out_publish ExactlyOnce s p at =
    out_identified s (record p { pkid = id_for s.core p.pkid }) (last_after s.core p.pkid) at

-- ---- the other requests

-- a PubRel of success (3.6)
abbrev pub release_of : ℕ → Packet
release_of id =
    packets.PubRel (record { pkid = id; reason = pubrel_reasons.Success; properties = None })

-- an id is released, also once more, and the last id is set; a publish that awaits its ack isn't
-- (4.3.3)
abbrev pub out_known : Option Slot → Session → ℕ → ℕ → ℕ → Answer
out_known (Some (Sent p)) s id last at = (Err errors.InvalidState, s)
out_known other s id last at = (
  Ok (Some (release_of id)),
  record (with_event_at s (outgoing.PubRel id)
      at) { core = record s.core { in_use = map.insert s.core.in_use id Released; last = last } },
)

-- a PubRel with its id given (4.3.3)
abbrev pub out_release : Session → ℕ → ℕ → ℕ → Answer
out_release s id last at =
    if nat_lt s.core.limit id then (Err (errors.Unsolicited id), s)
    else out_known (map.get s.core.in_use id) s id last at

-- the next id was given
abbrev pub gives_id : Session → Session
gives_id s = record s { core = record s.core { last = last_given s.core } }

-- a Subscribe takes the next id, also one that is in use (3.8)
abbrev pub out_subscribe : Session → Subscribe → ℕ → Answer
out_subscribe s p at =
    if length p.filters == 0 then (Err errors.EmptySubscription, s)
    else (
      Ok (Some (packets.Subscribe (record p { pkid = next_id s.core }))),
      with_event_at (gives_id s) (outgoing.Subscribe (next_id s.core)) at,
    )

-- so does an Unsubscribe (3.10)
abbrev pub out_unsubscribe : Session → Unsubscribe → ℕ → Answer
out_unsubscribe s p at = (
  Ok (Some (packets.Unsubscribe (record p { pkid = next_id s.core }))),
  with_event_at (gives_id s) (outgoing.Unsubscribe (next_id s.core)) at,
)

-- how many pings were asked for while a publish waits, with one more; it stays at the greatest
-- number of 64 bits
abbrev pub pings_with : Option Publish → ℕ → ℕ
pings_with None count = count
pings_with (Some p) count = min (count + 1) (2 ^ 64 - 1)

-- the refusal of a ping while one isn't answered (3.12)
abbrev pub pending_fault : Bool → Option StateError
pending_fault true = Some errors.AwaitPingResp
pending_fault false = None

-- the refusal of a ping: a second one while a publish waits, or one while another isn't answered
abbrev pub ping_fault : Option Publish → ℕ → Bool → Option StateError
ping_fault (Some p) count awaits =
    if nat_le 2 count then Some errors.CollisionTimeout else pending_fault awaits
ping_fault None count awaits = pending_fault awaits

-- the ping is counted
abbrev pub counts_ping : Session → Session
counts_ping s = record s { collision_pings = pings_with s.core.waiting s.collision_pings }

-- a ping that was counted is sent, unless it is refused (3.12)
abbrev pub out_ping : Session → ℕ → Answer
out_ping s at =
    unless (ping_fault s.core.waiting s.collision_pings s.awaits_ping) s (
      Ok (Some (packets.PingReq (record {}))),
      record (with_event_at s outgoing.PingReq at) { awaits_ping = true },
    )

-- a Disconnect without properties (3.14)
abbrev pub disconnect_of : DisconnectReasonCode → Packet
disconnect_of code = packets.Disconnect (record { reason_code = code; properties = None })

-- a request: its reply or its refusal, and the session after it
unfoldable pub on_request : Session → Request → ℕ → Answer
on_request s (requests.Publish p) at = out_publish p.qos s p at
on_request s (requests.PubRel p) at =
    out_release s (id_for s.core p.pkid) (last_after s.core p.pkid) at
on_request s (requests.Subscribe p) at = out_subscribe s p at
on_request s (requests.Unsubscribe p) at = out_unsubscribe s p at
on_request s requests.PingReq at = out_ping (counts_ping s) at
on_request s requests.Disconnect at =
    (Ok (Some (disconnect_of reasons.NormalDisconnection)), with_event_at s outgoing.Disconnect at)
on_request s (requests.PubAck p) at =
    (Ok (Some (packets.PubAck p)), with_event_at s (outgoing.PubAck p.pkid) at)
on_request s (requests.PubRec p) at =
    (Ok (Some (packets.PubRec p)), with_event_at s (outgoing.PubRec p.pkid) at)
on_request s other at = (Err errors.InvalidState, s)

-- ---- what is sent by calls of its own

-- a Disconnect with ProtocolError is sent, where the client finds such an error of the broker
-- (4.13)
abbrev pub protocol_error : Session → Answer
protocol_error s =
    (Ok (Some (disconnect_of reasons.ProtocolError)), with_event s outgoing.Disconnect)

-- whether a client may end the connection for this reason; the others are the broker's (3.14.2.1)
abbrev pub may_leave_for : DisconnectReasonCode → Bool
may_leave_for reasons.NormalDisconnection = true
may_leave_for reasons.DisconnectWithWillMessage = true
may_leave_for reasons.UnspecifiedError = true
may_leave_for reasons.MalformedPacket = true
may_leave_for reasons.ProtocolError = true
may_leave_for reasons.ImplementationSpecificError = true
may_leave_for reasons.TopicNameInvalid = true
may_leave_for reasons.ReceiveMaximumExceeded = true
may_leave_for reasons.TopicAliasInvalid = true
may_leave_for reasons.PacketTooLarge = true
may_leave_for reasons.MessageRateTooHigh = true
may_leave_for reasons.QuotaExceeded = true
may_leave_for reasons.AdministrativeAction = true
may_leave_for reasons.PayloadFormatInvalid = true
may_leave_for reasons.ConnectionRateExceeded = true
may_leave_for other = false

-- a Disconnect with a reason and properties is sent (3.14)
abbrev pub out_disconnect : Session → Disconnect → ℕ → Answer
out_disconnect s p at =
    if may_leave_for p.reason_code
    then (Ok (Some (packets.Disconnect p)), with_event_at s outgoing.Disconnect at)
    else (Err errors.InvalidState, s)

-- whether a client may say this of the exchange of authentication data; Success is the broker's
-- (3.15.2.1)
abbrev pub may_answer_with : AuthReasonCode → Bool
may_answer_with auth_reasons.Success = false
may_answer_with code = true

-- whether the method of authentication is named, as in each Auth (3.15.2.2.2)
abbrev pub names_method : Option AuthProperties → Bool
names_method None = false
names_method (Some set) = is_some set.method

-- an Auth is sent: more data, or a wish to begin anew (3.15, 4.12)
abbrev pub out_auth : Session → Auth → ℕ → Answer
out_auth s p at =
    if may_answer_with p.code && names_method p.properties
    then (Ok (Some (packets.Auth p)), with_event_at s outgoing.Auth at)
    else (Err errors.InvalidState, s)
