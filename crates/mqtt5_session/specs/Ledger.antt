-- What is owed, and what each call adds to it and takes from it (MQTT 5.0 section 4.3).
use Rattle.std.specs.Prelude.{◌≡◌, ℕ, ◌+◌, Bool, List, [], ◌∷◌, drop, length, Option, Some, None}
use Rattle.std.specs.Prelude.{Result, Ok, Err, if◌then◌else◌}
use Rattle.std.specs.FinMap as map
use Rattle.mqtt5_base.specs.declared.quality.QoS.{QoS}
use Rattle.mqtt5_base.specs.declared.quality.QoS.TheVariants.{AtMostOnce}
use Rattle.mqtt5_publish.specs.declared.publish.Publish.{Publish}
use Rattle.mqtt5_control.specs.declared.disconnect.Disconnect.{Disconnect}
use Rattle.mqtt5_control.specs.declared.auth.Auth.{Auth}
use Rattle.mqtt5_codec.specs.declared.packet.Packet.{Packet}
use Rattle.mqtt5_codec.specs.declared.packet.Packet.TheVariants as packets
use Rattle.mqtt5_inflight.specs.declared.event.Request.{Request}
use Rattle.mqtt5_inflight.specs.declared.event.Request.TheVariants as requests
use Rattle.mqtt5_inflight.specs.declared.error.StateError.{StateError}
use Rattle.mqtt5_inflight.specs.Unacked.{requests_of}
use Rattle.mqtt5_session.specs.Session.{Core, Session, fresh}
use Rattle.mqtt5_session.specs.Requests.{id_for, on_request, protocol_error, out_disconnect, out_auth}
use Rattle.mqtt5_session.specs.Packets.{is_taken, on_packet}
use Rattle.mqtt5_session.specs.Resuming.{on_clean, Sendings, resume_of}

-- one where there is one
abbrev pub one_of : Option Publish → ℕ
one_of None = 0
one_of (Some p) = 1

-- what is owed: the ids in use, and the publish that waits (4.3)
abbrev pub number_owed : Core → ℕ
number_owed c = map.len c.in_use + one_of c.waiting

-- a publish is owed, unless it is of QoS 0 (4.3.1)
abbrev pub owed_at : QoS → ℕ
owed_at AtMostOnce = 0
owed_at qos = 1

-- what a request adds: a publish of QoS 1 or 2, or a PubRel of a free id, one
abbrev pub adds : Core → Request → ℕ
adds c (requests.Publish p) = owed_at p.qos
adds c (requests.PubRel p) = if map.contains_key c.in_use (id_for c p.pkid) then 0 else 1
adds c request = 0

-- what a packet ends: a PubAck, a PubRec by which a publish isn't taken, or a PubComp, one (4.3.2,
-- 4.3.3)
abbrev pub ends : Packet → ℕ
ends (packets.PubAck p) = 1
ends (packets.PubRec p) = if is_taken p.reason then 0 else 1
ends (packets.PubComp p) = 1
ends packet = 0

-- this, where it isn't refused
abbrev pub unless_refused : {A : Type 0} → Result A StateError → ℕ → ℕ
unless_refused (Ok reply) n = n
unless_refused (Err e) n = 0

-- ---- any list of calls

-- A call of the session: a request, a packet from the broker, a protocol error, a Disconnect with
-- its reason, an Auth, a clean, a resume; the oldest event is taken out; and the user sends the
-- acks from now on, or doesn't.
pub data Call : Type 0 where
  Ask : Request → ℕ → Call
  Hear : Packet → ℕ → Call
  Error : Call
  Leave : Disconnect → ℕ → Call
  Authenticate : Auth → ℕ → Call
  Clean : Call
  Resume : ℕ → Call
  Pop : Call
  SetAcks : Bool → Call

-- the session after a resume
abbrev pub kept_by : Session → Sendings → Session
kept_by s (Ok r) = r.1
kept_by s (Err e) = s

-- the session after a call
abbrev pub after : Session → Call → Session
after s (Ask request at) = (on_request s request at).1
after s (Hear packet at) = (on_packet s packet at).1
after s Error = (protocol_error s).1
after s (Leave p at) = (out_disconnect s p at).1
after s (Authenticate p at) = (out_auth s p at).1
after s Clean = on_clean s
after s (Resume at) = kept_by s (resume_of s at)
after s Pop = record s { events = drop 1 s.events }
after s (SetAcks manual) = record s { core = record s.core { manual_acks = manual } }

-- what a call adds
abbrev pub added_in : Session → Call → ℕ
added_in s (Ask request at) = unless_refused (on_request s request at).0 (adds s.core request)
added_in s call = 0

-- what a call takes: what a packet ends, or what a clean gives back
abbrev pub taken_in : Session → Call → ℕ
taken_in s (Hear packet at) = unless_refused (on_packet s packet at).0 (ends packet)
taken_in s Clean = length (requests_of s.core.limit s.core.in_use)
taken_in s call = 0

-- the session after calls
abbrev pub after_all : Session → List Call → Session
after_all s [] = s
after_all s (call ∷ calls) = after_all (after s call) calls

-- what they add
abbrev pub added_by : Session → List Call → ℕ
added_by s [] = 0
added_by s (call ∷ calls) = added_in s call + added_by (after s call) calls

-- what they take
abbrev pub taken_by : Session → List Call → ℕ
taken_by s [] = 0
taken_by s (call ∷ calls) = taken_in s call + taken_by (after s call) calls

-- over any calls of a new session, what is owed and what was taken are what was added
abbrev pub IsLedger : ℕ → Bool → List Call → Type 0
IsLedger limit manual calls =
    number_owed (after_all (fresh limit manual) calls).core + taken_by (fresh limit manual) calls
    ≡ added_by (fresh limit manual) calls
