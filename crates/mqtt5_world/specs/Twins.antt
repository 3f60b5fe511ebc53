-- Two runs of the same calls, of which one takes up its session between them (MQTT 5.0 section
-- 4.4).
use Rattle.std.specs.Prelude.{◌≡◌, ℕ, List, [], ◌∷◌, Option, Result, map}
use Rattle.mqtt5_codec.specs.declared.packet.Packet.{Packet}
use Rattle.mqtt5_inflight.specs.declared.event.Request.{Request}
use Rattle.mqtt5_inflight.specs.declared.event.Request.TheVariants as requests
use Rattle.mqtt5_inflight.specs.declared.error.StateError.{StateError}
use Rattle.mqtt5_inflight.specs.Unacked.{alias_again, by_id, requests_of}
use Rattle.mqtt5_session.specs.Session.{Session}
use Rattle.mqtt5_session.specs.Requests.{on_request, protocol_error}
use Rattle.mqtt5_session.specs.Packets.{on_packet}
use Rattle.mqtt5_session.specs.Resuming.{on_clean, resume_of}
use Rattle.mqtt5_session.specs.Ledger.{kept_by}
use Rattle.mqtt5_world.specs.declared.calls.Call.{Call}
use Rattle.mqtt5_world.specs.declared.calls.Call.TheVariants as calls
use Rattle.mqtt5_world.specs.declared.calls.Reply.{Reply}
use Rattle.mqtt5_world.specs.declared.calls.Reply.TheVariants as replies

-- ---- calls

-- what is said to a call: what to send or a refusal, or the requests that a clean gives back
pub data Said : Type 0 where
  Answered : Result (Option Packet) StateError → Said
  GivenBack : List Request → Said

-- what is said by a reply
abbrev pub said_by : Reply → Said
said_by (replies.Packet answer) = Answered answer
said_by (replies.Cleaned requests) = GivenBack requests.items

-- what is said by replies, in order
abbrev pub all_said : List Reply → List Said
all_said rs = map said_by rs

-- what a session says to a call (3 and 4.3)
abbrev pub reply_of : Session → Call → Said
reply_of s (calls.Outgoing request at) = Answered (on_request s request at).0
reply_of s (calls.Incoming packet at) = Answered (on_packet s packet at).0
reply_of s calls.Clean = GivenBack (requests_of s.core.limit s.core.in_use)
reply_of s calls.ProtocolError = Answered (protocol_error s).0

-- the session after it
abbrev pub after_call : Session → Call → Session
after_call s (calls.Outgoing request at) = (on_request s request at).1
after_call s (calls.Incoming packet at) = (on_packet s packet at).1
after_call s calls.Clean = on_clean s
after_call s calls.ProtocolError = (protocol_error s).1

-- the session after calls, one after another
abbrev pub after_calls : List Call → Session → Session
after_calls [] s = s
after_calls (call ∷ rest) s = after_calls rest (after_call s call)

-- what it says to them
abbrev pub replies_of : List Call → Session → List Said
replies_of [] s = []
replies_of (call ∷ rest) s = reply_of s call ∷ replies_of rest (after_call s call)

-- ---- the resume

-- the session that is resumed at a moment, or the same where that is refused (4.4)
abbrev pub taken_up : Session → ℕ → Session
taken_up s at = kept_by s (resume_of s at)

-- the topic aliases of publishes that await an ack, by rising id, that are above the broker's
-- maximum (3.2.2.3.8)
abbrev pub aliases_over : Session → List ℕ
aliases_over s = by_id (alias_again s.core.alias_max) s.core.limit s.core.in_use

-- ---- the same replies

-- the same is said to a call; what is said to a ping may differ, since after a resume no ping is
-- awaited (3.12, 4.4)
abbrev pub SameReply : Call → Said → Said → Type 0
SameReply (calls.Outgoing requests.PingReq at) a b = Unit {0}
SameReply call a b = a ≡ b

-- so it is with each of these calls, and no more is said
abbrev pub SameReplies : List Call → List Said → List Said → Type 0
SameReplies [] [] [] = Unit {0}
SameReplies (call ∷ rest) (a ∷ others) (b ∷ more) =
    SameReply call a b × SameReplies rest others more
SameReplies cs xs ys = ⊥
