-- What a client sends again when it takes up a kept session (MQTT 5.0 section 4.4), and the session
-- then.
use Rattle.std.specs.Prelude.{◌≡◌, ℕ, false, List, [], ◌∷◌, ◌++◌, Option, Result, Ok, Err, IsOk}
use Rattle.std.specs.Option.{option_to_list}
use Rattle.std.specs.Global.{Vec}
use Rattle.std.specs.FinMap as map
use Rattle.mqtt5_codec.specs.declared.packet.Packet.{Packet}
use Rattle.mqtt5_inflight.specs.declared.event.Request.{Request}
use Rattle.mqtt5_inflight.specs.declared.error.StateError.{StateError}
use Rattle.mqtt5_inflight.specs.declared.error.StateError.TheVariants as errors
use Rattle.mqtt5_inflight.specs.Unacked.{in_use_again, requests_of}
use Rattle.mqtt5_session.specs.Session.{Core, Session}
use Rattle.mqtt5_session.specs.Requests.{on_request}

-- the session without it: no id is in use, and no ping is awaited
abbrev pub on_clean : Session → Session
on_clean s = record s {
  core = record s.core { in_use = map.empty };
  awaits_ping = false;
  collision_pings = 0;
}

-- the core with dup of each publish that awaits its ack (3.3.1.1)
abbrev pub with_dup : Core → Core
with_dup c = record c { in_use = in_use_again c.in_use }

-- packets to send and the session after them, or a refusal
abbrev pub Sendings : Type 0
Sendings = Result (List Packet × Session) StateError

-- a reply goes before what is sent after it
abbrev pub with_reply : Result (Option Packet) StateError → Sendings → Sendings
with_reply (Err e) rest = Err e
with_reply (Ok reply) (Err e) = Err e
with_reply (Ok reply) (Ok rest) = Ok (option_to_list reply ++ rest.0, rest.1)

-- requests, one after the other, up to the first refusal
abbrev pub send_all : List Request → Session → ℕ → Sendings
send_all [] s at = Ok ([], s)
send_all (r ∷ rest) s at = with_reply (on_request s r at).0 (send_all rest (on_request s r at).1 at)

-- to resume is to clean, and to send what that gives (4.4)
unfoldable pub resume_of : Session → ℕ → Sendings
resume_of s at = send_all (requests_of s.core.limit s.core.in_use) (on_clean s) at

-- these packets are sent; a refusal changes nothing, and memory is refused only where nothing else
-- is
abbrev pub Resumes : Result (Vec Packet) StateError → Session → Session → Sendings → Type 0
Resumes (Ok packets) old new sendings = sendings ≡ Ok (packets.items, new)
Resumes (Err errors.OutOfMemory) old new sendings = (new ≡ old) × IsOk sendings
Resumes (Err e) old new sendings = (new ≡ old) × (sendings ≡ Err e)
