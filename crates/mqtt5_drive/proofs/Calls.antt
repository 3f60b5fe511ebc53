-- A run leaves the session that its calls leave.
use Rattle.std.proofs.Common.{◌≡◌, ℕ, ◌+◌, List, [], ◌∷◌, ◌++◌, Option, Result, Ok, Err, refl, ap, ◌∙◌}
use Rattle.mqtt5_base.specs.declared.error.Error.{Error}
use Rattle.mqtt5_base.specs.Front.{Front, Bad, More, Whole}
use Rattle.mqtt5_base.specs.FrontAt.{front}
use Rattle.mqtt5_codec.specs.declared.packet.Packet.{Packet}
use Rattle.mqtt5_codec.specs.declared.codec.Codec.{Codec}
use Rattle.mqtt5_codec.specs.PacketsIn.{packet_in}
use Rattle.mqtt5_inflight.specs.declared.error.StateError.{StateError}
use Rattle.mqtt5_session.specs.Session.{Session}
use Rattle.mqtt5_session.specs.Requests.{on_request}
use Rattle.mqtt5_session.specs.Packets.{on_packet}
use Rattle.mqtt5_session.specs.Ledger.{Call, after_all}
use Rattle.mqtt5_session.specs.Once.{kept_id, notified_by, released_by, IsOnce}
use Rattle.mqtt5_drive.specs.Trace.{Trace, finish}
use Rattle.mqtt5_drive.specs.Run.{Turn, Byte, Ask, reply_bytes, on_written, on_reply, on_frame, on_front, run}
use Rattle.mqtt5_drive.specs.Calls.{where_written, where_answered, calls_on_packet, calls_on_front, calls_of}

-- a course from a session leaves what these calls leave
abbrev Leaves : Session → Trace → List Call → Type 0
Leaves s trace calls = (output : List ℕ) → (finish s output trace).session ≡ after_all s calls

module _ (codec : Codec) where
  written : (s t : Session) (bytes : Result (List ℕ) Error) (goes_on : Session → Trace) (calls : List Call) → Leaves t (goes_on t) calls → (output : List ℕ) → (finish s output (on_written t bytes goes_on)).session ≡ after_all t (where_written bytes calls)
  written s t (Ok bytes) goes_on calls h output = h (output ++ bytes)
  written s t (Err e) goes_on calls h output = refl

  stepped_on : (s t : Session) (reply : Result (Option Packet) StateError) (goes_on : Session → Trace) (calls : List Call) → Leaves t (goes_on t) calls → (output : List ℕ) → (finish s output (on_reply codec t reply goes_on)).session ≡ after_all t (where_answered codec reply calls)
  stepped_on s t (Ok reply) goes_on calls h output = written s t (reply_bytes codec reply) goes_on calls h output
  stepped_on s t (Err e) goes_on calls h output = refl

  received_on : (at : ℕ) (s : Session) (packet : Result Packet Error) (goes_on : Session → Trace) (calls : Session → List Call) → ((t : Session) → Leaves t (goes_on t) (calls t)) → Leaves s (on_frame codec at s packet goes_on) (calls_on_packet codec at s packet calls)
  received_on at s (Ok p) goes_on calls h output = stepped_on s (on_packet s p at).1 (on_packet s p at).0 goes_on (calls (on_packet s p at).1) (h (on_packet s p at).1) output
  received_on at s (Err e) goes_on calls h output = refl

  looked_on : (at : ℕ) (s : Session) (held : List ℕ) (f : Front) (goes_on : Session → List ℕ → Trace) (calls : Session → List ℕ → List Call) → ((t : Session) (left : List ℕ) → Leaves t (goes_on t left) (calls t left)) → Leaves s (on_front codec at s held f goes_on) (calls_on_front codec at s held f calls)
  looked_on at s held (Bad e) goes_on calls h output = refl
  looked_on at s held (More n) goes_on calls h output = h s held output
  looked_on at s held (Whole frame rest) goes_on calls h output = received_on at s (packet_in frame) (λ t. goes_on t rest) (λ t. calls t rest) (λ t. h t rest) output

  pub run_leaves : (ts : List Turn) (s : Session) (held : List ℕ) → Leaves s (run codec ts s held) (calls_of codec ts s held)
  unfolding run
  run_leaves [] s held output = refl
  run_leaves (Byte at b ∷ rest) s held output = looked_on at s (held ++ b ∷ []) (front codec.max_incoming_size (held ++ b ∷ [])) (λ t left. run codec rest t left) (λ t left. calls_of codec rest t left) (λ t left. run_leaves rest t left) output
  run_leaves (Ask at request ∷ rest) s held output = stepped_on s (on_request s request at).1 (on_request s request at).0 (λ t. run codec rest t held) (calls_of codec rest (on_request s request at).1 held) (run_leaves rest (on_request s request at).1 held) output

  pub once_over : ((s : Session) (calls : List Call) → IsOnce s calls) → (ts : List Turn) (s : Session) (held output : List ℕ) (id : ℕ) → kept_id id (finish s output (run codec ts s held)).session.core + released_by id s (calls_of codec ts s held) ≡ kept_id id s.core + notified_by id s (calls_of codec ts s held)
  once_over once ts s held output id = ap (λ t. kept_id id t.core + released_by id s (calls_of codec ts s held)) (run_leaves ts s held output) ∙ once s (calls_of codec ts s held) id
