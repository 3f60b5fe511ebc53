-- The calls that a run makes of its session, one after another (MQTT 5.0 section 4.2).
use Rattle.std.specs.Prelude.{ℕ, List, [], ◌∷◌, ◌++◌, Option, Result, Ok, Err}
use Rattle.mqtt5_base.specs.declared.error.Error.{Error}
use Rattle.mqtt5_base.specs.Front.{Front, Bad, More, Whole}
use Rattle.mqtt5_base.specs.FrontAt.{front}
use Rattle.mqtt5_codec.specs.declared.packet.Packet.{Packet}
use Rattle.mqtt5_codec.specs.declared.codec.Codec.{Codec}
use Rattle.mqtt5_codec.specs.PacketsIn.{packet_in}
use Rattle.mqtt5_inflight.specs.declared.error.StateError.{StateError}
use Rattle.mqtt5_session.specs.Session.{Session}
use Rattle.mqtt5_session.specs.Requests.{on_request}
use Rattle.mqtt5_session.specs.Packets.{on_packet}
use Rattle.mqtt5_session.specs.Ledger.{Call, Hear}
use Rattle.mqtt5_session.specs.Ledger as ledger
use Rattle.mqtt5_drive.specs.Run.{Turn, Byte, Ask, reply_bytes}

-- more calls follow where a reply is written
abbrev pub where_written : Result (List ℕ) Error → List Call → List Call
where_written (Ok bytes) rest = rest
where_written (Err e) rest = []

-- and where a call isn't refused
abbrev pub where_answered : Codec → Result (Option Packet) StateError → List Call → List Call
where_answered codec (Ok reply) rest = where_written (reply_bytes codec reply) rest
where_answered codec (Err e) rest = []

-- the packet of a whole frame goes to the session
abbrev pub calls_on_packet : Codec → ℕ → Session → Result Packet Error → (Session → List Call)
    → List Call
calls_on_packet codec at s (Ok p) goes_on =
    Hear p at ∷ where_answered codec (on_packet s p at).0 (goes_on (on_packet s p at).1)
calls_on_packet codec at s (Err e) goes_on = []

-- the front of the bytes held is looked at
abbrev pub calls_on_front : Codec → ℕ → Session → List ℕ → Front → (Session → List ℕ → List Call)
    → List Call
calls_on_front codec at s held (Bad e) goes_on = []
calls_on_front codec at s held (More n) goes_on = goes_on s held
calls_on_front codec at s held (Whole frame rest) goes_on =
    calls_on_packet codec at s (packet_in frame) (λ t. goes_on t rest)

-- the calls of a run, from a session and the bytes held
abbrev pub calls_of : Codec → List Turn → Session → List ℕ → List Call
calls_of codec [] s held = []
calls_of codec (Byte at b ∷ rest) s held =
    calls_on_front codec at s (held ++ b ∷ []) (front codec.max_incoming_size (held ++ b ∷ []))
    (λ t left. calls_of codec rest t left)
calls_of codec (Ask at request ∷ rest) s held =
    ledger.Ask request at
    ∷ where_answered codec (on_request s request at).0
    (calls_of codec rest (on_request s request at).1 held)
