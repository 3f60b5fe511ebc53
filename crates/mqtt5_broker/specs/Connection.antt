-- What a broker keeps of a connection (MQTT 5.0 sections 3.1.2.10, 3.1.2.11.4, 3.3.2.3.4 and 4.2).
use Rattle.std.specs.Prelude.{ℕ, ◌==◌, Bool, true, false, List, [], ◌∷◌, ◌++◌, drop, Option, Some}
use Rattle.std.specs.Prelude.{None, Result, Ok, Err, slice_index_or, slice_set, if◌then◌else◌}
use Rattle.std.specs.List.{position}
use Rattle.std.specs.FinMap as map
use Rattle.mqtt5_base.specs.declared.error.Error.{Error}
use Rattle.mqtt5_control.specs.declared.disconnect.DisconnectReasonCode.{DisconnectReasonCode}
use Rattle.mqtt5_codec.specs.declared.packet.Packet.{Packet}
use Rattle.mqtt5_codec.specs.Packets.{writing_under}
use Rattle.mqtt5_session.specs.Session.{Topics}
use Rattle.mqtt5_broker.specs.Moments.{unless_zero}
use Rattle.mqtt5_broker.specs.Reasons.{farewell}

-- whether bytes of it are taken; the number of the client that connected on it; that of the user that
-- it is of, if it is one's; the longest packet that this client takes; the bytes that came in and are
-- no whole frame yet; those to be sent; for how many milliseconds it may be silent, or 0 for any time;
-- the moment at which it was silent for too long, if it isn't heard before; and the topics that its
-- client's aliases stand for
pub record Connection : Type 0 where
  pub is_open : Bool
  pub client : Option ℕ
  pub user : Option ℕ
  pub longest : Option ℕ
  pub held : List ℕ
  pub output : List ℕ
  pub silence : ℕ
  pub deadline : Option ℕ
  pub aliases : Topics

-- none
abbrev pub closed : Connection
closed = record {
  is_open = false;
  client = None;
  user = None;
  longest = None;
  held = [];
  output = [];
  silence = 0;
  deadline = None;
  aliases = map.empty;
}

-- one that begins at a moment, of which nothing came; it may be silent for so long
abbrev pub opened : ℕ → ℕ → Connection
opened silence at = record {
  is_open = true;
  client = None;
  user = None;
  longest = None;
  held = [];
  output = [];
  silence = silence;
  deadline = unless_zero silence at;
  aliases = map.empty;
}

-- it is heard at a moment (3.1.2.10)
abbrev pub heard : ℕ → Connection → Connection
heard at l = record l { deadline = unless_zero l.silence at }

-- it is that of a client, which takes packets of this length at most, and may be silent for so long
-- from a moment on
abbrev pub taken_by : ℕ → Option ℕ → ℕ → ℕ → Connection → Connection
taken_by i longest silence at l = record l {
  client = Some i;
  longest = longest;
  silence = silence;
  deadline = unless_zero silence at;
}

-- it is of a user (5.4.1)
abbrev pub of_user : ℕ → Connection → Connection
of_user u l = record l { user = Some u }

-- nothing more is taken of it; what was written is still to be sent
abbrev pub shut : Connection → Connection
shut l = record l { is_open = false; client = None; held = []; deadline = None }

-- a packet is written to it; one that can't be written, or is longer than the client takes, isn't
-- (3.1.2.11.4)
abbrev pub with_bytes : Result (List ℕ) Error → Connection → Connection
with_bytes (Ok bytes) l = record l { output = l.output ++ bytes }
with_bytes (Err e) l = l

unfoldable pub written : Packet → Connection → Connection
written p l = with_bytes (writing_under l.longest p) l

-- so of many, in order
abbrev pub written_all : List Packet → Connection → Connection
written_all [] l = l
written_all (p ∷ ps) l = written_all ps (written p l)

-- its client is told why it ends, and nothing more is taken of it (4.13)
abbrev pub told : DisconnectReasonCode → Connection → Connection
told reason l = shut (written (farewell l.longest reason) l)

-- none are held
abbrev pub emptied : Connection → Connection
emptied l = record l { held = [] }

-- bytes are held, where more are taken
abbrev pub holding : List ℕ → Connection → Connection
holding bytes l = if l.is_open then record l { held = bytes } else l

-- an alias stands for a topic from now on (3.3.2.3.4)
abbrev pub learned : ℕ → List ℕ → Connection → Connection
learned a t l = record l { aliases = map.insert l.aliases a t }

-- the topic that one stands for: no byte where it isn't known
abbrev pub or_no_byte : Option (List ℕ) → List ℕ
or_no_byte None = []
or_no_byte (Some t) = t

abbrev pub learned_topic : ℕ → Connection → List ℕ
learned_topic a l = or_no_byte (map.get l.aliases a)

-- so many bytes were sent
abbrev pub with_sent : ℕ → Connection → Connection
with_sent n l = record l { output = drop n l.output }

-- ---- of many

-- the one of a number
abbrev pub connection_at : ℕ → List Connection → Connection
connection_at c ls = slice_index_or ls c closed

-- it changes
abbrev pub with_connection : ℕ → (Connection → Connection) → List Connection → List Connection
with_connection c f ls = slice_set ls c (f (connection_at c ls))

-- whether one is that of a client
abbrev pub is_client : ℕ → Option ℕ → Bool
is_client i None = false
is_client i (Some n) = n == i

abbrev pub is_of : ℕ → Connection → Bool
is_of i l = is_client i l.client

-- the one of a client
abbrev pub connection_of : ℕ → List Connection → Option ℕ
connection_of i ls = position (is_of i) ls
