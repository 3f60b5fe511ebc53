-- A broker after any calls, one after another (MQTT 5.0 sections 4.1 and 4.2).
use Rattle.std.specs.Prelude.{ℕ, List, [], ◌∷◌}
use Rattle.mqtt5_control.specs.declared.connack.ConnectReturnCode.{ConnectReturnCode}
use Rattle.mqtt5_broker.specs.declared.bounds.Bounds.{Bounds}
use Rattle.mqtt5_broker.specs.Connection.{with_sent}
use Rattle.mqtt5_broker.specs.Broker.{Broker, on_connection, knows_user, lets}
use Rattle.mqtt5_broker.specs.Rights.{publishing, subscribing}
use Rattle.mqtt5_broker.specs.Clock.{ticks, shuts_down}
use Rattle.mqtt5_broker.specs.Bounds.{bounded, trims_at}
use Rattle.mqtt5_broker.specs.Serving.{passes_at}
use Rattle.mqtt5_broker.specs.Receiving.{receives, opens, closes}
use Rattle.mqtt5_broker.specs.Asking.{holds, identifies, rejects}

-- a connection begins; bytes of it come, and are only held, or it is of a user, or its client is turned
-- away, or they are taken; so many of those to be sent were sent; a moment comes at which the first of
-- its client's queue is passed on, or has expired; it ends; a moment comes; bounds are set; a moment
-- comes at which what exceeds them ends; the broker does; there is one user more; and one may publish or
-- subscribe within one filter more
pub data Call : Type 0 where
  Open : (at connection : ℕ) → Call
  Hold : (connection : ℕ) (bytes : List ℕ) → Call
  Identify : (connection user : ℕ) → Call
  Reject : (connection : ℕ) (code : ConnectReturnCode) → Call
  Receive : (at connection : ℕ) (bytes : List ℕ) → Call
  Sent : (connection count : ℕ) → Call
  Pass : (at connection : ℕ) → Call
  Close : (at connection : ℕ) → Call
  Tick : (at : ℕ) → Call
  SetBounds : (bounds : Bounds) → Call
  Trim : (at : ℕ) → Call
  ShutDown : (at : ℕ) → Call
  AddUser : Call
  AllowPublish : (user : ℕ) (topic_filter : List ℕ) → Call
  AllowSubscribe : (user : ℕ) (topic_filter : List ℕ) → Call

-- what comes of it, where memory isn't refused
abbrev pub after_call : Call → Broker → Broker
after_call (Open at c) b = opens at c b
after_call (Hold c bytes) b = holds c bytes b
after_call (Identify c u) b = identifies c u b
after_call (Reject c code) b = rejects c code b
after_call (Receive at c bytes) b = receives at c bytes b
after_call (Sent c count) b = on_connection c (with_sent count) b
after_call (Pass at c) b = passes_at at c b
after_call (Close at c) b = closes at c b
after_call (Tick at) b = ticks at b
after_call (SetBounds bounds) b = bounded bounds b
after_call (Trim at) b = trims_at at b
after_call (ShutDown at) b = shuts_down at b
after_call AddUser b = knows_user b
after_call (AllowPublish u f) b = lets u (publishing f) b
after_call (AllowSubscribe u f) b = lets u (subscribing f) b

abbrev pub after_calls : List Call → Broker → Broker
after_calls [] b = b
after_calls (c ∷ cs) b = after_calls cs (after_call c b)
