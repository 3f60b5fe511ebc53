-- The settings of a client. Those of its Connect are in MQTT 5.0 section 3.1.
use Rattle.std.specs.Prelude.{ℕ, Bool, true, false, Option, Some, None, unwrap_or}
use Rattle.std.specs.declared.time.Duration.{Duration}
use Rattle.mqtt5_base.specs.Texts.{Utf8}
use Rattle.mqtt5_connect.specs.declared.connect.ConnectProperties.{ConnectProperties}
use Rattle.mqtt5_connect.specs.declared.will.LastWill.{LastWill}
use Rattle.mqtt5_connect.specs.declared.login.Login.{Login}
use Rattle.mqtt5_connect.specs.Connects.{no_connect_properties}

-- what a client knows of itself, of its broker and of how it goes on
pub record Settings : Type 0 where
  -- the host and the port of the broker
  pub broker_address : Utf8 × ℕ
  -- the client identifier (3.1.3.1)
  pub client_id : Utf8
  -- what the server publishes for the client once it is lost (3.1.2.5)
  pub last_will : Option LastWill
  -- the user name and the password (3.1.3.5, 3.1.3.6)
  pub credentials : Option Login
  -- the longest time without a packet from the client (3.1.2.10)
  pub keep_alive : Duration
  -- whether the server forgets the client's last session (3.1.2.4)
  pub clean_start : Bool
  -- the properties of the Connect (3.1.2.11)
  pub connect_properties : Option ConnectProperties
  -- how many requests may wait to be taken
  pub request_channel_capacity : ℕ
  -- the time between two packets that are sent again
  pub pending_throttle : Duration
  -- how many seconds a connection may take to open
  pub connection_timeout : ℕ
  -- whether the user sends the acks
  pub manual_acks : Bool
  -- the most outgoing publishes that may be without an ack
  pub outgoing_inflight_upper_limit : Option ℕ

-- a span of whole seconds
abbrev pub seconds : ℕ → Duration
seconds n = record { secs = n; nanos = 0 }

-- the settings of a client of which no more than its identifier and its broker's host and port is
-- known
abbrev pub defaults : Utf8 → Utf8 → ℕ → Settings
defaults id host port = record {
  broker_address = (host, port);
  client_id = id;
  last_will = None;
  credentials = None;
  keep_alive = seconds 60;
  clean_start = true;
  connect_properties = None;
  request_channel_capacity = 10;
  pending_throttle = seconds 0;
  connection_timeout = 5;
  manual_acks = false;
  outgoing_inflight_upper_limit = None;
}

-- the properties of the Connect, where there are none those of an empty block (3.1.2.11)
abbrev pub properties_of : Settings → ConnectProperties
properties_of s = unwrap_or s.connect_properties no_connect_properties

-- the settings with these properties of the Connect (3.1.2.11)
abbrev pub with_properties : Settings → ConnectProperties → Settings
with_properties s p = record s { connect_properties = Some p }
