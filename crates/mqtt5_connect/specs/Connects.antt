-- A Connect, its will and its login as the values of its row (MQTT 5.0 section 3.1).
use Rattle.std.specs.Prelude.{ℕ, ◌==◌, ◌+◌, ◌*◌, List, [], ◌∷◌, length, Option, option_map}
use Rattle.std.specs.Prelude.{unwrap_or, if◌then◌else◌, None}
use Rattle.mqtt5_base.specs.Texts.{Utf8, text_of}
use Rattle.mqtt5_base.specs.Grammar.{number, content, Found, Value, plain, properties}
use Rattle.mqtt5_base.specs.Views.{qos_number, bit, numbers, contents, texts, pairs}
use Rattle.mqtt5_base.specs.Layout.{Written, WrittenGroup, one_or_none, WrittenPacket, just}
use Rattle.mqtt5_connect.specs.Rows.{protocol}
use Rattle.mqtt5_connect.specs.declared.connect.ConnectProperties.{ConnectProperties}
use Rattle.mqtt5_connect.specs.declared.connect.Connect.{Connect}
use Rattle.mqtt5_connect.specs.declared.will.LastWillProperties.{LastWillProperties}
use Rattle.mqtt5_connect.specs.declared.will.LastWill.{LastWill}
use Rattle.mqtt5_connect.specs.declared.login.Login.{Login}

-- the set without values (3.1.2.11)
abbrev pub no_connect_properties : ConnectProperties
no_connect_properties = record {
  session_expiry_interval = None;
  receive_maximum = None;
  max_packet_size = None;
  topic_alias_max = None;
  request_response_info = None;
  request_problem_info = None;
  user_properties = [];
  authentication_method = None;
  authentication_data = None;
}

-- the properties of a Connect (3.1.2.11)
abbrev pub connect_found : ConnectProperties → Found
connect_found s =
    numbers s.session_expiry_interval
    ∷ numbers s.receive_maximum
    ∷ numbers s.max_packet_size
    ∷ numbers s.topic_alias_max
    ∷ numbers s.request_response_info
    ∷ numbers s.request_problem_info
    ∷ pairs s.user_properties
    ∷ texts s.authentication_method
    ∷ contents s.authentication_data
    ∷ []

-- the set without values (3.1.3.2)
abbrev pub no_will_properties : LastWillProperties
no_will_properties = record {
  delay_interval = None;
  payload_format_indicator = None;
  message_expiry_interval = None;
  content_type = None;
  response_topic = None;
  correlation_data = None;
  user_properties = [];
}

-- the properties of a will (3.1.3.2)
abbrev pub will_found : LastWillProperties → Found
will_found s =
    numbers s.delay_interval
    ∷ numbers s.payload_format_indicator
    ∷ numbers s.message_expiry_interval
    ∷ texts s.content_type
    ∷ texts s.response_topic
    ∷ contents s.correlation_data
    ∷ pairs s.user_properties
    ∷ []

-- clean start, the keep alive, the properties and the client identifier (3.1.2, 3.1.3.1)
abbrev pub connect_values : Connect → List Value
connect_values c =
    plain (number (bit c.clean_start)) ∷ plain (number c.keep_alive)
    ∷ properties (option_map connect_found c.properties) ∷ plain (content c.client_id.bytes) ∷ []

-- what a will's steps keep (3.1.3.2 to 3.1.3.4)
abbrev pub will_values : LastWill → List Value
will_values w =
    properties (option_map will_found w.properties) ∷ plain (content w.topic)
    ∷ plain (content w.message) ∷ plain (number (qos_number w.qos)) ∷ plain (number (bit w.retain))
    ∷ []

-- the user name and the password (3.1.3.5, 3.1.3.6)
abbrev pub login_values : Login → List Value
login_values l = plain (content l.username.bytes) ∷ plain (content l.password.bytes) ∷ []

-- a user name and a password (3.1.3.5, 3.1.3.6)
abbrev pub login_of : List ℕ → List ℕ → Login
login_of username password = record { username = text_of username; password = text_of password }

-- ---- the connect flags (3.1.2.3)

-- a will, its QoS and its retain (3.1.2.5 to 3.1.2.7)
abbrev pub will_flags : LastWill → ℕ
will_flags w = 4 + 8 * qos_number w.qos + 32 * bit w.retain

-- an empty text has no flag
abbrev pub text_flag : ℕ → Utf8 → ℕ
text_flag worth t = if length t.bytes == 0 then 0 else worth

-- a user name and a password (3.1.2.8, 3.1.2.9)
abbrev pub login_flags : Login → ℕ
login_flags l = text_flag 128 l.username + text_flag 64 l.password

-- clean start, and the flags of the will and the login; one that is absent has none (3.1.2.3)
abbrev pub connect_flags : Connect → Option LastWill → Option Login → ℕ
connect_flags c will login =
    2 * bit c.clean_start + unwrap_or (option_map will_flags will) 0
    + unwrap_or (option_map login_flags login) 0

-- ---- as they are written

-- the will as a part of the row (3.1.3.2 to 3.1.3.4)
abbrev pub will_group : Option LastWill → WrittenGroup
will_group will = one_or_none (option_map (λ w. just (will_values w)) will)

-- the login as a part of the row (3.1.3.5, 3.1.3.6)
abbrev pub login_group : Option Login → WrittenGroup
login_group login = one_or_none (option_map (λ l. just (login_values l)) login)

-- the protocol's name and version and these flags, which a reader doesn't keep, and the values
abbrev pub connect_head : ℕ → Connect → Written
connect_head flags c = record {
  raws = plain (content protocol) ∷ plain (number 5) ∷ plain (number flags) ∷ [];
  kept = connect_values c;
}

-- the packet (3.1.1)
abbrev pub connect_packet : Connect → Option LastWill → Option Login → WrittenPacket
connect_packet c will login = record {
  first = 16;
  head = connect_head (connect_flags c will login) c;
  groups = will_group will ∷ login_group login ∷ [];
}

-- ---- a part by itself

-- the flags that a part stands under
abbrev pub under_flags : ℕ → List Value
under_flags flags = plain (number flags) ∷ []
