-- This file serves the logic alone: packets from the values of their rows.
use Rattle.std.specs.Prelude.{ℕ, zero, suc, ◌==◌, List, [], ◌∷◌, Option, None, option_map}
use Rattle.mqtt5_base.specs.Texts.{text_of}
use Rattle.mqtt5_base.specs.Grammar.{Found, Value, Group, optional, several, Content, number_in}
use Rattle.mqtt5_base.specs.FromValues.{qos_of, one_number, one_content, one_text, all_pairs}
use Rattle.mqtt5_base.specs.FromValues.{here_in, content_in, found_in}
use Rattle.mqtt5_connect.specs.declared.connect.ConnectProperties.{ConnectProperties}
use Rattle.mqtt5_connect.specs.declared.connect.Connect.{Connect}
use Rattle.mqtt5_connect.specs.declared.will.LastWillProperties.{LastWillProperties}
use Rattle.mqtt5_connect.specs.declared.will.LastWill.{LastWill}
use Rattle.mqtt5_connect.specs.declared.login.Login.{Login}

-- the properties of a Connect from their values
abbrev pub connect_set : Found → ConnectProperties
connect_set f = record {
  session_expiry_interval = one_number (here_in f 0);
  receive_maximum = one_number (here_in f 1);
  max_packet_size = one_number (here_in f 2);
  topic_alias_max = one_number (here_in f 3);
  request_response_info = one_number (here_in f 4);
  request_problem_info = one_number (here_in f 5);
  user_properties = all_pairs (here_in f 6);
  authentication_method = one_text (here_in f 7);
  authentication_data = one_content (here_in f 8);
}

-- the properties of a will from their values
abbrev pub will_set : Found → LastWillProperties
will_set f = record {
  delay_interval = one_number (here_in f 0);
  payload_format_indicator = one_number (here_in f 1);
  message_expiry_interval = one_number (here_in f 2);
  content_type = one_text (here_in f 3);
  response_topic = one_text (here_in f 4);
  correlation_data = one_content (here_in f 5);
  user_properties = all_pairs (here_in f 6);
}

-- a will from what its steps keep
abbrev pub will_from : List Value → LastWill
will_from vs = record {
  topic = content_in vs 1;
  message = content_in vs 2;
  qos = qos_of (number_in vs 3);
  retain = number_in vs 4 == 1;
  properties = option_map will_set (found_in vs 0);
}

-- a login from what its steps keep
abbrev pub login_from : List Value → Login
login_from vs = record {
  username = text_of (content_in vs 0);
  password = text_of (content_in vs 1);
}

-- the values of a part that may be absent, by its place in the row
abbrev pub optional_in : List Group → ℕ → Option (List Value)
optional_in [] k = None
optional_in (optional o ∷ gs) zero = o
optional_in (several vss ∷ gs) zero = None
optional_in (g ∷ gs) (suc k) = optional_in gs k

-- the Connect of a packet's values
abbrev pub connect_of : Content → Connect
connect_of c = record {
  keep_alive = number_in c.0 1;
  client_id = text_of (content_in c.0 3);
  clean_start = number_in c.0 0 == 1;
  properties = option_map connect_set (found_in c.0 2);
}

-- the will of a packet's values
abbrev pub connect_will : Content → Option LastWill
connect_will c = option_map will_from (optional_in c.1 0)

-- the login of a packet's values
abbrev pub connect_login : Content → Option Login
connect_login c = option_map login_from (optional_in c.1 1)
