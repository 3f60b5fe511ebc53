-- A Connect, its will and its login are what is made again of their values.
use Rattle.std.proofs.Common.{◌≡◌, Option, Some, None, ap, refl}
use Rattle.mqtt5_base.specs.Layout.{content_of_packet}
use Rattle.mqtt5_base.specs.Codes.{text_back}
use Rattle.mqtt5_base.proofs.ViewsBack.{qos_back, bit_back, numbers_back, contents_back, texts_back, pairs_back, set_back}
use Rattle.mqtt5_connect.specs.declared.connect.ConnectProperties.{ConnectProperties}
use Rattle.mqtt5_connect.specs.declared.connect.Connect.{Connect}
use Rattle.mqtt5_connect.specs.declared.will.LastWillProperties.{LastWillProperties}
use Rattle.mqtt5_connect.specs.declared.will.LastWill.{LastWill}
use Rattle.mqtt5_connect.specs.declared.login.Login.{Login}
use Rattle.mqtt5_connect.specs.Connects.{connect_found, will_found, will_values, login_values, connect_packet}
use Rattle.mqtt5_connect.specs.FromValues.{connect_set, will_set, will_from, login_from, connect_of, connect_will, connect_login}

-- the properties of a Connect are those of their values
connect_set_back : (s : ConnectProperties) → connect_set (connect_found s) ≡ s
connect_set_back s = λ i. record {
  session_expiry_interval = numbers_back s.session_expiry_interval i;
  receive_maximum = numbers_back s.receive_maximum i;
  max_packet_size = numbers_back s.max_packet_size i;
  topic_alias_max = numbers_back s.topic_alias_max i;
  request_response_info = numbers_back s.request_response_info i;
  request_problem_info = numbers_back s.request_problem_info i;
  user_properties = pairs_back s.user_properties i;
  authentication_method = texts_back s.authentication_method i;
  authentication_data = contents_back s.authentication_data i;
}

-- the properties of a will are those of their values
will_set_back : (s : LastWillProperties) → will_set (will_found s) ≡ s
will_set_back s = λ i. record {
  delay_interval = numbers_back s.delay_interval i;
  payload_format_indicator = numbers_back s.payload_format_indicator i;
  message_expiry_interval = numbers_back s.message_expiry_interval i;
  content_type = texts_back s.content_type i;
  response_topic = texts_back s.response_topic i;
  correlation_data = contents_back s.correlation_data i;
  user_properties = pairs_back s.user_properties i;
}

-- a will is the one of its values
will_from_back : (w : LastWill) → will_from (will_values w) ≡ w
will_from_back w = λ i. record { topic = w.topic; message = w.message; qos = qos_back w.qos i; retain = bit_back w.retain i; properties = set_back will_found will_set will_set_back w.properties i }

-- a login is the one of its values
login_from_back : (l : Login) → login_from (login_values l) ≡ l
login_from_back l = λ i. record { username = text_back l.username i; password = text_back l.password i }

-- A Connect is the one of its values.
pub connect_back : (c : Connect) (will : Option LastWill) (login : Option Login) → connect_of (content_of_packet (connect_packet c will login)) ≡ c
connect_back c will login = λ i. record { keep_alive = c.keep_alive; client_id = text_back c.client_id i; clean_start = bit_back c.clean_start i; properties = set_back connect_found connect_set connect_set_back c.properties i }

-- Its will is.
pub will_back : (c : Connect) (will : Option LastWill) (login : Option Login) → connect_will (content_of_packet (connect_packet c will login)) ≡ will
will_back c None login = refl
will_back c (Some w) login = ap (λ v. Some v) (will_from_back w)

-- So is its login.
pub login_back : (c : Connect) (will : Option LastWill) (login : Option Login) → connect_login (content_of_packet (connect_packet c will login)) ≡ login
login_back c will None = refl
login_back c will (Some l) = ap (λ v. Some v) (login_from_back l)
