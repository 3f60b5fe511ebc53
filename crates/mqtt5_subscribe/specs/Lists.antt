-- What Subscribe, SubAck, Unsubscribe and UnsubAck share as values of their rows: an identifier,
-- properties and a list (MQTT 5.0 sections 3.8 to 3.11).
use Rattle.std.specs.Prelude.{ℕ, List, [], ◌∷◌, Option}
use Rattle.mqtt5_base.specs.Grammar.{number, Found, plain, properties}
use Rattle.mqtt5_base.specs.Layout.{Written, just, WrittenPacket, listed}

-- a packet of an identifier, properties and a list
abbrev pub listed_packet : ℕ → ℕ → Option Found → List Written → WrittenPacket
listed_packet first id p items = record {
  first = first;
  head = just (plain (number id) ∷ properties p ∷ []);
  groups = listed items ∷ [];
}
