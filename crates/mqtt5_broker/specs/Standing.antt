-- What holds of a broker at any time: a client has one connection at most (MQTT 5.0 sections 3.1.4 and
-- 4.1).
use Rattle.std.specs.Prelude.{◌≡◌, ℕ, List, Option, Some, None}
use Rattle.mqtt5_broker.specs.declared.member.Member.{Member}
use Rattle.mqtt5_broker.specs.Connection.{Connection, connection_at}
use Rattle.mqtt5_broker.specs.Broker.{Broker, member_at}

-- the number of a connection's client
abbrev pub client_at : ℕ → List Connection → Option ℕ
client_at c ls = (connection_at c ls).client

-- a client that is known, whose session has no moment at which it ends
abbrev pub IsHere : Option Member → Type 0
IsHere None = ⊥
IsHere (Some m) = m.ends ≡ None

-- no client has two connections; and each that has one is such a client
pub record Stands (ls : List Connection) (ms : List (Option Member)) : Type 0 where
  pub one : (c d i : ℕ) → client_at c ls ≡ Some i → client_at d ls ≡ Some i → c ≡ d
  pub here : (c i : ℕ) → client_at c ls ≡ Some i → IsHere (member_at i ms)

abbrev pub IsStanding : Broker → Type 0
IsStanding b = Stands b.connections b.members
