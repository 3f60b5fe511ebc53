-- What a broker does, step by step: an act by which nobody's turn in a shared subscription and nobody's part in one changes; a packet
-- that comes to a session, with the turns that it finds and leaves; and the end of a session, with its turns.
use Rattle.std.proofs.Common.{ℕ, List, [], ◌∷◌}
use Rattle.std.specs.Prelude.{⊤}
use Rattle.mqtt5_codec.specs.declared.packet.Packet.{Packet}
use Rattle.mqtt5_sessions.specs.Sessions.{ends}
use Rattle.mqtt5_sessions.specs.Runs.{SessionEvent, Arrives, Ends, Turns}
use Rattle.mqtt5_broker.specs.Groups.{groups_without, sessions_without}
use Rattle.mqtt5_broker.specs.Broker.{Broker}
use Rattle.mqtt5_broker.specs.Serving.{comes_to_session}
use Rattle.mqtt5_broker.specs.Acts.{Act, Session, Regroup, act}

abbrev pub IsOther : SessionEvent → Type 0
IsOther (Arrives i x) = ⊥
IsOther (Ends i) = ⊥
IsOther (Turns i f on) = ⊥
IsOther other = ⊤

abbrev pub IsPlain : Act → Type 0
IsPlain (Session e) = IsOther e
IsPlain (Regroup gs) = ⊥
IsPlain other = ⊤

pub data Step : Type 0 where
  Do : (a : Act) → IsPlain a → Step
  Comes : (client : ℕ) (packet : Packet) → Step
  Leaves : (client : ℕ) → Step

abbrev pub leaves : ℕ → Broker → Broker
leaves i b = record b { sessions = sessions_without i b.groups (ends i b.sessions); groups = groups_without i b.groups }

abbrev pub step : Step → Broker → Broker
step (Do a h) b = act a b
step (Comes i x) b = comes_to_session i x b
step (Leaves i) b = leaves i b

abbrev pub steps : List Step → Broker → Broker
steps [] b = b
steps (d ∷ ds) b = steps ds (step d b)
