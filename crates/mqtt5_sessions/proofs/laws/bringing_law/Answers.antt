use Rattle.mqtt5_network.specs.Asking.{identifier_of}
use Rattle.mqtt5_sessions.proofs.Brought.{all_counted}
use Rattle.mqtt5_sessions.proofs.laws.bringing_law.Goals as goal

pub returns : goal.returns
returns c = λ kept ss s. all_counted kept (identifier_of s.properties) s.filters ss ss (λ q has. has)
