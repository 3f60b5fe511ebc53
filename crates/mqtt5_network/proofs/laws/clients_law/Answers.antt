use Rattle.mqtt5_network.proofs.Counted.{has_tokens, done}
use Rattle.mqtt5_network.proofs.Places.{here_of}
use Rattle.mqtt5_network.proofs.Joined.{joined, place_of}
use Rattle.mqtt5_network.proofs.laws.clients_law.Goals as goal

pub returns-clause-tokens : goal.returns-clause-tokens
returns-clause-tokens c = λ n p id reached has here. has_tokens n.handed p.client (here_of n.handed p (place_of n p (joined n reached) has) here) id

pub returns-clause-done : goal.returns-clause-done
returns-clause-done c = λ n p reached has rest. done n.handed p.client (here_of n.handed p (place_of n p (joined n reached) has) rest.here) rest.up rest.down
