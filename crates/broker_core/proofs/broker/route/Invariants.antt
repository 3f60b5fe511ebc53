use Rattle.std.proofs.Common.{◌≡◌, ◌++◌, map, take, drop}
use Rattle.broker_core.specs.Clients.{passed}
use Rattle.broker_core.proofs.broker.route.Given as goal

abbrev pub invariant-loop-client : goal.invariant-loop-client
invariant-loop-client l = take l.client-index l.clients ++ map (passed l.topic l.packet) (drop l.client-index l.clients) ≡ map (passed l.topic l.packet) l.initial.clients
