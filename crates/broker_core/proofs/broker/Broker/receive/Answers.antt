use Rattle.std.proofs.Common.{[], ◌∷◌, ◌++◌}
use Rattle.broker_core.proofs.Received.{taken_more, served_more}
use Rattle.broker_core.proofs.broker.Broker.receive.Goals as goal

pub loop-packet-preserved : goal.loop-packet-preserved
loop-packet-preserved c =
    let before = c.loop-packet.invariant in
    let taken = rw c.in-Some.is at c.in_ok-packet.ensures.decodes in (
      before.0 ++ c.in-Some.packet ∷ [],
      taken_more _ _ _ _ _ _ before.1 taken,
      served_more _ _ _ _ _ _ before.2 c.in_ok-served.ensures.ok.0 c.in_ok-served.ensures.ok.1,
    )
