use Rattle.std.proofs.Common.{Some}
use Rattle.mqtt5_broker.proofs.Cutting.{pieces}
use Rattle.mqtt5_broker.proofs.Pieces.{same}
use Rattle.mqtt5_broker.proofs.laws.pieces_law.Goals as goal

pub returns-clause-cut : goal.returns-clause-cut
returns-clause-cut c = λ limit xs ys held. pieces limit xs ys held

pub returns-clause-same : goal.returns-clause-same
returns-clause-same c = λ at i xs ys b. same at i xs ys b (c.front_laws.ensures.found (Some b.longest)) (c.front_laws.ensures.stays (Some b.longest))
