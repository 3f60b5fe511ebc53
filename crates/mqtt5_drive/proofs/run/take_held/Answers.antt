use Rattle.std.proofs.Common.{refl}
use Rattle.mqtt5_drive.proofs.Settles.{fronts_of}
use Rattle.mqtt5_drive.proofs.Taking.{holds}
use Rattle.mqtt5_drive.proofs.run.take_held.Goals as goal

pub returns-then-needs_more-clause-more : goal.returns-then-needs_more-clause-more
returns-then-needs_more-clause-more c = c.if-needs_more.ensures.0 refl

pub returns-then-needs_more-clause-ok : goal.returns-then-needs_more-clause-ok
returns-then-needs_more-clause-ok c = λ rest. holds (fronts_of c.front_laws.ensures.found c.front_laws.ensures.stays) _ _ rest _ _ _ (c.if-needs_more.ensures.0 refl)
