use Rattle.std.proofs.Common.{[], sym}
use Rattle.std.proofs.KnownBytes.{Consumes-nil, Consumes-kept, Consumes-trans}
use Rattle.mqtt5_pipe.proofs.pipe.read_once.Goals as goal

pub returns-in-Ok-clause-bytes : goal.returns-in-Ok-clause-bytes
returns-in-Ok-clause-bytes g c =
    let (more, long, grown, consumed) = c.in-Ok.ensures.ok in
    (more, Consumes-trans _ _ _ [] more (Consumes-kept _ _ _ [] (Consumes-nil _) c.loop.invariant.kept) consumed, rw c.loop.invariant.same at grown, sym long)

pub returns-in-Ok-clause-end : goal.returns-in-Ok-clause-end
returns-in-Ok-clause-end g c = rw c.loop.invariant.same at c.in-Ok.ensures.end
