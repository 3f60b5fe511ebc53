use Rattle.std.proofs.KnownBytes.{Consumes-kept, Consumes-trans}
use Rattle.mqtt5_talk.proofs.opening.await_end.Goals.{in-Ok, in-Err}
use Rattle.mqtt5_talk.proofs.opening.await_end.Goals as goal

pub loop-preserved : goal.loop-preserved
loop-preserved g c =
    let (came, consumed) = c.loop.invariant in
    elim c.match-read.branch [
      | in-Ok w ↦ (_, Consumes-trans _ _ _ came _ consumed w.in-Ok.ensures.bytes.0)
      | in-Err w ↦ (came, Consumes-kept _ _ _ came consumed w.in-Err.ensures.bytes)
    ]
