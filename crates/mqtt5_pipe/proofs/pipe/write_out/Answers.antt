use Rattle.std.proofs.Common.{◌++◌, sym, ap, ◌∙◌}
use Rattle.std.proofs.KnownBytes.{Appends-kept}
use Rattle.bytes.specs.Filled.{Filled}
use Rattle.mqtt5_pipe.proofs.Written.{took}
use Rattle.mqtt5_pipe.proofs.pipe.write_out.Goals.{in-Ok, in-Err}
use Rattle.mqtt5_pipe.proofs.pipe.write_out.Goals as goal

pub loop-preserved : goal.loop-preserved
loop-preserved g c =
    let (sent, appended, split) = c.loop.invariant in
    elim c.match-write.branch [
      | in-Ok w ↦ took _ _ _ c.args.output.now.items sent c.loop.output.items c.match-write.output.items w.in-Ok.count appended split
          (rw c.as_slice.ensures at w.in-Ok.ensures.bytes) (ap (λ (o : Filled). o.items) w.output-is ∙ w.advance.ensures.items)
      | in-Err w ↦ (sent, Appends-kept _ _ _ sent appended w.in-Err.ensures.bytes, split ∙ ap (λ (o : Filled). sent ++ o.items) (sym w.output-is))
    ]
