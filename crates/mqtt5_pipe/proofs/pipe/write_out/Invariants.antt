use Rattle.std.proofs.Common.{◌≡◌, ℕ, List, ◌++◌}
use Rattle.std.specs.Io.KnownBytes.{Appends}
use Rattle.mqtt5_pipe.proofs.pipe.write_out.Given as goal

abbrev pub invariant-loop : goal.invariant-loop
invariant-loop g l = (sent : List ℕ) × Appends (g.W.Write.contents l.fn.writer) (g.W.Write.contents l.writer) sent × (l.fn.output.items ≡ sent ++ l.output.items)
