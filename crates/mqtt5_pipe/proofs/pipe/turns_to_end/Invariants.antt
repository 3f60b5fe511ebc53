use Rattle.std.proofs.Common.{◌≡◌, ℕ, List, [], ◌∷◌}
use Rattle.std.specs.Io.KnownBytes.{Appends, Consumes}
use Rattle.mqtt5_drive.specs.Run.{piece}
use Rattle.mqtt5_client.specs.Client.{Runs}
use Rattle.mqtt5_pipe.proofs.pipe.turns_to_end.Given as goal

abbrev pub invariant-loop : goal.invariant-loop
invariant-loop g l = record {
  codec : l.client.codec ≡ l.fn.client.codec;
  over : l.client.disconnected ≡ l.fn.client.disconnected;
  carried : (came sent : List ℕ) × Consumes (g.R.Read.remaining l.fn.reader) (g.R.Read.remaining l.reader) came
      × Appends (g.W.Write.contents l.fn.writer) (g.W.Write.contents l.writer) sent
      × Runs l.fn.client (piece l.at came ∷ []) sent l.client;
}
