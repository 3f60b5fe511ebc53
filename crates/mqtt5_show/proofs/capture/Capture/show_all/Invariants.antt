use Rattle.std.proofs.Common.{◌≡◌, ℕ, List, ◌++◌}
use Rattle.std.specs.Prelude.{None}
use Rattle.std.specs.Io.KnownBytes.{Consumes}
use Rattle.mqtt5_codec.specs.declared.packet.Packet.{Packet}
use Rattle.mqtt5_show.specs.Shown.{ShowsAll}
use Rattle.mqtt5_show.proofs.capture.Capture.show_all.Given as goal

abbrev pub invariant-loop : goal.invariant-loop
invariant-loop g l = record {
  codec : l.self.codec ≡ l.fn.self.codec;
  digits : l.fn.self.digits ≡ None → l.self.digits ≡ None;
  shown : l.fn.self.digits ≡ None → (came : List ℕ) × (ps : List Packet) × Consumes (g.R.Read.remaining l.fn.input) (g.R.Read.remaining l.input) came
      × ShowsAll g.S.Screen.shows l.fn.self.codec.max_incoming_size (l.fn.self.stream.items ++ came) l.fn.screen ps l.self.stream.items l.screen;
}
