use Rattle.std.proofs.Common.{◌≡◌, List, length}
use Rattle.mqtt5_codec.specs.declared.packet.Packet.{Packet}
use Rattle.mqtt5_show.specs.Shown.{ShowsAll}
use Rattle.mqtt5_show.proofs.capture.Capture.show_frames.Given as goal

abbrev pub invariant-loop : goal.invariant-loop
invariant-loop g l = record {
  codec : l.self.codec ≡ l.fn.self.codec;
  digits : l.self.digits ≡ l.fn.self.digits;
  shown : (ps : List Packet) × ShowsAll g.S.Screen.shows l.fn.self.codec.max_incoming_size l.fn.self.stream.items l.fn.screen ps l.self.stream.items l.screen;
}

abbrev pub decreases-loop : goal.decreases-loop
decreases-loop g l = length l.self.stream.items
