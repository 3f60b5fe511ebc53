use Rattle.std.proofs.Common.{◌≡◌, drop}
use Rattle.mqtt5_client.specs.Again.{frames_of, frames_behind}
use Rattle.mqtt5_client.proofs.again.frames.Given as goal

abbrev pub invariant-loop-packet : goal.invariant-loop-packet
invariant-loop-packet l = frames_behind l.frames.items l.codec (drop l.packet-index l.packets.items) ≡ frames_of l.codec l.packets.items
