use Rattle.std.proofs.Common.{◌≡◌, ℕ, List, drop}
use Rattle.mqtt5_streams.specs.ByteWorld.{sent, with_front, all_bytes}
use Rattle.mqtt5_streams.proofs.way.Way.send_all.Given as goal

abbrev pub invariant-loop-packet : goal.invariant-loop-packet
invariant-loop-packet l = (bytes : List ℕ) × (l.self ≡ sent l.initial.self bytes) × (with_front bytes (all_bytes l.limit (drop l.packet-index l.packets)) ≡ all_bytes l.limit l.packets)
