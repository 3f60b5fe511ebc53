use Rattle.std.proofs.Common.{◌≡◌, [], Some, length}
use Rattle.mqtt5_broker.specs.Cut.{cut_up}
use Rattle.mqtt5_broker.specs.Receiving.{comes_of}
use Rattle.mqtt5_broker.proofs.broker.Broker.take_frames.Given as goal

abbrev pub invariant-loop-packet : goal.invariant-loop-packet
invariant-loop-packet l = comes_of l.connection (cut_up (Some l.longest) l.initial.stream.items []) l.initial.self ≡ comes_of l.connection (cut_up (Some l.longest) l.stream.items []) l.self

abbrev pub decreases-loop-packet : goal.decreases-loop-packet
decreases-loop-packet l = length l.stream.items
