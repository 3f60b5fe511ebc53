use Rattle.std.proofs.Common.{◌≡◌, ◌++◌, ◌+◌, ◌≤◌, length, drop}
use Rattle.std.specs.List.{filter_map}
use Rattle.std.specs.VecDeque.{deque_len, deque_capacity}
use Rattle.mqtt5_session.specs.Again.{event_for}
use Rattle.mqtt5_session.proofs.state.resuming.tell_all.Given as goal

abbrev pub invariant-loop-packet : goal.invariant-loop-packet
invariant-loop-packet l = (l.events.items ++ filter_map event_for (drop l.packet-index l.packets.items) ≡ l.fn.events.items ++ filter_map event_for l.packets.items) × (deque_len l.events + length (drop l.packet-index l.packets.items) ≤ deque_capacity l.events)
