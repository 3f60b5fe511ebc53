use Rattle.std.proofs.Common.{◌≡◌, ◌++◌, drop, map}
use Rattle.mqtt5_session.specs.Packets.{pubrec_of}
use Rattle.mqtt5_session.proofs.state.parts.push_recs.Given as goal

abbrev pub invariant-loop-id : goal.invariant-loop-id
invariant-loop-id l = l.packets.items ++ map pubrec_of (drop l.id-index l.ids.items) ≡ l.fn.packets.items ++ map pubrec_of l.ids.items
