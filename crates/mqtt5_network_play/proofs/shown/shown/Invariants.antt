use Rattle.std.proofs.Common.{◌≡◌, take}
use Rattle.std.specs.List.{filter_map}
use Rattle.mqtt5_network.specs.Receiver.{publish_in}
use Rattle.mqtt5_network_play.proofs.shown.shown.Given as goal

abbrev pub invariant-loop-i : goal.invariant-loop-i
invariant-loop-i l = l.shown.items ≡ filter_map publish_in (take l.i l.events.items)
