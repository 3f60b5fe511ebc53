use Rattle.std.proofs.Common.{◌≡◌, ◌++◌, take}
use Rattle.mqtt5_network_play.proofs.client.Client.routed.Given as goal

abbrev pub invariant-loop-i : goal.invariant-loop-i
invariant-loop-i l = l.all.items ≡ l.self.taken ++ take l.i l.self.queue
