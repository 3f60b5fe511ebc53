use Rattle.std.proofs.Common.{◌≡◌, take, map}
use Rattle.mqtt5_network_play.specs.Reports.{told}
use Rattle.mqtt5_network_play.proofs.network.reports.Given as goal

abbrev pub invariant-loop-place : goal.invariant-loop-place
invariant-loop-place l = l.reports ≡ map told (take l.place-index l.places)
