use Rattle.std.proofs.Common.{◌≡◌, take, map}
use Rattle.mqtt5_network.specs.Network.{begins}
use Rattle.mqtt5_network_play.proofs.network.Network.new.Given as goal

abbrev pub invariant-loop-profile : goal.invariant-loop-profile
invariant-loop-profile l = l.places.items ≡ map begins (take l.profile-index l.profiles)
