use Rattle.std.proofs.Common.{◌≡◌, ◌++◌}
use Rattle.std.specs.List.{flat_map}
use Rattle.mqtt5_client.specs.TakingUp.{unfitting}
use Rattle.mqtt5_client.specs.Resending.{all_fitting}
use Rattle.mqtt5_client.proofs.TakingUp.{Resends}
use Rattle.mqtt5_client.proofs.taking_up.resent.Given as goal

abbrev pub invariant-loop-request : goal.invariant-loop-request
invariant-loop-request l = record {
  sends : Resends (all_fitting l.codec l.fn.requests.items l.fn.state l.at) l.codec l.request-iterator.rest.items l.state l.at l.fault l.frames.items;
  gives : l.given.items ++ flat_map (unfitting l.codec) l.request-iterator.rest.items ≡ l.fn.given.items ++ flat_map (unfitting l.codec) l.fn.requests.items;
}
