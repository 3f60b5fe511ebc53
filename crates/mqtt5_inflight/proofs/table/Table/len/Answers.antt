use Rattle.std.proofs.Common.{ap, ◌∙◌}
use Rattle.std.specs.FinMap.{len}
use Rattle.mqtt5_inflight.proofs.Standing.{len_held}
use Rattle.mqtt5_inflight.proofs.table.Table.len.Goals as goal

pub returns : goal.returns
returns c = c.len.ensures ∙ len_held c.self.inside.slots.slots c.self.inside.places c.self.invariant ∙ ap len c.self.view_is
