use Rattle.std.proofs.Common.{ap, ◌∙◌}
use Rattle.std.specs.FinSet.{remove}
use Rattle.mqtt5_inflight.proofs.Trees.{from_keys-remove}
use Rattle.mqtt5_inflight.proofs.ids.Ids.remove.Goals as goal

pub returns : goal.returns
returns c =
    from_keys-remove c.self.inside.ids c.remove.new.self c.args.id c.remove.ensures.updates.0
    ∙ ap (λ s. remove s c.args.id) c.self.view_is
