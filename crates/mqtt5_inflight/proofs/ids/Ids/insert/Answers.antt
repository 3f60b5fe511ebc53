use Rattle.std.proofs.Common.{ap, ◌∙◌}
use Rattle.std.specs.FinSet.{insert}
use Rattle.mqtt5_inflight.proofs.Trees.{from_keys-insert}
use Rattle.mqtt5_inflight.proofs.ids.Ids.insert.Goals as goal

pub returns-clause-ok : goal.returns-clause-ok
returns-clause-ok c =
    from_keys-insert c.self.inside.ids c.insert.new.self c.args.id c.in_ok-insert.ensures.updates.0
    ∙ ap (λ s. insert s c.args.id) c.self.view_is
