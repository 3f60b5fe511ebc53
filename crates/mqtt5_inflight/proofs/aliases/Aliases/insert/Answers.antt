use Rattle.std.proofs.Common.{ap, ◌∙◌}
use Rattle.std.specs.FinMap.{insert}
use Rattle.mqtt5_inflight.proofs.Trees.{from_tree-insert}
use Rattle.mqtt5_inflight.proofs.aliases.Aliases.insert.Goals as goal

pub returns-clause-ok : goal.returns-clause-ok
returns-clause-ok c =
    from_tree-insert c.self.inside.topics c.insert.new.self c.args.alias c.args.topic c.in_ok-insert.ensures.updates.0
    ∙ ap (λ m. insert m c.args.alias c.args.topic) c.self.view_is
