use Rattle.std.proofs.Common.{sym, ap, ◌∙◌}
use Rattle.std.specs.FinMap.{get}
use Rattle.mqtt5_inflight.proofs.Trees.{get-from_tree}
use Rattle.mqtt5_inflight.proofs.aliases.Aliases.get.Goals as goal

pub returns : goal.returns
returns c = c.get.ensures.value ∙ sym (get-from_tree c.self.inside.topics c.args.alias) ∙ ap (λ m. get m c.args.alias) c.self.view_is
