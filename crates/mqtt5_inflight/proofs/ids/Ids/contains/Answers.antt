use Rattle.std.proofs.Common.{sym, ap, ◌∙◌}
use Rattle.std.specs.FinSet.{contains}
use Rattle.mqtt5_inflight.proofs.Trees.{contains-from_keys}
use Rattle.mqtt5_inflight.proofs.ids.Ids.contains.Goals as goal

pub returns : goal.returns
returns c = c.contains.ensures ∙ sym (contains-from_keys c.self.inside.ids c.args.id) ∙ ap (λ s. contains s c.args.id) c.self.view_is
