use Rattle.std.proofs.Common.{ap, ◌∙◌}
use Rattle.mqtt5_base.specs.Codes.{same_text}
use Rattle.mqtt5_base.proofs.text.TextClone.clone.Goals as goal

pub returns : goal.returns
returns c = record { cases = same_text _ _ (c.in_ok-clone.ensures.cases ∙ ap (λ t. t.bytes) c.self.view_is) }
