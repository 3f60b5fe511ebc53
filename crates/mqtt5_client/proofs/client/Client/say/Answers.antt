use Rattle.std.proofs.Common.{refl, ◌∙◌}
use Rattle.mqtt5_client.proofs.Requested.{cut}
use Rattle.mqtt5_client.proofs.Said.{answer_said, unsaid_still}
use Rattle.mqtt5_client.proofs.client.Client.say.Goals as goal

pub returns-in-Ok-answer_said-clause-ok : goal.returns-in-Ok-answer_said-clause-ok
returns-in-Ok-answer_said-clause-ok c = (
  c.if-self.false,
  answer_said c.args.self.now.state _ c.args.packet c.args.at c.in-Ok-answer_said.sent c.in-Ok-answer_said.ensures,
  (c.in-Ok.ensures.0, c.in-Ok.ensures.1, c.in-Ok.ensures.3),
)

pub returns-in-Err-answer_said-clause-unsaid : goal.returns-in-Err-answer_said-clause-unsaid
returns-in-Err-answer_said-clause-unsaid c = (
  unsaid_still c.in-Err-answer_said.refused _ _ c.args.packet c.args.at c.in-Err-answer_said.ensures,
  c.truncate.ensures.items ∙ cut _ _ c.in-Ok.ensures.0 _ c.in-Ok.ensures.3 c.len-length.ensures.value,
  refl,
)
