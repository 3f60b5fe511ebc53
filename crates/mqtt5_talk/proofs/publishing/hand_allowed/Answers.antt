use Rattle.std.proofs.Common.{[], subst}
use Rattle.std.specs.Prelude.{Option}
use Rattle.mqtt5_talk.specs.declared.capabilities.Forbidden.{Forbidden}
use Rattle.mqtt5_talk.specs.Conversation.{Conversation, Begins}
use Rattle.mqtt5_talk.specs.Published.{asks_unless}
use Rattle.mqtt5_talk.proofs.publishing.hand_allowed.Goals as goal

pub returns-in-Some-clause-said : goal.returns-in-Some-clause-said
returns-in-Some-clause-said c =
    subst (λ (f : Option Forbidden). Conversation c.args.client.now (asks_unless f c.args.message) [] [] c.args.client.now) c.in-Some.ensures Begins
