use Rattle.std.proofs.Common.{List, subst}
use Rattle.mqtt5_talk.specs.Conversation.{Saying, SendsOnly}
use Rattle.mqtt5_talk.proofs.Talking.{nothing_told}
use Rattle.mqtt5_talk.proofs.subscribing.acknowledge.Goals as goal

pub returns-in-None-clause-told : goal.returns-in-None-clause-told
returns-in-None-clause-told g c =
    let w = g.W.Write.contents c.args.writer.now in
    subst (λ (said : List Saying). SendsOnly w w c.args.client.now said c.args.client.now) c.in-None.ensures (nothing_told w c.args.client.now)
