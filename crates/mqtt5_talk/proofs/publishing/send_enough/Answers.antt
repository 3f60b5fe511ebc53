use Rattle.mqtt5_talk.proofs.Talking.{nothing_told}
use Rattle.mqtt5_talk.proofs.publishing.send_enough.Goals as goal

pub returns-clause-told : goal.returns-clause-told
returns-clause-told g c = nothing_told _ _
