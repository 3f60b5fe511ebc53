use Rattle.std.proofs.Common.{[]}
use Rattle.mqtt5_talk.specs.Conversation.{Begins}
use Rattle.mqtt5_talk.proofs.Talking.{join}
use Rattle.mqtt5_talk.proofs.opening.take_reason.Goals as goal

pub loop-init : goal.loop-init
loop-init c = Begins

pub loop-preserved : goal.loop-preserved
loop-preserved c = join _ _ _ [] [] [] [] [] [] c.loop.invariant c.next_reason.ensures.talks
