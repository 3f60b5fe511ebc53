use Rattle.std.proofs.Common.{[]}
use Rattle.mqtt5_talk.specs.Conversation.{Begins}
use Rattle.mqtt5_talk.proofs.Talking.{join}
use Rattle.mqtt5_talk.proofs.publishing.take_refusal.Goals as goal

pub loop-init : goal.loop-init
loop-init c = record { talks = Begins; ready = λ h. h }

pub loop-preserved : goal.loop-preserved
loop-preserved c = record {
  talks = join _ _ _ [] [] [] [] [] [] c.loop.invariant.talks c.next_refusal.ensures.talks;
  ready = λ h. c.next_refusal.ensures.ready (c.loop.invariant.ready h);
}
