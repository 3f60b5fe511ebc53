use Rattle.std.proofs.Common.{[]}
use Rattle.mqtt5_talk.specs.Conversation.{Conversation}
use Rattle.mqtt5_talk.proofs.opening.take_reason.Given as goal

abbrev pub invariant-loop : goal.invariant-loop
invariant-loop l = Conversation l.fn.client [] [] [] l.client
