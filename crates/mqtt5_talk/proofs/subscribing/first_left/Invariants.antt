use Rattle.std.proofs.Common.{take, All}
use Rattle.mqtt5_talk.specs.Answers.{IsEnded}
use Rattle.mqtt5_talk.proofs.subscribing.first_left.Given as goal

abbrev pub invariant-loop-reason : goal.invariant-loop-reason
invariant-loop-reason l = All IsEnded (take l.reason-index l.reasons)
