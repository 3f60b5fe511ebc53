use Rattle.std.proofs.Common.{take, All}
use Rattle.mqtt5_talk.specs.Answers.{IsSuccess}
use Rattle.mqtt5_talk.proofs.subscribing.first_refusal.Given as goal

abbrev pub invariant-loop-code : goal.invariant-loop-code
invariant-loop-code l = All IsSuccess (take l.code-index l.codes)
