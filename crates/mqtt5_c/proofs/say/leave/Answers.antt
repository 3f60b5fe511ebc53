use Rattle.std.proofs.Common.{Some, ap, ◌∙◌}
use Rattle.mqtt5_c.proofs.CallLemmas.{called}
use Rattle.mqtt5_c.proofs.say.leave.Goals as goal

pub returns-clause-answer : goal.returns-clause-answer
returns-clause-answer c =
    called c.deref_mut.result.now c.disconnect-outcome.new.self c.disconnect-outcome.result (ap Some c.deref_mut.ensures.value ∙ c.in-Some.ensures.given) c.put.ensures.put c.code_of.ensures (
      c.disconnect-outcome.ensures.ok,
      c.disconnect-outcome.ensures.over,
      c.disconnect-outcome.ensures.err,
      c.disconnect-outcome.ensures.unsaid,
      c.disconnect-outcome.ensures.kept,
    )
