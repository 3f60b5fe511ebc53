use Rattle.std.proofs.Common.{Some, ap, ◌∙◌}
use Rattle.mqtt5_c.proofs.CallLemmas.{called}
use Rattle.mqtt5_c.proofs.ask.ask.Goals as goal

pub returns-clause-answer : goal.returns-clause-answer
returns-clause-answer c =
    called c.deref_mut.result.now c.request-outcome.new.self c.request-outcome.result (ap Some c.deref_mut.ensures.value ∙ c.in-Some.ensures.given) c.put.ensures.put c.code_of.ensures (
      c.request-outcome.ensures.ok,
      c.request-outcome.ensures.connected,
      c.request-outcome.ensures.err,
      c.request-outcome.ensures.unchanged,
      c.request-outcome.ensures.unsent,
      c.request-outcome.ensures.over,
      c.request-outcome.ensures.kept,
    )
