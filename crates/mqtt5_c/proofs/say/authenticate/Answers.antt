use Rattle.std.proofs.Common.{Some, ap, ◌∙◌}
use Rattle.mqtt5_c.proofs.CallLemmas.{called, on_ok}
use Rattle.mqtt5_c.proofs.say.authenticate.Goals as goal

pub returns-clause-answer : goal.returns-clause-answer
returns-clause-answer c =
    called c.deref_mut.result.now c.authenticate-outcome.new.self c.authenticate-outcome.result (ap Some c.deref_mut.ensures.value ∙ c.in-Some.ensures.given) c.put.ensures.put c.code_of.ensures (
      c.authenticate-outcome.ensures.ok,
      on_ok c.authenticate-outcome.result c.authenticate-outcome.ensures.over,
      c.authenticate-outcome.ensures.err,
      c.authenticate-outcome.ensures.unsaid,
      c.authenticate-outcome.ensures.kept,
    )
