use Rattle.std.proofs.Common.{Some, ap, ◌∙◌}
use Rattle.mqtt5_c.proofs.CallLemmas.{called}
use Rattle.mqtt5_c.proofs.life.mqtt5_client_resume.Goals as goal

pub returns-clause-answer : goal.returns-clause-answer
returns-clause-answer c =
    called c.deref_mut.result.now c.resume-outcome.new.self c.resume-outcome.result (ap Some c.deref_mut.ensures.value ∙ c.in-Some.ensures.given) c.put.ensures.put c.code_of.ensures
    (c.resume-outcome.ensures.ok, c.resume-outcome.ensures.err, c.resume-outcome.ensures.unsent, c.resume-outcome.ensures.kept, c.resume-outcome.ensures.over)
