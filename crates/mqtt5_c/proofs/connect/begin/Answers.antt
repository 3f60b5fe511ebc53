use Rattle.std.proofs.Common.{Some, ap, ◌∙◌}
use Rattle.mqtt5_c.proofs.CallLemmas.{begun}
use Rattle.mqtt5_c.proofs.connect.begin.Goals as goal

pub returns-clause-answer : goal.returns-clause-answer
returns-clause-answer c =
    begun c.deref_mut.result.now c.begin_in-outcome.new.holder.client c.begin_in-outcome.result (ap Some c.deref_mut.ensures.value ∙ c.in-Some.ensures.given)
    (c.put.ensures.put ∙ ap Some c.begin_in-outcome.ensures.rest) c.code_of.ensures c.begin_in-outcome.ensures.begun
