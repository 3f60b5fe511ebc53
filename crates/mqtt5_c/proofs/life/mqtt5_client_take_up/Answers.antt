use Rattle.std.proofs.Common.{Some, ap, ◌∙◌}
use Rattle.mqtt5_c.proofs.CallLemmas.{let_go}
use Rattle.mqtt5_c.proofs.life.mqtt5_client_take_up.Goals as goal

pub returns-clause-answer : goal.returns-clause-answer
returns-clause-answer c =
    let_go c.deref_mut.result.now c.take_up_in-outcome.new.holder.client c.take_up_in-outcome.result (ap Some c.deref_mut.ensures.value ∙ c.in-Some.ensures.given)
    (c.put.ensures.put ∙ ap Some c.take_up_in-outcome.ensures.rest) c.code_of.ensures c.take_up_in-outcome.ensures.taken_up
