use Rattle.std.proofs.Common.{Some, ap, ◌∙◌}
use Rattle.mqtt5_c.proofs.CallLemmas.{called}
use Rattle.mqtt5_c.proofs.stream.mqtt5_client_receive.Goals as goal

pub returns-clause-answer : goal.returns-clause-answer
returns-clause-answer c =
    called c.deref_mut.result.now c.receive-outcome.new.self c.receive-outcome.result (ap Some c.deref_mut.ensures.value ∙ c.in-Some.ensures.given) c.put.ensures.put c.code_of.ensures
    (c.receive-outcome.ensures.ok, c.receive-outcome.ensures.err, c.receive-outcome.ensures.lost, c.receive-outcome.ensures.codec, c.receive-outcome.ensures.over)
