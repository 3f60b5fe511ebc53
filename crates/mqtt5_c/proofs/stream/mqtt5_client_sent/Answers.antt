use Rattle.std.proofs.Common.{Some, Ok, refl, ap, ◌∙◌}
use Rattle.mqtt5_c.proofs.CallLemmas.{called}
use Rattle.mqtt5_c.proofs.stream.mqtt5_client_sent.Goals as goal

pub returns-clause-answer : goal.returns-clause-answer
returns-clause-answer c =
    called c.deref_mut.result.now c.sent.new.self (Ok tt) (ap Some c.deref_mut.ensures.value ∙ c.in-Some.ensures.given) c.put.ensures.put refl (refl, c.sent.ensures.left, c.sent.ensures.kept, c.sent.ensures.over)
