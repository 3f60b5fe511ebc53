use Rattle.std.proofs.Common.{Ok, refl}
use Rattle.mqtt5_c.proofs.CallLemmas.{called}
use Rattle.mqtt5_c.proofs.stream.mqtt5_client_output.Goals as goal

pub returns-clause-answer : goal.returns-clause-answer
returns-clause-answer c =
    called c.in-Some.holder.value c.in-Some.holder.value.client (Ok tt) c.in-Some.ensures.given c.put.ensures.put refl (refl, refl)
