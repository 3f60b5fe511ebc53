use Rattle.std.proofs.Common.{inl}
use Rattle.mqtt5_c.specs.Settings.{Put, Declined}
use Rattle.mqtt5_c.proofs.CallLemmas.{declined}
use Rattle.mqtt5_c.proofs.settings.mqtt5_client_set_will.Goals as goal

pub returns-in-Ok-will_of-clause-answer : goal.returns-in-Ok-will_of-clause-answer
returns-in-Ok-will_of-clause-answer c =
    let taken = c.take_properties-properties.ensures in
    let kept = rw taken.left at c.keep_will.ensures.answer in
    Put c.in-Ok-will_of.will c.in-Ok.set c.in-Ok-will_of.ensures.ok (rw taken.taken at c.in-Ok.ensures.ok) (rw c.will_with.ensures at kept)

pub returns-in-Err-will_of-clause-answer : goal.returns-in-Err-will_of-clause-answer
returns-in-Err-will_of-clause-answer c =
    Declined (declined (λ bad. inl bad) c.in-Err-will_of.ensures.err) c.take_properties-properties.ensures.left
