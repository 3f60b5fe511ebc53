use Rattle.mqtt5_c.specs.Connected.{Put}
use Rattle.mqtt5_c.proofs.connect.mqtt5_client_connect.Goals as goal

pub returns-clause-answer : goal.returns-clause-answer
returns-clause-answer c =
    let taken = c.take_properties-properties.ensures in
    let begun = rw taken.left at c.begin.ensures.answer in
    let filled = rw c.or_empty-set.ensures at begun in
    let copied = rw c.in-Some.ensures at filled in
    Put c.in-Ok-from_utf8.ensures.cases.1 c.if-keep_alive-lt5.false c.in-Ok.set (rw taken.taken at c.in-Ok.ensures.ok) (rw c.in-Ok-from_utf8.ensures.cases.0 at copied)
