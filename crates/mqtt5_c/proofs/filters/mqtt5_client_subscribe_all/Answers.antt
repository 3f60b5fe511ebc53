use Rattle.std.proofs.Common.{◌∙◌}
use Rattle.mqtt5_c.specs.Asked.{Put}
use Rattle.mqtt5_c.proofs.CallLemmas.{same_filters}
use Rattle.mqtt5_c.proofs.filters.mqtt5_client_subscribe_all.Goals as goal

pub returns-in-Ok-clause-answer : goal.returns-in-Ok-clause-answer
returns-in-Ok-clause-answer c =
    let properties = c.take_properties-properties.ensures in let filters = c.take_filters-filters.ensures in
    let are_same = (rw properties.left at filters.taken) ∙ same_filters c.args.h.now.client_ptr.value in
    let are_left = rw properties.left at filters.left in
    let asked = rw properties.taken at c.in-Ok.ensures.ok in
    Put c.in-Ok.request (rw are_same at asked) (rw are_left at c.ask.ensures.answer)
