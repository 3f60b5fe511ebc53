use Rattle.std.proofs.Common.{◌++◌, append-nil, sym, ap, ◌∙◌, subst}
use Rattle.mqtt5_topic_index.specs.Index.{Finds}
use Rattle.mqtt5_sessions.specs.Coming.{coming_among}
use Rattle.mqtt5_sessions.proofs.Found.{all_found}
use Rattle.mqtt5_sessions.proofs.coming.of_publish.Goals as goal

pub returns : goal.returns
returns c =
    let i = c.args.client in
    let p = c.args.publish.now in
    let cs = c.args.clients.now in
    let x = c.args.index.now in
    let found = c.in_ok-found.found in
    let es = c.loop-number.coming.items in
    let finds = subst (λ t. Finds x t found) c.as_slice.ensures c.in_ok-found.ensures in
    sym (append-nil es)
    ∙ ap (λ ks. es ++ coming_among i p cs ks) (sym c.in-None.ensures.steps.0)
    ∙ c.loop-number.invariant
    ∙ ap (coming_among i p cs) c.into_iter-number-iterator.ensures.into_iter_gives.0
    ∙ all_found x found i p cs c.into_iter-number-iterator.ensures.into_iter_gives.4 finds c.requires
