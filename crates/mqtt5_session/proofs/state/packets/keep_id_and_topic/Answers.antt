use Rattle.std.proofs.Common.{ap, sym, ◌∙◌}
use Rattle.std.specs.FinSet.{remove}
use Rattle.mqtt5_session.proofs.Sets.{insert-again, remove-insert}
use Rattle.mqtt5_session.proofs.state.packets.keep_id_and_topic.Goals as goal

-- the id is taken out again
pub returns-then-not-was_kept-clause-ids_stay : goal.returns-then-not-was_kept-clause-ids_stay
returns-then-not-was_kept-clause-ids_stay c =
    c.remove.ensures ∙ ap (λ ids. remove ids c.args.id) c.in_ok-insert.ensures.ok ∙ remove-insert c.args.ids.now c.args.id (sym c.contains-was_kept.ensures ∙ c.if-not-was_kept.true)

-- it was there before
pub returns-else-not-was_kept-clause-ids_stay : goal.returns-else-not-was_kept-clause-ids_stay
returns-else-not-was_kept-clause-ids_stay c = c.in_ok-insert.ensures.ok ∙ insert-again c.args.ids.now c.args.id (sym c.contains-was_kept.ensures ∙ c.if-not-was_kept.false)
