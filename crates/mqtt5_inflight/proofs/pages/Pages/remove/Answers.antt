use Rattle.std.proofs.Common.{arith, sym, ap, ◌∙◌}
use Rattle.std.specs.FinMap.{get, remove}
use Rattle.mqtt5_inflight.proofs.PlacesOf.{get_place, same_places, sets_remove}
use Rattle.mqtt5_inflight.proofs.pages.Pages.remove.Goals as goal

pub returns-in_err-place-clause-place : goal.returns-in_err-place-clause-place
returns-in_err-place-clause-place c =
    c.from_residual.ensures ∙ c.in_err-place.ensures.place
    ∙ sym (get_place c.self.inside.pages c.args.id (omega arith)) ∙ ap (λ m. get m c.args.id) c.self.view_is

pub returns-in_err-place-clause-free : goal.returns-in_err-place-clause-free
returns-in_err-place-clause-free c =
    sets_remove c.self.inside.pages c.take.new.pages c.args.id (omega arith) c.take.ensures.free
    ∙ ap (λ m. remove m c.args.id) c.self.view_is

pub returns-clause-place : goal.returns-clause-place
returns-clause-place c =
    c.in_ok-place.ensures.place
    ∙ sym (get_place c.self.inside.pages c.args.id (omega arith)) ∙ ap (λ m. get m c.args.id) c.self.view_is

pub returns-clause-free : goal.returns-clause-free
returns-clause-free c =
    same_places c.take.new.pages c.let_go-self-inside.new.pages c.let_go-self-inside.ensures
    ∙ sets_remove c.self.inside.pages c.take.new.pages c.args.id (omega arith) c.take.ensures.free
    ∙ ap (λ m. remove m c.args.id) c.self.view_is
