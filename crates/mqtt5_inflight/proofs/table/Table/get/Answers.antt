use Rattle.std.proofs.Common.{sym, ap, ◌∙◌}
use Rattle.std.specs.FinMap.{get}
use Rattle.std.specs.Option.{option_copied}
use Rattle.mqtt5_inflight.proofs.Standing.{at_place, no_place}
use Rattle.mqtt5_inflight.proofs.table.Table.get.Goals as goal

pub returns-in_err-place : goal.returns-in_err-place
returns-in_err-place c =
    let s = c.self.inside in
    ap (λ o. option_copied o) c.from_residual.ensures
    ∙ sym (no_place s.slots.slots s.places c.args.id (sym c.in_err-place.ensures)) ∙ ap (λ m. get m c.args.id) c.self.view_is

pub returns : goal.returns
returns c =
    let s = c.self.inside in
    c.get-2.ensures
    ∙ sym (at_place s.slots.slots s.places c.self.invariant c.args.id c.in_ok-place.place (sym c.in_ok-place.ensures)) ∙ ap (λ m. get m c.args.id) c.self.view_is
